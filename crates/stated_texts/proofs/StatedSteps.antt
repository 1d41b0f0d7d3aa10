-- The lines and the values of what modules state.
use Rattle.std.proofs.Common.{◌≡◌, refl, sym, ap, ◌∙◌, subst, ℕ, ◌<◌, Bool, true, false, cond, List}
use Rattle.std.proofs.Common.{[], ◌∷◌, ◌++◌, length, map, get_or, flat_map, filter, codes, All}
use Rattle.std.proofs.Common.{Option, Some, None, is_some, append_assoc, arith}
use Rattle.std.specs.List.{filter_map, enumerate_from}
use Rattle.std.specs.Option.{IfSome}
use Rattle.std.specs.Global.{Vec}
use Rattle.std.proofs.lemmas.List.{get_or-map, length-map}
use Rattle.std.proofs.lemmas.List.Elements.{All-nil, All-cons, All-map}
use Rattle.std.proofs.lemmas.Grind.{flat_map-append}
use Rattle.km_names.specs.Ascii.{is_graphic}
use Rattle.km_names.specs.AliasForm.{normal_alias}
use Rattle.index_format.specs.Map.{IsKey}
use Rattle.index_write.proofs.VisibleWords.{both, key-of, characters, normal-key}
use Rattle.module_symbols.specs.declared.exports.Export.{Export}
use Rattle.module_facts.specs.declared.facts.Facts.{Facts}
use Rattle.provider_rel.specs.Tree.{IsTreeModule}
use Rattle.stated_texts.specs.declared.stated.StatedKind.{StatedKind}
use Rattle.stated_texts.specs.declared.stated.StatedKind.TheVariants.{Alias, Softdep, Symbol}
use Rattle.stated_texts.specs.Lines.{ended, lines_text}
use Rattle.stated_texts.specs.Maps.{map_of}
use Rattle.stated_texts.specs.Stated.{is_usable_alias, symbols_of}
use Rattle.stated_texts.specs.Stated.{alias_text, softdep_text, symbols_text, alias_map}
use Rattle.stated_texts.specs.Stated.{symbols_map}
use Rattle.stated_texts.specs.Stated.{symbol_values}
use Rattle.stated_texts.specs.Kinds.{heading, key_of, map_by, map_for, text_of, texts_of}
use Rattle.stated_texts.specs.Kinds.{values_by}
use Rattle.stated_texts.specs.Kinds.{line_of as stated_line}
use Rattle.stated_texts.specs.AllStated.{AreStated}

-- a line on a symbol in the pieces in which it is put
pub symbol-line : (kind : StatedKind) (stated name : List ℕ) → kind ≡ Symbol
    → codes "alias symbol:" ++ (stated ++ (32 ∷ (name ++ 10 ∷ [])))
    ≡ ended (stated_line kind name stated)
symbol-line kind stated name is =
    ap (λ bytes. codes "alias symbol:" ++ bytes) (sym (append_assoc stated (32 ∷ name) (10 ∷ [])))
    ∙ ap (λ k. ended (stated_line k name stated)) (sym is)

-- what is kept of a list
kept-all : {X : Type 0} (q : X → Bool) (P : X → Type 0) → ((x : X) → q x ≡ true → P x)
    → (xs : List X) → All P (filter q xs)
kept-all q P good [] = All-nil P
kept-all q P good (x ∷ xs) = one (q x) refl (kept-all q P good xs)
  where
    one : (keeps : Bool) → q x ≡ keeps → All P (filter q xs)
        → All P (cond keeps (x ∷ filter q xs) (filter q xs))
    one true is rest = All-cons P x (filter q xs) (good x is) rest
    one false is rest = rest

-- the keys of what a module states
usable-key : (alias : List ℕ) → is_usable_alias alias ≡ true → IfSome (normal_alias alias) IsKey
unfolding is_usable_alias
usable-key alias usable = go (normal_alias alias) refl
  where
    word : is_graphic alias ≡ true
    word = (both (is_graphic alias) (is_some (normal_alias alias)) usable).0

    go : (o : Option (List ℕ)) → normal_alias alias ≡ o → IfSome o IsKey
    go None is = tt
    go (Some key) is = normal-key alias key word is

pub stated-keys : (kind : StatedKind) (f : Facts) → IsTreeModule f
    → All (λ text. IfSome (key_of kind text) IsKey) (texts_of kind f)
stated-keys Alias f good =
    kept-all is_usable_alias (λ text. IfSome (normal_alias text) IsKey) usable-key f.aliases
stated-keys Softdep f good = λ k d inside. tt
stated-keys Symbol f good =
    All-map (λ (symbol : List ℕ). IsKey (codes "symbol:" ++ symbol)) (λ (e : Export). e.name)
    f.exports
    (λ k d inside. key-of (codes "symbol:" ++ (get_or f.exports k d).name)
    (characters (get_or f.exports k d).name (good.exports k d inside)))

-- lists that are seen as lists of what is at their places
seen-at : {X Y Z : Type 0} (see : X → Z) (f : Y → Z) (xs : List X) (ys : List Y) (i : ℕ) (x : X)
    (y : Y)
    → map see xs ≡ map f ys → i < length xs → i < length ys → x ≡ get_or xs i x → y ≡ get_or ys i y
    → see x ≡ f y
seen-at see f xs ys i x y same within inside is other =
    ap see is ∙ sym (get_or-map see xs i x (see x) within) ∙ ap (λ l. get_or l i (see x)) same
    ∙ get_or-map f ys i y (see x) inside ∙ ap f (sym other)

-- there is a list for each module
pub stated-long : (kind : StatedKind) (tree : List Facts)
    (all : List (Vec (List ℕ)))
    → AreStated kind tree all → length all ≡ length tree
stated-long kind tree all are =
    let see = λ (v : Vec (List ℕ)). v.items in
    omega (arith, ap length are, length-map all see, length-map tree (texts_of kind))

-- what the module at a place states
pub stated-at : (kind : StatedKind) (tree : List Facts)
    (all : List (Vec (List ℕ))) (i : ℕ) (v : Vec (List ℕ)) (f : Facts)
    → AreStated kind tree all → i < length tree → v ≡ get_or all i v → f ≡ get_or tree i f
    → v.items ≡ texts_of kind f
stated-at kind tree all i v f are within is at =
    let see = λ (v : Vec (List ℕ)). v.items in
    let inside : i < length all = omega (arith, within, stated-long kind tree all are) in
    seen-at see (texts_of kind) all tree i v f are inside within is at

-- the texts of lists of lines, one after the other
pub text-of-lists : {X : Type 0} (f : X → List (List ℕ)) (xs : List X)
    → flat_map (λ x. lines_text (f x)) xs ≡ lines_text (flat_map f xs)
text-of-lists f [] = refl
text-of-lists f (x ∷ xs) =
    ap (λ bytes. lines_text (f x) ++ bytes) (text-of-lists f xs)
    ∙ sym (flat_map-append ended (f x) (flat_map f xs))

-- a module of a tree that was read at its place
pub tree-module : (tree items : List Facts) (i : ℕ) (f : Facts) → items ≡ tree → i < length items
    → f ≡ get_or items i f → All IsTreeModule tree → IsTreeModule f
tree-module tree items i f same inside is good =
    subst IsTreeModule (sym (is ∙ ap (λ l. get_or l i f) same))
    (good i f (omega (arith, ap length same)))

-- The lines of a module.
abbrev pub lines_by : StatedKind → Facts → List (List ℕ)
lines_by kind f = map (stated_line kind f.name) (texts_of kind f)

-- the same, as they are read
pub lines-seen : (kind : StatedKind) (f : Facts) (name : List ℕ) (all : List (List ℕ))
    → name ≡ f.name → all ≡ texts_of kind f
    → map (stated_line kind name) all ≡ lines_by kind f
lines-seen kind f name all named are = λ i. map (stated_line kind (named i)) (are i)

-- The lines of the file, put one after the other.
abbrev pub text_by : StatedKind → List Facts → List ℕ
text_by kind tree = lines_text (heading kind ∷ flat_map (lines_by kind) tree)

-- what modules state, by its kind
pub kind-text : (kind : StatedKind) (tree : List Facts) → text_by kind tree ≡ text_of kind tree
unfolding alias_text softdep_text symbols_text
kind-text Alias tree = refl
kind-text Softdep tree = refl
kind-text Symbol tree = refl

all-kept : {X Y : Type 0} (f : X → Y) (xs : List X) → filter_map (λ x. Some (f x)) xs ≡ map f xs
all-kept f [] = refl
all-kept f (x ∷ xs) = ap (λ ys. f x ∷ ys) (all-kept f xs)

same-each : {X Y : Type 0} (f g : X → List Y) → ((x : X) → f x ≡ g x) → (xs : List X)
    → flat_map f xs ≡ flat_map g xs
same-each f g same [] = refl
same-each f g same (x ∷ xs) = λ i. same x i ++ same-each f g same xs i

pub kind-map : (kind : StatedKind) (tree : List Facts) → map_by kind tree ≡ map_for kind tree
unfolding alias_map symbols_map
kind-map Alias tree = refl
kind-map Softdep tree = refl
kind-map Symbol tree =
    ap map_of (same-each (values_by Symbol) symbol_values
    (λ m. all-kept (λ symbol. (codes "symbol:" ++ symbol, (m.0, m.1.name))) (symbols_of m.1))
    (enumerate_from 0 tree))
