-- Dependency lines.
use Rattle.std.proofs.Common.{◌≡◌, refl, sym, ap, ◌∙◌, subst, ℕ, zero, suc, ◌+◌, ◌<◌, List, []}
use Rattle.std.proofs.Common.{◌∷◌, ◌++◌, length, map, drop, get_or, flat_map, reverse, All}
use Rattle.std.proofs.Common.{append_assoc, arith}
use Rattle.std.proofs.lemmas.List.{reverse-append, drop_more, map-append, append-nil}
use Rattle.std.proofs.lemmas.List.Elements.{All-nil, All-cons, All-append, All-head, All-tail}
use Rattle.std.proofs.lemmas.List.Folds.{flat_map-map}
use Rattle.std.proofs.lemmas.Grind.{flat_map-append}
use Rattle.km_names.specs.declared.conf.TreeIndex.{TreeIndex}
use Rattle.index_format.specs.Map.{IsText}
use Rattle.index_write.proofs.VisibleWords.{graphic-text}
use Rattle.module_facts.specs.declared.facts.Facts.{Facts}
use Rattle.provider_rel.specs.Tree.{IsTreeModule}
use Rattle.stated_texts.specs.declared.text.Text.{Text}
use Rattle.stated_texts.specs.Text.{with_piece}
use Rattle.stated_texts.proofs.TextSteps.{with_piece-append}
use Rattle.depmod_core.specs.Dependencies.{path_at, line_of}

-- the items from a place on, turned round
pub turned : {X : Type 0} (xs : List X) (n : ℕ) (d : X) → n < length xs
    → reverse (drop n xs) ≡ reverse (drop (n + 1) xs) ++ get_or xs n d ∷ []
turned xs n d inside =
    ap reverse (drop_more xs n d inside) ∙ reverse-append (get_or xs n d ∷ []) (drop (n + 1) xs)

turned-map : {X Y : Type 0} (f : X → Y) (xs : List X) → map f (reverse xs) ≡ reverse (map f xs)
turned-map f [] = refl
turned-map f (x ∷ xs) =
    ap (map f) (reverse-append (x ∷ []) xs)
    ∙ map-append f (reverse xs) (x ∷ [])
    ∙ ap (λ ys. ys ++ f x ∷ []) (turned-map f xs)
    ∙ sym (reverse-append (f x ∷ []) (map f xs))

-- a line in the pieces in which it is put
pub line-pieces : (tree : List Facts) (f : Facts) (places : List TreeIndex)
    → (f.path ++ 58 ∷ [])
    ++ flat_map (λ (place : TreeIndex). 32 ∷ path_at tree place.0) (reverse places)
    ≡ line_of tree (f, map (λ (i : TreeIndex). i.0) places)
line-pieces tree f places =
    let at = λ (i : TreeIndex). i.0 in
    append_assoc f.path (58 ∷ [])
    (flat_map (λ (place : TreeIndex). 32 ∷ path_at tree place.0) (reverse places))
    ∙ ap (λ paths. f.path ++ 58 ∷ paths) (
    sym (flat_map-map (λ (n : ℕ). 32 ∷ path_at tree n) at (reverse places))
    ∙ sym (flat_map-map (λ (other : List ℕ). 32 ∷ other) (path_at tree) (map at (reverse places)))
    ∙ ap (λ ns. flat_map (λ (other : List ℕ). 32 ∷ other) (map (path_at tree) ns))
    (turned-map at places))

-- the step of a loop that puts the paths from the last on
pub put-turned : {X : Type 0} (f : X → List ℕ) (t s next : Text) (xs : List X) (n m : ℕ) (d : X)
    → m + 1 ≡ n → m < length xs → s ≡ with_piece t (flat_map f (reverse (drop n xs)))
    → next ≡ with_piece s (f (get_or xs m d))
    → next ≡ with_piece t (flat_map f (reverse (drop m xs)))
put-turned f t s next xs n m d back inside before after =
    let x = get_or xs m d in
    let later = flat_map f (reverse (drop (m + 1) xs)) in
    after
    ∙ ap (λ u. with_piece u (f x))
    (before ∙ ap (λ k. with_piece t (flat_map f (reverse (drop k xs)))) (sym back))
    ∙ with_piece-append t later (f x)
    ∙ ap (with_piece t) (
    ap (λ bytes. later ++ bytes) (sym (append-nil (f x)))
    ∙ sym (flat_map-append f (reverse (drop (m + 1) xs)) (x ∷ []))
    ∙ ap (flat_map f) (sym (turned xs m d inside)))

-- all of what some lists have
All-flat : {X Y : Type 0} (P : Y → Type 0) (f : X → List Y) (xs : List X) → ((x : X) → All P (f x))
    → All P (flat_map f xs)
All-flat P f [] each = All-nil P
All-flat P f (x ∷ xs) each = All-append P (f x) (flat_map f xs) (each x) (All-flat P f xs each)

-- a path of a tree, and a line, as a text of an index
path-text : (tree : List Facts) (place : ℕ) → All IsTreeModule tree → IsText (path_at tree place)
path-text [] place all = All-nil (λ (b : ℕ). 0 < b)
path-text (f ∷ tree) zero all = graphic-text f.path (All-head IsTreeModule f tree all).path
path-text (f ∷ tree) (suc place) all = path-text tree place (All-tail IsTreeModule f tree all)

pub line-text : (tree : List Facts) (f : Facts) (places : List ℕ) → All IsTreeModule tree
    → IsTreeModule f → IsText (line_of tree (f, places))
line-text tree f places all good =
    let P = λ (b : ℕ). 0 < b in
    let others = map (path_at tree) (reverse places) in
    let each = λ (n : ℕ). All-cons P 32 (path_at tree n) (omega arith) (path-text tree n all) in
    let paths : All P (flat_map (λ (other : List ℕ). 32 ∷ other) others) =
    subst (All P)
    (sym (flat_map-map (λ (other : List ℕ). 32 ∷ other) (path_at tree) (reverse places)))
    (All-flat P (λ (n : ℕ). 32 ∷ path_at tree n) (reverse places) each) in
    All-append P f.path (58 ∷ flat_map (λ (other : List ℕ). 32 ∷ other) others)
    (graphic-text f.path good.path) (All-cons P 58 _ (omega arith) paths)
