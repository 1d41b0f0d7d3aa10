-- Trees whose needs have no lines.
use Rattle.std.proofs.Common.{◌≡◌, Bool, false, ◌||◌, cond, List, [], ◌∷◌, ◌++◌, Option, refl}
use Rattle.std.proofs.Common.{sym, ap, ◌∙◌, flat_map, append-nil}
use Rattle.std.specs.List.{list_any}
use Rattle.std.proofs.lemmas.Bool.{or_parts}
use Rattle.module_facts.specs.declared.facts.Facts.{Facts}
use Rattle.name_table.specs.NameTable.{Table, place_of}
use Rattle.symbol_binding.specs.declared.unbound.Unbound.{Unbound}
use Rattle.provider_rel.specs.declared.unmet.UnmetKind.{UnmetKind}
use Rattle.provider_rel.specs.declared.unmet.UnmetKind.TheVariants.{Missing, Gpl, Version}
use Rattle.provider_rel.specs.declared.unmet.UnmetKind.TheVariants.{Namespace}
use Rattle.module_symbols.specs.declared.needs.Need.{Need as StatedNeed}
use Rattle.provider_rel.specs.Items.{Item, item_under, path_under}
use Rattle.provider_rel.specs.Kinds.{fails, has_line, has_lines, line_if, line_of, lines_by}
use Rattle.provider_rel.specs.Kinds.{with_need_lines}

-- items without images
none-each : {X Y : Type 0} (p : X → Bool) (f : X → List Y) → ((x : X) → p x ≡ false → f x ≡ [])
    → (xs : List X) → list_any p xs ≡ false → flat_map f xs ≡ []
none-each p f none [] is = refl
none-each p f none (x ∷ xs) is =
    let here = or_parts (p x) (list_any p xs) is in
    ap (λ ys. ys ++ flat_map f xs) (none x here.0) ∙ none-each p f none xs here.1

module _ (known : Bool) (f : Facts) (n : StatedNeed) (found : Option Item)
    (is : has_line known f n found ≡ false) where
  abbrev no : UnmetKind → Bool
  no kind = fails kind known f n found

  all : ((no Missing || no Gpl || no Version) ≡ false) × (no Namespace ≡ false)
  all = or_parts (no Missing || no Gpl || no Version) (no Namespace) is

  three : ((no Missing || no Gpl) ≡ false) × (no Version ≡ false)
  three = or_parts (no Missing || no Gpl) (no Version) all.0

  passes : (kind : UnmetKind) → no kind ≡ false
  passes Missing = (or_parts (no Missing) (no Gpl) three.0).0
  passes Gpl = (or_parts (no Missing) (no Gpl) three.0).1
  passes Version = three.1
  passes Namespace = all.1

  need-silent : (kind : UnmetKind) → line_if kind known f n found ≡ []
  unfolding line_if
  need-silent kind
      = ap (λ b. cond b (line_of kind f.path n.name (path_under known found) ∷ []) [])
      (passes kind)

module _ (known : Bool) (is : List Item) (names : Table) where
  module-silent : (kind : UnmetKind) (f : Facts) → has_lines known is names f ≡ false
      → lines_by kind known is names f ≡ []
  module-silent kind f
      = none-each
      (λ (n : StatedNeed). has_line known f n (item_under is (place_of names n.name)))
      (λ (n : StatedNeed). line_if kind known f n (item_under is (place_of names n.name)))
      (λ n none. need-silent known f n (item_under is (place_of names n.name)) none kind)
      f.needs

  tree-silent : (kind : UnmetKind) (tree : List Facts)
      → list_any (has_lines known is names) tree ≡ false
      → flat_map (lines_by kind known is names) tree ≡ []
  tree-silent kind
      = none-each (has_lines known is names) (lines_by kind known is names) (module-silent kind)

  -- a tree without a line adds none
  pub nothing-added : (before : List Unbound) (tree : List Facts)
      → list_any (has_lines known is names) tree ≡ false
      → before ≡ with_need_lines known is names tree before
  nothing-added before tree none =
      let step = λ (lines : List Unbound) (kind : UnmetKind).
      ap (λ more. lines ++ more) (tree-silent kind tree none) ∙ append-nil lines in
      sym (
      ap (λ lines. ((lines ++ flat_map (lines_by Gpl known is names) tree)
      ++ flat_map (lines_by Version known is names) tree)
      ++ flat_map (lines_by Namespace known is names) tree) (step before Missing)
      ∙ ap (λ lines. (lines ++ flat_map (lines_by Version known is names) tree)
      ++ flat_map (lines_by Namespace known is names) tree) (step before Gpl)
      ∙ ap (λ lines. lines ++ flat_map (lines_by Namespace known is names) tree)
      (step before Version)
      ∙ step before Namespace)
