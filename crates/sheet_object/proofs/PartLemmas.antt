-- The sections of a sheet.
use Rattle.std.proofs.Common.{◌≡◌, ℕ, ◌≤◌, Bool, true, nat_le, List, [], ◌∷◌, ◌++◌, length, All}
use Rattle.std.proofs.Common.{refl, ap, ◌∙◌, arith}
use Rattle.std.proofs.lemmas.Bool.{leb-true, and_from}
use Rattle.std.proofs.lemmas.List.{append_assoc, length-append}
use Rattle.std.proofs.lemmas.List.Folds.{list_all-append}
use Rattle.std.specs.List.{list_all}
use Rattle.elf_write.specs.declared.part.Attributes.{Attributes}
use Rattle.elf_write.specs.declared.part.Part.{Part}
use Rattle.sheet_object.specs.declared.sheet.Sheet.{Sheet}
use Rattle.sheet_object.specs.declared.sheet.SheetMore.{SheetMore}
use Rattle.sheet_object.specs.Further.{unless_empty, version_parts, gpl_parts, space_parts}
use Rattle.sheet_object.specs.Further.{further_parts}
use Rattle.sheet_object.specs.Object.{loaded_parts, linked_parts, parts_of}
use Rattle.sheet_object.proofs.FurtherLemmas.{two-more}
use Rattle.sheet_object.proofs.SheetLemmas.{All-from_test}

-- a section's name is short
abbrev is_short : Part → Bool
is_short p = nat_le (length p.name) 32

unless-few : {X : Type 0} (xs : List X) (parts : List Part)
    → length (unless_empty xs parts) ≤ length parts
unless-few [] parts = omega arith
unless-few (x ∷ xs) parts = omega arith

unless-short : {X : Type 0} (xs : List X) (parts : List Part) → list_all is_short parts ≡ true
    → list_all is_short (unless_empty xs parts) ≡ true
unless-short [] parts h = refl
unless-short (x ∷ xs) parts h = h

further-few : (m : SheetMore) → length (further_parts m) ≤ 4
unfolding further_parts
further-few m =
    let versions : length (version_parts m) ≤ 2 = unless-few m.ext _ in
    let gpl : length (gpl_parts m) ≤ 1 = unless-few m.gpl _ in
    let spaces : length (space_parts m) ≤ 1 = unless-few m.spaces _ in
    omega (
      arith,
      length-append (version_parts m ++ gpl_parts m) (space_parts m),
      length-append (version_parts m) (gpl_parts m),
    )

further-short : (m : SheetMore) → list_all is_short (further_parts m) ≡ true
unfolding further_parts
further-short m =
    let versions : list_all is_short (version_parts m) ≡ true = unless-short m.ext _ refl in
    let gpl : list_all is_short (gpl_parts m) ≡ true = unless-short m.gpl _ refl in
    let spaces : list_all is_short (space_parts m) ≡ true = unless-short m.spaces _ refl in
    list_all-append is_short (version_parts m ++ gpl_parts m) (space_parts m)
    ∙ and_from _ _
    (list_all-append is_short (version_parts m) (gpl_parts m) ∙ and_from _ _ versions gpl)
    spaces

pub parts-few : (s : Sheet) (m : SheetMore) → length (parts_of s m) ≤ 16
unfolding parts_of loaded_parts linked_parts
parts-few s m = omega (arith, further-few m)

pub parts-short : (s : Sheet) (m : SheetMore)
    → All (λ (p : Part). length p.name ≤ 32) (parts_of s m)
unfolding parts_of loaded_parts linked_parts
parts-short s m =
    All-from_test is_short (λ p. length p.name ≤ 32) (parts_of s m)
    (λ p h. leb-true (length p.name) 32 h) (further-short m)

-- a section, by its name, attributes and content
abbrev pub part : List ℕ → Attributes → List ℕ → Part
part name attributes content = record { name = name; attributes = attributes; content = content }

-- sections put at the end
pub three-more : (old a b c : List Part) (p q r : Part) → a ≡ old ++ p ∷ [] → b ≡ a ++ q ∷ []
    → c ≡ b ++ r ∷ [] → c ≡ old ++ p ∷ q ∷ r ∷ []
three-more old a b c p q r first second third =
    third ∙ ap (λ l. l ++ r ∷ []) (two-more old a b p q first second)
    ∙ append_assoc old (p ∷ q ∷ []) (r ∷ [])

pub four-more : (old a b c d : List Part) (p q r s : Part) → a ≡ old ++ p ∷ [] → b ≡ a ++ q ∷ []
    → c ≡ b ++ r ∷ [] → d ≡ c ++ s ∷ [] → d ≡ old ++ p ∷ q ∷ r ∷ s ∷ []
four-more old a b c d p q r s first second third fourth =
    fourth ∙ ap (λ l. l ++ s ∷ []) (three-more old a b c p q r first second third)
    ∙ append_assoc old (p ∷ q ∷ r ∷ []) (s ∷ [])
