-- Sections put one after the other, and their names.
use Rattle.std.proofs.Common.{◌≡◌, ℕ, List, [], ◌∷◌, ◌++◌, map, sym, ap, ◌∙◌}
use Rattle.std.proofs.lemmas.List.{append_assoc}
use Rattle.std.proofs.lemmas.List.Concat.{flat_map-append}
use Rattle.std.proofs.lemmas.List.Folds.{flat_map-map}
use Rattle.std.specs.List.{flat_map}
use Rattle.elf_write.specs.declared.part.Attributes.{Attributes}
use Rattle.elf_write.specs.declared.part.Part.{Part}
use Rattle.elf_write.specs.Number.{with_nul}
use Rattle.elf_write.specs.Part.{section_names}

-- a section, by its name, attributes and content
abbrev pub part : List ℕ → Attributes → List ℕ → Part
part name attributes content = record { name = name; attributes = attributes; content = content }

-- three sections put at the end
pub three-more : (old a b c : List Part) (p q r : Part) → a ≡ old ++ p ∷ [] → b ≡ a ++ q ∷ []
    → c ≡ b ++ r ∷ [] → c ≡ old ++ p ∷ q ∷ r ∷ []
three-more old a b c p q r first second third =
    third
    ∙ ap (λ l. l ++ r ∷ [])
    (second ∙ ap (λ l. l ++ q ∷ []) first ∙ append_assoc old (p ∷ []) (q ∷ []))
    ∙ append_assoc old (p ∷ q ∷ []) (r ∷ [])

-- the names of sections, put one after the other
pub names-put : (before after : List Part) (name a b c d e : List ℕ) → a ≡ 0 ∷ []
    → b ≡ a ++ flat_map (λ (p : Part). with_nul p.name) before → c ≡ b ++ name → d ≡ c ++ 0 ∷ []
    → e ≡ d ++ flat_map (λ (p : Part). with_nul p.name) after
    → e
    ≡ section_names
    (map (λ (p : Part). p.name) before ++ name ∷ map (λ (p : Part). p.name) after)
names-put before after name a b c d e first second third fourth fifth =
    let f : List Part → List ℕ = flat_map (λ (p : Part). with_nul p.name) in
    fifth
    ∙ ap (λ l. l ++ f after)
    (fourth ∙ ap (λ l. l ++ 0 ∷ []) third ∙ append_assoc b name (0 ∷ [])
    ∙ ap (λ l. l ++ with_nul name) (second ∙ ap (λ l. l ++ f before) first))
    ∙ append_assoc (0 ∷ f before) (with_nul name) (f after)
    ∙ ap (λ l. 0 ∷ l)
    (sym (λ i. flat_map-map with_nul (λ (p : Part). p.name) before i
    ++ (with_nul name ++ flat_map-map with_nul (λ (p : Part). p.name) after i))
    ∙ sym (flat_map-append with_nul (map (λ (p : Part). p.name) before)
    (name ∷ map (λ (p : Part). p.name) after)))
