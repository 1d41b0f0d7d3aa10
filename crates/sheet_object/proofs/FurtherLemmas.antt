-- The sections of what is more.
use Rattle.std.proofs.Common.{◌≡◌, ℕ, ◌+◌, ◌<◌, ◌==◌, Bool, true, false, List, [], ◌∷◌, ◌++◌}
use Rattle.std.proofs.Common.{length, map, take, get_or, Option, Some, None, is_some, option_map}
use Rattle.std.proofs.Common.{refl, sym, ap, ◌∙◌}
use Rattle.std.proofs.lemmas.List.{append-nil, append_assoc, length-append, take_more}
use Rattle.std.proofs.lemmas.List.Concat.{flat_map-append}
use Rattle.std.specs.List.{range_with_len, slice_get}
use Rattle.name_table.specs.NameTable.{first_place}
use Rattle.elf_write.specs.declared.part.Part.{Part}
use Rattle.sheet_object.specs.declared.section.TheConstants.{TEXT}
use Rattle.sheet_object.specs.declared.sheet.SheetMore.{SheetMore}
use Rattle.sheet_object.specs.declared.sheet.SheetSpace.{SheetSpace}
use Rattle.elf_write.specs.Number.{with_nul}
use Rattle.name_table.specs.FirstSeen.{is_among}
use Rattle.sheet_object.specs.Sheet.{spaced_names}
use Rattle.sheet_object.specs.Further.{unless_empty, gpl_section, space_bytes, space_place}
use Rattle.sheet_object.specs.Further.{text_place}
use Rattle.sheet_object.specs.Symbols.{table_section}
use Rattle.sheet_object.proofs.NameLemmas.{first_place-is, first_place-within, is_among-first_place}
use Rattle.sheet_object.proofs.NameLemmas.{made-number}

-- sections stand where the list isn't empty
pub some-parts : {X : Type 0} (xs : List X) (parts : List Part) (empty : Bool)
    → empty ≡ (length xs == 0) → empty ≡ false → parts ≡ unless_empty xs parts
some-parts [] parts empty is not =
    let wrong : false ≡ true = rw (not) at is in cc
some-parts (x ∷ xs) parts empty is not = refl

-- two sections put at the end
pub two-more : (old one two : List Part) (p q : Part) → one ≡ old ++ p ∷ [] → two ≡ one ++ q ∷ []
    → two ≡ old ++ p ∷ q ∷ []
two-more old one two p q first second =
    second ∙ ap (λ r. r ++ q ∷ []) first ∙ append_assoc old (p ∷ []) (q ∷ [])

-- the section of an export's table entry, by whether it is GPL-only
pub section-gpl : (m : SheetMore) (name : List ℕ) (found : Option ℕ) (there : Bool)
    → found ≡ first_place (map (λ n. Some n) m.gpl) name → there ≡ is_some found → there ≡ true
    → gpl_section m ≡ table_section m name
unfolding table_section
section-gpl m name found there is some gpl =
    let among : is_among m.gpl name ≡ true
    = sym (is_among-first_place m.gpl name) ∙ ap is_some (sym is) ∙ sym some ∙ gpl in
    rw among refl

pub section-text : (m : SheetMore) (name : List ℕ) (found : Option ℕ) (there : Bool)
    → found ≡ first_place (map (λ n. Some n) m.gpl) name → there ≡ is_some found → there ≡ false
    → TEXT ≡ table_section m name
unfolding table_section
section-text m name found there is some other =
    let among : is_among m.gpl name ≡ false
    = sym (is_among-first_place m.gpl name) ∙ ap is_some (sym is) ∙ sym some ∙ other in
    rw among refl

-- where the namespace of an export begins, by the places of names and of texts
pub place-found : (m : SheetMore) (name : List ℕ) (places : List ℕ) (k : ℕ)
    → Some k ≡ first_place (map (λ n. Some n) (spaced_names m)) name
    → places ≡ map (text_place m.spaces) (range_with_len 0 (length m.spaces))
    → slice_get places k ≡ space_place m name
unfolding space_place
place-found m name places k is all =
    let within : k < length m.spaces
    = first_place-within (λ (p : SheetSpace). p.name) m.spaces name k (sym is) in
    ap (λ l. slice_get l k) all
    ∙ made-number (text_place m.spaces) (length m.spaces) k within
    ∙ ap (option_map (text_place m.spaces))
    (is ∙ first_place-is (λ (p : SheetSpace). p.name) m.spaces name)

pub place-none : (m : SheetMore) (name : List ℕ)
    → None ≡ first_place (map (λ n. Some n) (spaced_names m)) name → None ≡ space_place m name
unfolding space_place
place-none m name is =
    ap (option_map (text_place m.spaces))
    (is ∙ first_place-is (λ (p : SheetSpace). p.name) m.spaces name)

-- where the text after one more begins
pub text_place-more : (spaces : List SheetSpace) (i : ℕ) (p : SheetSpace) → i < length spaces
    → p ≡ get_or spaces i p → text_place spaces (i + 1) ≡ text_place spaces i + (length p.space + 1)
text_place-more spaces i p within is =
    ap (λ l. length (space_bytes l))
    (take_more spaces i p within ∙ ap (λ x. take i spaces ++ x ∷ []) (sym is))
    ∙ ap length (flat_map-append (λ (x : SheetSpace). with_nul x.space) (take i spaces) (p ∷ []))
    ∙ length-append (space_bytes (take i spaces)) (space_bytes (p ∷ []))
    ∙ ap (λ n. text_place spaces i + n)
    (ap length (append-nil (with_nul p.space)) ∙ length-append p.space (0 ∷ []))
