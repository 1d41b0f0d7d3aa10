-- The relocations of the entries of parameters, one after the other.
use Rattle.std.proofs.Common.{◌≡◌, ℕ, ◌+◌, ◌*◌, ◌<◌, ◌≤◌, Bool, true, false, ◌&&◌, nat_le, lit≤}
use Rattle.std.proofs.Common.{List, [], ◌∷◌, ◌++◌, length, map, take, All, refl, sym, ap, ◌∙◌}
use Rattle.std.proofs.Common.{true≢false, zero-add, get_or}
use Rattle.std.proofs.lemmas.Bool.{leb-true}
use Rattle.std.proofs.lemmas.List.{append-nil, append_assoc, take_more}
use Rattle.std.proofs.lemmas.List.Concat.{flat_map-append}
use Rattle.std.proofs.lemmas.List.Folds.{flat_map-map}
use Rattle.std.proofs.lemmas.List.FromFn.{map-range_with_len_more}
use Rattle.std.proofs.lemmas.List.Elements.{All-nil, All-cons}
use Rattle.std.specs.List.{flat_map, list_all, range_with_len}
use Rattle.elf_write.specs.declared.part.Part.{Part}
use Rattle.elf_write.specs.declared.params.SheetParam.{SheetParam}
use Rattle.elf_write.specs.Number.{with_nul}
use Rattle.elf_write.specs.Part.{with_names}
use Rattle.elf_write.specs.Params.{data_address, entry_addresses, name_place, loaded_param_parts}
use Rattle.elf_write.specs.Params.{linked_param_parts, names_of_params}

-- What a list of numbers gives, and one number more.
pub range_more : {X : Type 0} (f : ℕ → List X) (n : ℕ)
    → flat_map f (range_with_len 0 (n + 1)) ≡ flat_map f (range_with_len 0 n) ++ f n
range_more f n =
    let id : ℕ → ℕ = λ x. x in
    sym (flat_map-map f id (range_with_len 0 (n + 1)))
    ∙ ap (flat_map f) (map-range_with_len_more id 0 n n (zero-add n))
    ∙ flat_map-append f (map id (range_with_len 0 n)) (n ∷ [])
    ∙ ap (λ l. l ++ (f n ++ [])) (flat_map-map f id (range_with_len 0 n))
    ∙ ap (λ l. flat_map f (range_with_len 0 n) ++ l) (append-nil (f n))

both : (a b : Bool) → (a && b) ≡ true → (a ≡ true) × (b ≡ true)
both true b h = (refl, h)
both false b h = absurd (true≢false (sym h))

-- A test that each item passes, by what it says.
All-from_test : {X : Type 0} (p : X → Bool) (P : X → Type 0) (xs : List X)
    → ((x : X) → p x ≡ true → P x) → list_all p xs ≡ true → All P xs
All-from_test p P [] says h = All-nil P
All-from_test p P (x ∷ xs) says h =
    let w
    = both (p x) (list_all p xs) h in All-cons P x xs (says x w.0)
    (All-from_test p P xs says w.1)

-- The sections of parameters are few, and their names are short.
pub params-few : (ps : List SheetParam) (addresses : List ℕ) (parts : List Part)
    → parts ≡ with_names (loaded_param_parts ps ++ linked_param_parts addresses) []
    → length parts ≤ 16
unfolding loaded_param_parts linked_param_parts
params-few ps addresses parts is = rw is (lit≤ tt)

pub params-short : (ps : List SheetParam) (addresses : List ℕ) (parts : List Part)
    → parts ≡ with_names (loaded_param_parts ps ++ linked_param_parts addresses) []
    → All (λ (p : Part). length p.name ≤ 32) parts
unfolding loaded_param_parts linked_param_parts
params-short ps addresses parts is =
    rw is (All-from_test (λ p. nat_le (length p.name) 32) (λ p. length p.name ≤ 32)
    (with_names (loaded_param_parts ps ++ linked_param_parts addresses) [])
    (λ p h. leb-true (length p.name) 32 h) refl)

-- Sections that were put one after the other.
pub parts-put : (ps : List SheetParam) (addresses : List ℕ) (none a b d parts further : List Part)
    → none ≡ [] → further ≡ [] → a ≡ none ++ loaded_param_parts ps
    → b ≡ a ++ linked_param_parts addresses → d ≡ with_names b further → parts ≡ d
    → parts ≡ with_names (loaded_param_parts ps ++ linked_param_parts addresses) []
parts-put ps addresses none a b d parts further is_none is_further first second third last =
    last ∙ third ∙ ap (with_names b) is_further
    ∙ ap (λ l. with_names l [])
    (second
    ∙ ap (λ l. l ++ linked_param_parts addresses)
    (first ∙ ap (λ l. l ++ loaded_param_parts ps) is_none))

-- The names of the first parameters, with one more.
pub param_names-more : (ps : List SheetParam) (k : ℕ) (p : SheetParam) (a b d : List ℕ)
    → k < length ps → p ≡ get_or ps k p → a ≡ names_of_params (take k ps) → b ≡ a ++ p.name
    → d ≡ b ++ 0 ∷ [] → d ≡ names_of_params (take (k + 1) ps)
param_names-more ps k p a b d within is first second third =
    let f : SheetParam → List ℕ = λ q. with_nul q.name in
    let front : take (k + 1) ps ≡ take k ps ++ p ∷ []
    = take_more ps k p within ∙ ap (λ q. take k ps ++ q ∷ []) (sym is) in
    third
    ∙ ap (λ l. l ++ 0 ∷ []) (second ∙ ap (λ l. l ++ p.name) first)
    ∙ append_assoc (names_of_params (take k ps)) p.name (0 ∷ [])
    ∙ ap (λ l. names_of_params (take k ps) ++ l) (sym (append-nil (with_nul p.name)))
    ∙ sym (flat_map-append f (take k ps) (p ∷ []))
    ∙ ap names_of_params (sym front)

-- The relocations of the first entries, with the relocations of one more.
pub entries-more : (ps : List SheetParam) (k place : ℕ) (old new : List ℕ)
    → old ≡ flat_map (entry_addresses ps) (range_with_len 0 k) → place ≡ name_place ps k
    → new ≡ old ++ data_address (40 * k) place ++ data_address (40 * k + 32) (8 * k)
    → new ≡ flat_map (entry_addresses ps) (range_with_len 0 (k + 1))
entries-more ps k place old new before at after =
    after
    ∙ ap (λ n. old ++ data_address (40 * k) n ++ data_address (40 * k + 32) (8 * k)) at
    ∙ append_assoc old (data_address (40 * k) (name_place ps k))
    (data_address (40 * k + 32) (8 * k))
    ∙ ap (λ l. l ++ entry_addresses ps k) before
    ∙ sym (range_more (entry_addresses ps) k)
