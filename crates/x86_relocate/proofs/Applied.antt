-- Patches that share no place may be applied one by one.
use Rattle.std.proofs.Common.{add-one, append_assoc, length-take, subst, ℤ, ◌≡◌, ◌≤◌, ◌<◌, ◌+◌, ◌-◌}
use Rattle.std.proofs.Common.{Bool, true, false, ℕ, suc, List, [], ◌∷◌, ◌++◌, length, take, drop}
use Rattle.std.proofs.Common.{slice_index, slice_index_or, refl, sym, ap, ◌∙◌, Option, Some, None}
use Rattle.std.proofs.Common.{Result, Ok, Err, is_ok, cond, arith, inl, inr, ◌⊎◌}
use Rattle.std.specs.Prelude.{find, take_while, All, AllPairs}
use Rattle.std.specs.Option.{option_or}
use Rattle.std.proofs.lemmas.Bool.{false≢true, cases_lt}
use Rattle.std.proofs.lemmas.Grind.{common_steps}
use Rattle.std.proofs.lemmas.Bool.Decides.{nat_tests}
use Rattle.std.proofs.lemmas.List.{take-append-drop, nil_from_length, get_or-take, get_or_default}
use Rattle.std.proofs.lemmas.List.{take_more}
use Rattle.std.proofs.lemmas.List.Sums.{take_while-cons}
use Rattle.std.proofs.Math.Seq.{drop-cons}
use Rattle.std.proofs.lemmas.List.Folds.{find-append}
use Rattle.std.proofs.lemmas.List.FromFn.{length-map-range_with_len, get_or-map-range_with_len}
use Rattle.std.proofs.lemmas.List.FromFn.{fill_by_all}
use Rattle.raw_image.specs.Bytes.{with_bytes}
use Rattle.elf_format.specs.declared.relocation.TheConstants.{R_X86_64_NONE, R_X86_64_64}
use Rattle.elf_format.specs.declared.relocation.TheConstants.{R_X86_64_PC32, R_X86_64_PLT32}
use Rattle.elf_format.specs.declared.relocation.TheConstants.{R_X86_64_32, R_X86_64_32S}
use Rattle.elf_format.specs.declared.relocation.TheConstants.{R_X86_64_PC64}
use Rattle.elf_format.specs.Relocation.{IsKnown, known_width}
use Rattle.x86_relocate.specs.Word.{word}
use Rattle.x86_relocate.specs.Patched.{Covers, covers, IsWithin, IsApart, word_of, fits, bytes_of}
use Rattle.x86_relocate.specs.Patched.{byte_at, patched, first_too_wide}
use Rattle.x86_relocate.specs.declared.patch.Patch.{Patch}
use Rattle.x86_relocate.specs.declared.word.TooWide.{TooWide}
use Rattle.x86_relocate.specs.declared.word.Written.{Written}
use Rattle.x86_relocate.specs.declared.word.Written.TheVariants.{Four}

pub with_no_bytes : (image : List ℕ) (at : ℕ) → with_bytes image at [] ≡ image
with_no_bytes image at = grind (arith, common_steps, take-append-drop at image)

covers_true : (place : ℕ) (patch : Patch) → Covers patch place → covers place patch ≡ true
covers_true place patch h = grind (arith, nat_tests)

covers_false : (place : ℕ) (patch : Patch) → (Covers patch place → ⊥) → covers place patch ≡ false
covers_false place patch h = grind (arith, nat_tests)

covers_case : (place : ℕ) (patch : Patch) → Covers patch place ⊎ (Covers patch place → ⊥)
covers_case place patch = grind (arith, nat_tests)

by_test : (test : Bool) (value : ℕ) → let r : Result Written TooWide =
    cond test (Ok (Four value)) (Err (record {})) in is_ok r ≡ true → length (bytes_of r) ≡ 4
by_test true value fit = refl
by_test false value fit = absurd (false≢true fit)

-- A known type is one of the seven.
known_cases : (kind : ℕ) → IsKnown kind
    → (kind ≡ R_X86_64_NONE)
    ⊎ ((kind ≡ R_X86_64_64)
    ⊎ ((kind ≡ R_X86_64_PC32)
    ⊎ ((kind ≡ R_X86_64_PLT32)
    ⊎ ((kind ≡ R_X86_64_32)
    ⊎ ((kind ≡ R_X86_64_32S) ⊎ (kind ≡ R_X86_64_PC64))))))
known_cases kind known = grind (arith, nat_tests)

-- The bytes of a word that fits are as many as its field has.
length_word : (kind s : ℕ) (a : ℤ) (p : ℕ) → IsKnown kind → is_ok (word kind s a p) ≡ true
    → length (bytes_of (word kind s a p)) ≡ known_width kind
unfolding word
length_word kind s a p known =
    let Good : ℕ → Type 0
    = λ k. is_ok (word k s a p) ≡ true → length (bytes_of (word k s a p)) ≡ known_width k in
    elim (known_cases kind known) [
      | inl e ↦ subst Good (sym e) (λ _. refl)
      | inr known1 ↦ elim known1 [
        | inl e ↦ subst Good (sym e) (λ _. refl)
        | inr known2 ↦ elim known2 [
          | inl e ↦ subst Good (sym e) (by_test _ _)
          | inr known3 ↦ elim known3 [
            | inl e ↦ subst Good (sym e) (by_test _ _)
            | inr known4 ↦ elim known4 [
              | inl e ↦ subst Good (sym e) (by_test _ _)
              | inr known5 ↦ elim known5 [
                | inl e ↦ subst Good (sym e) (by_test _ _)
                | inr e ↦ subst Good (sym e) (λ _. refl)
              ]
            ]
          ]
        ]
      ]
    ]

-- Bytes that were put at a place, and the bytes elsewhere.
length_with_bytes : (image : List ℕ) (at : ℕ) (bytes : List ℕ)
    → (length bytes ≡ 0) ⊎ (at + length bytes ≤ length image)
    → length (with_bytes image at bytes) ≡ length image
length_with_bytes image at bytes (inl none) =
    let e : bytes ≡ []
    = nil_from_length bytes none in ap length
    (ap (with_bytes image at) e ∙ with_no_bytes image at)
length_with_bytes image at bytes (inr fits) = grind (arith, common_steps)

byte_within : (image : List ℕ) (at : ℕ) (bytes : List ℕ) (place : ℕ)
    → at + length bytes ≤ length image → at ≤ place → place < at + length bytes
    → slice_index (with_bytes image at bytes) place ≡ slice_index bytes (place - at)
byte_within image at bytes place h low high = grind (arith, common_steps)

byte_below : (image : List ℕ) (at : ℕ) (bytes : List ℕ) (place : ℕ) → place < length image
    → place < at → slice_index (with_bytes image at bytes) place ≡ slice_index image place
byte_below image at bytes place h out = grind (arith, common_steps)

byte_above : (image : List ℕ) (at : ℕ) (bytes : List ℕ) (place : ℕ) → place < length image
    → at + length bytes ≤ place
    → slice_index (with_bytes image at bytes) place ≡ slice_index image place
byte_above image at bytes place h out = grind (arith, common_steps)

-- No patch of these has a place that a later one has.
none_covers : (done : List Patch) (patch : Patch) (place : ℕ) → All (λ one. IsApart one patch) done
    → Covers patch place → find (covers place) done ≡ None
none_covers [] patch place apart here = refl
none_covers (one ∷ done) patch place apart here =
    let first : IsApart one patch = apart 0 one (omega arith) in
    rw (covers_false place one (λ h. first place h here))
    (none_covers done patch place (λ k d h. apart (suc k) d (omega arith)) here)

byte_of_later : (image : List ℕ) (done : List Patch) (patch : Patch) (place : ℕ)
    → All (λ one. IsApart one patch) done → Covers patch place
    → byte_at image (done ++ patch ∷ []) place
    ≡ slice_index (bytes_of (word_of patch)) (place - patch.at)
byte_of_later image done patch place apart here =
    rw (find-append, none_covers done patch place apart here, covers_true place patch here) refl

option_or-none : (o : Option Patch) → option_or o None ≡ o
option_or-none None = refl
option_or-none (Some x) = refl

byte_of_earlier : (image : List ℕ) (done : List Patch) (patch : Patch) (place : ℕ)
    → (Covers patch place → ⊥) → byte_at image (done ++ patch ∷ []) place ≡ byte_at image done place
byte_of_earlier image done patch place out =
    rw (find-append, covers_false place patch out, option_or-none) refl

-- The places of a patch reach to its end.
pub room : (len : ℕ) (patch : Patch) → IsWithin len patch → 0 < known_width patch.kind
    → patch.at + known_width patch.kind ≤ len
room len patch within some =
    let last
    = within (patch.at + (known_width patch.kind - 1)) (omega arith, omega arith) in omega arith

bytes_room : (len : ℕ) (patch : Patch) → IsKnown patch.kind → IsWithin len patch → fits patch ≡ true
    → (length (bytes_of (word_of patch)) ≡ 0) ⊎ (patch.at + length (bytes_of (word_of patch)) ≤ len)
bytes_room len patch known within fit =
    let size : length (bytes_of (word_of patch)) ≡ known_width patch.kind
    = length_word patch.kind patch.s patch.a patch.p known fit in
    elim (cases_lt 0 (known_width patch.kind)) [
      | inl some ↦ inr (rw size (room len patch within some))
      | inr none ↦ inl (omega arith)
    ]

-- The byte at a place after one patch more.
module _ (image : List ℕ) (done : List Patch) (patch : Patch) (place : ℕ)
    (inside : place < length image) where
  length_patched : length (patched image done) ≡ length image
  unfolding patched
  length_patched = length-map-range_with_len (byte_at image done) 0 (length image)

  byte_before : slice_index (patched image done) place ≡ byte_at image done place
  unfolding patched
  byte_before
      = get_or-map-range_with_len (byte_at image done) 0 (length image) place place 0 inside
      (omega arith)

  byte_after : IsKnown patch.kind → IsWithin (length image) patch → fits patch ≡ true
      → All (λ one. IsApart one patch) done
      → slice_index (with_bytes (patched image done) patch.at (bytes_of (word_of patch))) place
      ≡ byte_at image (done ++ patch ∷ []) place
  byte_after known within fit apart =
      let bytes = bytes_of (word_of patch) in
      let size : length bytes ≡ known_width patch.kind
      = length_word patch.kind patch.s patch.a patch.p known fit in
      let len : length (patched image done) ≡ length image = length_patched in
      elim (covers_case place patch) [
        | inl here ↦
            let last : patch.at + known_width patch.kind ≤ length image
            = room (length image) patch within (omega (arith, here.0, here.1)) in
            byte_within (patched image done) patch.at bytes place (omega arith) here.0
            (omega (arith, here.1))
            ∙ sym (byte_of_later image done patch place apart here)
        | inr out ↦
            let earlier = byte_before ∙ sym (byte_of_earlier image done patch place out) in
            elim (cases_lt place patch.at) [
              | inl below ↦ byte_below (patched image done) patch.at bytes place (omega arith) below
                  ∙ earlier
              | inr above ↦
                  elim (cases_lt place (patch.at + known_width patch.kind)) [
                    | inl under ↦ absurd (out (above, under))
                    | inr past ↦ byte_above (patched image done) patch.at bytes place (omega arith)
                        (omega arith)
                        ∙ earlier
                  ]
            ]
      ]

-- One patch more.
pub one_more : (image : List ℕ) (done : List Patch) (patch : Patch) → IsKnown patch.kind
    → IsWithin (length image) patch → fits patch ≡ true → All (λ one. IsApart one patch) done
    → with_bytes (patched image done) patch.at (bytes_of (word_of patch))
    ≡ patched image (done ++ patch ∷ [])
unfolding patched
one_more image done patch known within fit apart =
    let len : length (patched image done) ≡ length image
    = length-map-range_with_len (byte_at image done) 0 (length image) in
    let same_length : length (with_bytes (patched image done) patch.at (bytes_of (word_of patch)))
    ≡ length image
    =
    length_with_bytes (patched image done) patch.at (bytes_of (word_of patch))
    (rw len (bytes_room (length image) patch known within fit))
    ∙ len in
    fill_by_all (byte_at image (done ++ patch ∷ []))
    (with_bytes (patched image done) patch.at (bytes_of (word_of patch))) (length image) 0
    same_length
    (λ place inside. byte_after image done patch place inside known within fit apart)

-- The bytes of a known patch's word have their place in the image.
pub room_for : (len : ℕ) (patch : Patch) (written : Written) → IsKnown patch.kind
    → IsWithin len patch → word_of patch ≡ Ok written → 0 < length (bytes_of (Ok written))
    → patch.at + length (bytes_of (Ok written)) ≤ len
room_for len patch written known within e some =
    let fit : fits patch ≡ true = ap is_ok e in
    let same : length (bytes_of (word_of patch)) ≡ length (bytes_of (Ok written))
    = ap (λ r. length (bytes_of r)) e in
    elim (bytes_room len patch known within fit)
    [ inl none ↦ absurd (omega arith) | inr room ↦ omega arith ]

-- The state of the pass after this many patches.
pub record IsSoFar (old image : List ℕ) (patches : List Patch) (count : ℕ) : Type 0 where
  pub image_is : image ≡ patched old (take count patches)
  pub all_fit : take_while fits patches ≡ take count patches ++ take_while fits (drop count patches)
  pub none_wide : first_too_wide patches ≡ first_too_wide (drop count patches)

patched_by_none : (image : List ℕ) → image ≡ patched image []
unfolding patched
patched_by_none image =
    fill_by_all (byte_at image []) image (length image) 0 refl (λ place inside. refl)

pub so_far_none : (image : List ℕ) (patches : List Patch) → IsSoFar image image patches 0
so_far_none image patches =
    record { image_is = patched_by_none image; all_fit = refl; none_wide = refl }

pub length_by : (image : List ℕ) (patches : List Patch)
    → length (patched image patches) ≡ length image
unfolding patched
length_by image patches = length-map-range_with_len (byte_at image patches) 0 (length image)

pub length_so_far : {old image : List ℕ} {patches : List Patch} {count : ℕ}
    → IsSoFar old image patches count → length image ≡ length old
length_so_far {old} {image} {patches} {count} h =
    ap length h.image_is ∙ length_by old (take count patches)

apart_from : (patches : List Patch) (count : ℕ) (d : Patch) → count < length patches
    → AllPairs IsApart patches
    → All (λ one. IsApart one (slice_index_or patches count d)) (take count patches)
apart_from patches count d inside apart k other h =
    let before : k < count = omega (arith, length-take count patches) in
    let same : slice_index_or (take count patches) k other ≡ slice_index_or patches k d
    = get_or-take count patches k other before
    ∙ get_or_default patches k other d (omega arith) in
    rw same (apart k count d before inside)

take_while_fits : (patch : Patch) (rest : List Patch) → fits patch ≡ true
    → take_while fits (patch ∷ rest) ≡ patch ∷ take_while fits rest
take_while_fits patch rest fit = rw (take_while-cons, fit) refl

take_while_wide : (patch : Patch) (rest : List Patch) → fits patch ≡ false
    → take_while fits (patch ∷ rest) ≡ []
take_while_wide patch rest wide = rw (take_while-cons, wide) refl

first_later : (patch : Patch) (rest : List Patch) → fits patch ≡ true
    → first_too_wide (patch ∷ rest) ≡ first_too_wide rest
first_later patch rest fit = rw fit refl

first_here : (patch : Patch) (rest : List Patch) → fits patch ≡ false
    → first_too_wide (patch ∷ rest) ≡ Some patch
first_here patch rest wide = rw wide refl

rest_is : (patches : List Patch) (count : ℕ) (d : Patch) → count < length patches
    → drop count patches ≡ slice_index_or patches count d ∷ drop (count + 1) patches
rest_is patches count d inside = rw add-one (drop-cons patches count d inside)

pub so_far_more : (old image next : List ℕ) (patches : List Patch) (count : ℕ) (d : Patch)
    → IsSoFar old image patches count → count < length patches → let patch
    =
    slice_index_or patches count d in IsKnown patch.kind → IsWithin (length old) patch
    → AllPairs IsApart patches → fits patch ≡ true
    → next ≡ with_bytes image patch.at (bytes_of (word_of patch))
    → IsSoFar old next patches (count + 1)
so_far_more old image next patches count d h inside known within apart fit written =
    let patch = slice_index_or patches count d in
    let one : take (count + 1) patches ≡ take count patches ++ patch ∷ []
    = take_more patches count d inside in
    let rest : drop count patches ≡ patch ∷ drop (count + 1) patches
    = rest_is patches count d inside in
    record {
      image_is
          = written ∙ ap (λ i. with_bytes i patch.at (bytes_of (word_of patch))) h.image_is
          ∙ one_more old (take count patches) patch known within fit
          (apart_from patches count d inside apart)
          ∙ ap (patched old) (sym one);
      all_fit
          = h.all_fit ∙ ap (λ r. take count patches ++ take_while fits r) rest
          ∙ ap (λ r. take count patches ++ r)
          (take_while_fits patch (drop (count + 1) patches) fit)
          ∙ sym (append_assoc (take count patches) (patch ∷ [])
          (take_while fits (drop (count + 1) patches)))
          ∙ ap (λ r. r ++ take_while fits (drop (count + 1) patches)) (sym one);
      none_wide
          = h.none_wide ∙ ap first_too_wide rest ∙ first_later patch (drop (count + 1) patches) fit;
    }
