-- The pieces of the sections of an object are in the image and apart.
use Rattle.std.proofs.Common.{◌≡◌, ◌≤◌, ◌<◌, ◌+◌, ◌∙◌, inl, inr, ℕ, true, false, List, Some, None}
use Rattle.std.proofs.Common.{sym, ap, arith, length, map, get_or}
use Rattle.std.specs.Prelude.{find}
use Rattle.std.specs.List.{range_with_len, slice_get}
use Rattle.std.proofs.lemmas.Bool.{cases_Bool}
use Rattle.std.proofs.lemmas.Grind.{common_steps}
use Rattle.std.proofs.lemmas.List.FromFn.{map-range_with_len_more}
use Rattle.std.proofs.lemmas.Option.{slice_get-get_or, slice_get_within, slice_get_cases}
use Rattle.raw_image.specs.Bytes.{with_bytes}
use Rattle.elf_sections.specs.declared.section.Section.{Section}
use Rattle.elf_object.specs.Object.{FileObject}
use Rattle.elf_sections.specs.Shape.{content, has_content}
use Rattle.image_layout.specs.Offsets.{offset, image_size}
use Rattle.image_layout.specs.Plain.{piece, has_place, filled}
use Rattle.image_layout.proofs.OffsetLemmas.{apart, lies_in, offset_unkept}
use Rattle.image_layout.proofs.PlainLemmas.{piece_kept, piece_unkept, piece_at, has_place-low}
use Rattle.image_layout.proofs.PlainLemmas.{has_place-high, filled-more, find-none}

-- A section has no more bytes in the file than its size.
pub length-content : (file : List ℕ) (kind offset size : ℕ)
    → length (content file kind offset size) ≤ size
unfolding content
length-content file kind offset size =
    elim (cases_Bool (has_content kind)) [
      | inl some ↦ rw some (grind (arith, common_steps))
      | inr none ↦ rw none (omega arith)
    ]

pub item-at : {X : Type 0} (xs : List X) (i : ℕ) → i < length xs
    → (x : X) × (slice_get xs i ≡ Some x)
item-at xs i within =
    elim (slice_get_cases xs i).1
    [ inl inside ↦ (inside.0, inside.2) | inr past ↦ absurd (omega (arith, past.0)) ]

-- A piece has at most the bytes of its section.
pub piece-short : (o : FileObject) (i : ℕ) (s : Section) → slice_get o.sections i ≡ Some s
    → s.kept ≡ true → length (piece o i).bytes ≤ s.size
piece-short o i s is kept =
    rw (piece_kept o i s is kept) (length-content o.file s.kind s.offset s.size)

pub piece-within : (o : FileObject) (i : ℕ) (s : Section) → slice_get o.sections i ≡ Some s
    → 4096 ≤ image_size o.sections
    → (piece o i).at + length (piece o i).bytes ≤ image_size o.sections
piece-within o i s is some =
    let at = piece_at o i in
    elim (cases_Bool s.kept) [
      | inl kept ↦ omega
          (arith, at, piece-short o i s is kept, (lies_in o.sections i s is kept).image)
      | inr unkept ↦ omega (
        arith,
        at,
        ap length (piece_unkept o i s is unkept),
        offset_unkept o.sections i s is unkept,
      )
    ]

-- A place of the piece j isn't one of the earlier piece i.
piece-apart : (o : FileObject) (i j y : ℕ) (s t : Section) → slice_get o.sections i ≡ Some s
    → slice_get o.sections j ≡ Some t → i < j → (piece o j).at ≤ y
    → y < (piece o j).at + length (piece o j).bytes → has_place y (piece o i) ≡ false
piece-apart o i j y s t is_i is_j less low high =
    let at_i = piece_at o i in
    let at_j = piece_at o j in
    elim (cases_Bool s.kept) [
      | inr unkept ↦ has_place-high y (piece o i)
          (omega (
            arith,
            at_i,
            ap length (piece_unkept o i s is_i unkept),
            offset_unkept o.sections i s is_i unkept,
          ))
      | inl kept_s ↦
          elim (cases_Bool t.kept) [
            | inr unkept ↦ absurd (omega (arith, ap length (piece_unkept o j t is_j unkept)))
            | inl kept_t ↦
                elim (apart o.sections i j s t is_i is_j kept_s kept_t less) [
                  | inl before ↦ has_place-high y (piece o i)
                      (omega (arith, at_i, at_j, piece-short o i s is_i kept_s))
                  | inr after ↦ has_place-low y (piece o i)
                      (omega (arith, at_i, at_j, piece-short o j t is_j kept_t))
                ]
          ]
    ]

-- The image with the first sections, and with one more.
pub plain-more : (o : FileObject) (i at : ℕ) (s : Section) (old new bytes : List ℕ)
    → slice_get o.sections i ≡ Some s → 4096 ≤ image_size o.sections
    → old ≡ filled (image_size o.sections) (map (piece o) (range_with_len 0 i))
    → at ≡ offset o.sections i → bytes ≡ (piece o i).bytes → new ≡ with_bytes old at bytes
    → new ≡ filled (image_size o.sections) (map (piece o) (range_with_len 0 (i + 1)))
plain-more o i at s old new bytes is some before place those written =
    let len = image_size o.sections in
    let done = map (piece o) (range_with_len 0 i) in
    let inside = slice_get_within o.sections i s is in
    let free : (y : ℕ) → (piece o i).at ≤ y → y < (piece o i).at + length (piece o i).bytes
    → find (has_place y) done ≡ None
    =
    λ y low high. find-none (piece o) y i
    (λ k less. piece-apart o k i y (get_or o.sections k s) s
    (slice_get-get_or o.sections k s (omega arith)) is less low high) in
    let one = filled-more len done (piece o i) (piece-within o i s is some) free in
    let here : at ≡ (piece o i).at = place ∙ sym (piece_at o i) in
    written ∙ ap (λ image. with_bytes image at bytes) before
    ∙ ap (λ a. with_bytes (filled len done) a bytes) here
    ∙ ap (with_bytes (filled len done) (piece o i).at) those ∙ one
    ∙ ap (filled len) (sym (map-range_with_len_more (piece o) 0 i i (omega arith)))

pub piece-within-at : (o : FileObject) (i : ℕ) → i < length o.sections
    → 4096 ≤ image_size o.sections
    → (piece o i).at + length (piece o i).bytes ≤ image_size o.sections
piece-within-at o i within some =
    let s = item-at o.sections i within in piece-within o i s.0 s.1 some

pub plain-more-at : (o : FileObject) (i at : ℕ) (old new bytes : List ℕ) → i < length o.sections
    → 4096 ≤ image_size o.sections
    → old ≡ filled (image_size o.sections) (map (piece o) (range_with_len 0 i))
    → at ≡ offset o.sections i → bytes ≡ (piece o i).bytes → new ≡ with_bytes old at bytes
    → new ≡ filled (image_size o.sections) (map (piece o) (range_with_len 0 (i + 1)))
plain-more-at o i at old new bytes within =
    let s = item-at o.sections i within in plain-more o i at s.0 old new bytes s.1
