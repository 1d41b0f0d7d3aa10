-- Images of pieces, to which pieces are added one by one.
use Rattle.std.proofs.Common.{◌≡◌, ◌≤◌, ◌<◌, ◌+◌, ◌-◌, ◌∙◌, inl, inr, ℕ, zero, suc, true, false}
use Rattle.std.proofs.Common.{List, [], ◌∷◌, ◌++◌, Option, Some, None, refl, sym, ap, arith, length}
use Rattle.std.proofs.Common.{map, slice_index}
use Rattle.std.specs.Prelude.{find, replicate}
use Rattle.std.proofs.lemmas.List.{length-replicate, get_or-replicate}
use Rattle.std.specs.List.{range_with_len, slice_get}
use Rattle.std.specs.Option.{option_or}
use Rattle.std.proofs.lemmas.Bool.{cases_lt}
use Rattle.std.proofs.lemmas.Bool.Decides.{nat_tests}
use Rattle.std.proofs.lemmas.Grind.{common_steps}
use Rattle.std.proofs.lemmas.List.Folds.{find-append}
use Rattle.std.proofs.lemmas.List.FromFn.{length-map-range_with_len, get_or-map-range_with_len}
use Rattle.std.proofs.lemmas.List.FromFn.{map-range_with_len_more, fill_by_all}
use Rattle.raw_image.specs.Bytes.{with_bytes}
use Rattle.elf_sections.specs.declared.section.Section.{Section}
use Rattle.elf_object.specs.Object.{FileObject}
use Rattle.elf_sections.specs.Sections.{bytes_of}
use Rattle.image_layout.specs.Offsets.{offset}
use Rattle.image_layout.specs.Plain.{Piece, piece, has_place, plain_byte, filled}

-- The piece of a section that is in memory, and of one that isn't.
pub piece_kept : (o : FileObject) (i : ℕ) (s : Section) → slice_get o.sections i ≡ Some s
    → s.kept ≡ true → (piece o i).bytes ≡ bytes_of o.file s
unfolding piece
piece_kept o i s is kept = rw (is, kept) refl

pub piece_unkept : (o : FileObject) (i : ℕ) (s : Section) → slice_get o.sections i ≡ Some s
    → s.kept ≡ false → (piece o i).bytes ≡ []
unfolding piece
piece_unkept o i s is unkept = rw (is, unkept) refl

pub piece_at : (o : FileObject) (i : ℕ) → (piece o i).at ≡ offset o.sections i
unfolding piece
piece_at o i = refl

-- An image of no pieces is zeros.
pub filled-zeros : (len : ℕ) → replicate len 0 ≡ filled len []
unfolding filled
filled-zeros len =
    fill_by_all (plain_byte []) (replicate len 0) len 0 (length-replicate len 0)
    (λ k less. get_or-replicate len k 0 0 less)

pub length-filled : (len : ℕ) (ps : List Piece) → length (filled len ps) ≡ len
unfolding filled
length-filled len ps = length-map-range_with_len (plain_byte ps) 0 len

byte-filled : (len : ℕ) (ps : List Piece) (x : ℕ) → x < len
    → slice_index (filled len ps) x ≡ plain_byte ps x
unfolding filled
byte-filled len ps x inside =
    get_or-map-range_with_len (plain_byte ps) 0 len x x 0 inside (omega arith)

-- Bytes that were put at a place, and the bytes elsewhere.
pub length-with : (image : List ℕ) (at : ℕ) (bytes : List ℕ) → at + length bytes ≤ length image
    → length (with_bytes image at bytes) ≡ length image
length-with image at bytes fits = grind (arith, common_steps)

pub byte_within : (image : List ℕ) (at : ℕ) (bytes : List ℕ) (x : ℕ)
    → at + length bytes ≤ length image → at ≤ x → x < at + length bytes
    → slice_index (with_bytes image at bytes) x ≡ slice_index bytes (x - at)
byte_within image at bytes x fits low high = grind (arith, common_steps)

pub byte_below : (image : List ℕ) (at : ℕ) (bytes : List ℕ) (x : ℕ) → x < length image → x < at
    → slice_index (with_bytes image at bytes) x ≡ slice_index image x
byte_below image at bytes x inside out = grind (arith, common_steps)

pub byte_above : (image : List ℕ) (at : ℕ) (bytes : List ℕ) (x : ℕ)
    → at + length bytes ≤ length image → x < length image → at + length bytes ≤ x
    → slice_index (with_bytes image at bytes) x ≡ slice_index image x
byte_above image at bytes x fits inside out = grind (arith, common_steps)

option_or-none : {X : Type 0} (o : Option X) → option_or o None ≡ o
option_or-none None = refl
option_or-none (Some x) = refl

pub has_place-true : (x : ℕ) (p : Piece) → p.at ≤ x → x < p.at + length p.bytes
    → has_place x p ≡ true
has_place-true x p low high = grind (arith, nat_tests)

pub has_place-low : (x : ℕ) (p : Piece) → x < p.at → has_place x p ≡ false
has_place-low x p out = grind (arith, nat_tests)

pub has_place-high : (x : ℕ) (p : Piece) → p.at + length p.bytes ≤ x → has_place x p ≡ false
has_place-high x p out = grind (arith, nat_tests)

here : (ps : List Piece) (p : Piece) (x : ℕ) → find (has_place x) ps ≡ None → has_place x p ≡ true
    → plain_byte (ps ++ p ∷ []) x ≡ slice_index p.bytes (x - p.at)
here ps p x none is = rw (find-append, none, is) refl

elsewhere : (ps : List Piece) (p : Piece) (x : ℕ) → has_place x p ≡ false
    → plain_byte (ps ++ p ∷ []) x ≡ plain_byte ps x
elsewhere ps p x out = rw (find-append, out, option_or-none) refl

-- A piece more, where no earlier one has any of its places.
byte-more : (len : ℕ) (ps : List Piece) (p : Piece) (x : ℕ) → p.at + length p.bytes ≤ len
    → ((y : ℕ) → p.at ≤ y → y < p.at + length p.bytes → find (has_place y) ps ≡ None) → x < len
    → slice_index (with_bytes (filled len ps) p.at p.bytes) x ≡ plain_byte (ps ++ p ∷ []) x
byte-more len ps p x fits free inside =
    let long : length (filled len ps) ≡ len = length-filled len ps in
    let before = byte-filled len ps x inside in
    elim (cases_lt x p.at) [
      | inl low ↦
          byte_below (filled len ps) p.at p.bytes x (omega arith) low ∙ before
          ∙ sym (elsewhere ps p x (has_place-low x p low))
      | inr above ↦
          elim (cases_lt x (p.at + length p.bytes)) [
            | inl under ↦
                byte_within (filled len ps) p.at p.bytes x (omega arith) above under
                ∙ sym (here ps p x (free x above under) (has_place-true x p above under))
            | inr high ↦
                byte_above (filled len ps) p.at p.bytes x (omega arith) (omega arith) high ∙ before
                ∙ sym (elsewhere ps p x (has_place-high x p high))
          ]
    ]

pub filled-more : (len : ℕ) (ps : List Piece) (p : Piece) → p.at + length p.bytes ≤ len
    → ((y : ℕ) → p.at ≤ y → y < p.at + length p.bytes → find (has_place y) ps ≡ None)
    → with_bytes (filled len ps) p.at p.bytes ≡ filled len (ps ++ p ∷ [])
unfolding filled
filled-more len ps p fits free =
    let long : length (with_bytes (filled len ps) p.at p.bytes) ≡ len
    = length-with (filled len ps) p.at p.bytes (rw (length-filled len ps) fits)
    ∙ length-filled len ps in
    fill_by_all (plain_byte (ps ++ p ∷ [])) (with_bytes (filled len ps) p.at p.bytes) len 0 long
    (λ x inside. byte-more len ps p x fits free inside)

none-more : (ps : List Piece) (p : Piece) (x : ℕ) → find (has_place x) ps ≡ None
    → has_place x p ≡ false → find (has_place x) (ps ++ p ∷ []) ≡ None
none-more ps p x none out = rw (find-append, none, out) refl

-- None of the first n pieces has a place that none of them has.
pub find-none : (f : ℕ → Piece) (x n : ℕ) → ((k : ℕ) → k < n → has_place x (f k) ≡ false)
    → find (has_place x) (map f (range_with_len 0 n)) ≡ None
find-none f x zero none = refl
find-none f x (suc n) none =
    let earlier = find-none f x n (λ k less. none k (omega arith)) in
    let last = none n (omega arith) in
    let same : suc n ≡ n + 1 = omega arith in
    let split : map f (range_with_len 0 (suc n)) ≡ map f (range_with_len 0 n) ++ f n ∷ []
    = ap (λ m. map f (range_with_len 0 m)) same
    ∙ map-range_with_len_more f 0 n n (omega arith) in
    ap (find (has_place x)) split ∙ none-more (map f (range_with_len 0 n)) (f n) x earlier last
