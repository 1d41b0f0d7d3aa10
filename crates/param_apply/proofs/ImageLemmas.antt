-- Pieces put into an image, one after the other.
use Rattle.std.proofs.Common.{◌≡◌, ◌≤◌, ◌<◌, ◌+◌, ◌-◌, ◌∙◌, inl, inr, ℕ, true, false, List, [], ◌∷◌}
use Rattle.std.proofs.Common.{◌++◌, refl, sym, arith, length, slice_index}
use Rattle.std.specs.Prelude.{reverse}
use Rattle.std.proofs.lemmas.List.{reverse-append}
use Rattle.std.proofs.lemmas.Bool.{cases_lt}
use Rattle.std.proofs.lemmas.List.FromFn.{length-map-range_with_len, get_or-map-range_with_len}
use Rattle.std.proofs.lemmas.List.FromFn.{fill_by_all}
use Rattle.raw_image.specs.Bytes.{with_bytes}
use Rattle.image_layout.specs.Plain.{Piece, has_place}
use Rattle.param_apply.specs.Applied.{byte_of, with_pieces}
use Rattle.image_layout.proofs.PlainLemmas.{byte_above, byte_below, byte_within, has_place-high}
use Rattle.image_layout.proofs.PlainLemmas.{has_place-low, has_place-true, length-with}

-- An image without pieces.
pub with-none : (image : List ℕ) → image ≡ with_pieces image []
unfolding with_pieces
with-none image = fill_by_all (byte_of image []) image (length image) 0 refl (λ k less. refl)

pub length-with_pieces : (image : List ℕ) (ps : List Piece)
    → length (with_pieces image ps) ≡ length image
unfolding with_pieces
length-with_pieces image ps = length-map-range_with_len (byte_of image ps) 0 (length image)

byte-with : (image : List ℕ) (ps : List Piece) (x : ℕ) → x < length image
    → slice_index (with_pieces image ps) x ≡ byte_of image ps x
unfolding with_pieces
byte-with image ps x inside =
    get_or-map-range_with_len (byte_of image ps) 0 (length image) x x 0 inside (omega arith)

-- A piece more is looked at first.
last-first : (ps : List Piece) (p : Piece) → reverse (ps ++ p ∷ []) ≡ p ∷ reverse ps
last-first ps p = reverse-append ps (p ∷ [])

here : (image : List ℕ) (ps : List Piece) (p : Piece) (x : ℕ) → has_place x p ≡ true
    → byte_of image (ps ++ p ∷ []) x ≡ slice_index p.bytes (x - p.at)
here image ps p x is = rw (last-first ps p, is) refl

elsewhere : (image : List ℕ) (ps : List Piece) (p : Piece) (x : ℕ) → has_place x p ≡ false
    → byte_of image (ps ++ p ∷ []) x ≡ byte_of image ps x
elsewhere image ps p x out = rw (last-first ps p, out) refl

byte-more : (image : List ℕ) (ps : List Piece) (p : Piece) (x : ℕ)
    → p.at + length p.bytes ≤ length image → x < length image
    → slice_index (with_bytes (with_pieces image ps) p.at p.bytes) x
    ≡ byte_of image (ps ++ p ∷ []) x
byte-more image ps p x fits inside =
    let long : length (with_pieces image ps) ≡ length image = length-with_pieces image ps in
    let before = byte-with image ps x inside in
    elim (cases_lt x p.at) [
      | inl low ↦
          byte_below (with_pieces image ps) p.at p.bytes x (omega arith) low ∙ before
          ∙ sym (elsewhere image ps p x (has_place-low x p low))
      | inr above ↦
          elim (cases_lt x (p.at + length p.bytes)) [
            | inl under ↦
                byte_within (with_pieces image ps) p.at p.bytes x (omega arith) above under
                ∙ sym (here image ps p x (has_place-true x p above under))
            | inr high ↦
                byte_above (with_pieces image ps) p.at p.bytes x (omega arith) (omega arith) high
                ∙ before ∙ sym (elsewhere image ps p x (has_place-high x p high))
          ]
    ]

-- An image with a piece more.
pub with-more : (image : List ℕ) (ps : List Piece) (p : Piece)
    → p.at + length p.bytes ≤ length image
    → with_bytes (with_pieces image ps) p.at p.bytes ≡ with_pieces image (ps ++ p ∷ [])
unfolding with_pieces
with-more image ps p fits =
    let long : length (with_bytes (with_pieces image ps) p.at p.bytes) ≡ length image
    = length-with (with_pieces image ps) p.at p.bytes (rw (length-with_pieces image ps) fits)
    ∙ length-with_pieces image ps in
    fill_by_all (byte_of image (ps ++ p ∷ [])) (with_bytes (with_pieces image ps) p.at p.bytes)
    (length image) 0 long (λ x inside. byte-more image ps p x fits inside)
