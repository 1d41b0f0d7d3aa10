-- Names in one buffer, a name more at a time.
use Rattle.std.proofs.Common.{◌≡◌, ℕ, suc, ◌-◌, List, [], ◌∷◌, ◌++◌, length, take, drop, map, refl}
use Rattle.std.proofs.Common.{ap, ◌∙◌, arith, length-append, length-drop}
use Rattle.std.proofs.lemmas.List.{drop-append-le, take-append-le, take_all, map-append}
use Rattle.std.proofs.Math.Seq.{drop-append_seam}
use Rattle.std.specs.Borrow.{Bor}
use Rattle.std.specs.List.{All}
use Rattle.dependency_lines.specs.declared.named_lines.Line.{Line}
use Rattle.dependency_lines.specs.Tables.{IsInside, line_in}

-- a name that lies in the buffer is the same when the buffer goes on
still : (names more : List ℕ) (l : Line) → IsInside names l
    → line_in (names ++ more) l ≡ line_in names l
still names more l is =
    let longer = length-drop l.start names in
    ap (λ n. (n, (l.number, l.text.now)))
    (ap (take (l.end - l.start))
    (drop-append-le l.start names more (omega (arith, is.order, is.within)))
    ∙ take-append-le (l.end - l.start) (drop l.start names) more
    (omega (arith, longer, is.order, is.within)))

all-still : (names more : List ℕ) (ls : List Line) → All (IsInside names) ls
    → map (line_in (names ++ more)) ls ≡ map (line_in names) ls
all-still names more [] is = refl
all-still names more (l ∷ ls) is =
    λ i. still names more l (is 0 l (omega arith)) i
    ∷ all-still names more ls (λ k d m. is (suc k) d (omega (arith, m))) i

-- the name that was put behind the others
last : (names name : List ℕ)
    → take (length (names ++ name) - length names) (drop (length names) (names ++ name)) ≡ name
last names name =
    ap (take (length (names ++ name) - length names)) (drop-append_seam names name)
    ∙ take_all (length (names ++ name) - length names) name
    (omega (arith, length-append names name))

pub pushed : (names name : List ℕ) (ls : List Line) (start end n own : ℕ) (t : Bor (List ℕ))
    → start ≡ length names → end ≡ length (names ++ name) → All (IsInside names) ls
    → map (line_in (names ++ name))
    (ls ++ record { start = start; end = end; number = n; own = own; text = t } ∷ [])
    ≡ map (line_in names) ls ++ (name, (n, t.now)) ∷ []
pushed names name ls start end n own t first behind is =
    map-append (line_in (names ++ name)) ls
    (record { start = start; end = end; number = n; own = own; text = t } ∷ [])
    ∙ (λ i. all-still names name ls is i
    ++ (
      (ap (λ e. take (e - start) (drop start (names ++ name))) behind
          ∙ ap (λ s. take (length (names ++ name) - s) (drop s (names ++ name)))
          first
          ∙ last names name) i,
      (n, t.now),
    )
    ∷ [])
