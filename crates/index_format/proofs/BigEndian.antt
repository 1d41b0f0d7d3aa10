-- Numbers at a place are numbers at the front of what is left from there.
use Rattle.std.proofs.Common.{◌≡◌, refl, sym, ap, ◌∙◌, ℕ, zero, suc, ◌+◌, ◌*◌, ◌^◌, ◌<◌, List, ◌++◌}
use Rattle.std.proofs.Common.{drop, get_or, arith}
use Rattle.std.proofs.lemmas.List.{get_or-drop}
use Rattle.std.proofs.lemmas.Nat.{from_be_bytes-to_be_bytes_4}
use Rattle.km_names.specs.Number.{be}
use Rattle.index_format.specs.File.{number}

pub be-drop : (b : List ℕ) (o q n : ℕ) → be (drop o b) q n ≡ be b (o + q) n
unfolding be
be-drop b o q zero = refl
be-drop b o q (suc n) =
    let at : o + (q + 1) ≡ o + q + 1 = omega arith in
    (λ i. get_or-drop o b q 0 i * 256 ^ n + be-drop b o (q + 1) n i)
    ∙ ap (λ k. get_or b (o + q) 0 * 256 ^ n + be b k n) at

pub be-at : (b : List ℕ) (o n : ℕ) → be b o n ≡ be (drop o b) 0 n
be-at b o n =
    let at : o ≡ o + 0 = omega arith in
    ap (λ k. be b k n) at ∙ sym (be-drop b o 0 n)

pub be-number : (n : ℕ) (r : List ℕ) → n < 2 ^ 32 → be (number n ++ r) 0 4 ≡ n
unfolding be
be-number n r h = omega (arith, from_be_bytes-to_be_bytes_4 n h)
