-- The numbers of files as the crate `byteorder` states them.
use Rattle.std.proofs.Common.{◌≡◌, ℕ, zero, suc, ◌+◌, ◌*◌, ◌-◌, List, length, take, drop}
use Rattle.std.proofs.Common.{slice_index, add-one, refl, sym, ap, ◌∙◌, arith}
use Rattle.std.proofs.Math.Nat.{add-zero, add-suc, pow-suc}
use Rattle.std.proofs.lemmas.List.{get_or-drop, take_rest}
use Rattle.byteorder.specs.Endian.{big_from, big_number, little_from, little_number}
use Rattle.km_names.specs.Number.{be, le}

-- the lowest byte taken off the front
le-front : (b : List ℕ) (o n : ℕ) → le b o (suc n) ≡ slice_index b o + 256 * le b (suc o) n
unfolding le
le-front b o zero = rw (add-zero o) (omega arith)
le-front b o (suc n) =
    let rest = le-front b o n in
    let place : o + suc n ≡ suc o + n = omega arith in
    let power = pow-suc 256 n in
    rw (place, power) (omega (arith, rest))

-- both sums of the lowest byte first
little_from-le : (i n : ℕ) (b : List ℕ) → little_from i n b ≡ le b i n
unfolding le
little_from-le i zero b = refl
little_from-le i (suc n) b =
    ap (λ r. slice_index b i + 256 * r) (little_from-le (suc i) n b) ∙ sym (le-front b i n)

-- both sums of the highest byte first
big_from-be : (i n : ℕ) (b : List ℕ) → big_from i n b ≡ be b i n
unfolding be
big_from-be i zero b = refl
big_from-be i (suc n) b = rw (big_from-be (suc i) n b, add-one) refl

-- a place in what is left of a list
little_from-drop : (o i n : ℕ) (b : List ℕ) → little_from i n (drop o b) ≡ little_from (o + i) n b
little_from-drop o i zero b = refl
little_from-drop o i (suc n) b =
    rw (get_or-drop o b i 0, little_from-drop o (suc i) n b, add-suc) refl

big_from-drop : (o i n : ℕ) (b : List ℕ) → big_from i n (drop o b) ≡ big_from (o + i) n b
big_from-drop o i zero b = refl
big_from-drop o i (suc n) b =
    rw (get_or-drop o b i 0, big_from-drop o (suc i) n b, add-suc) refl

-- the number at a place, as it is read at the front of what is left
pub little_number-rest : (n o : ℕ) (b : List ℕ)
    → little_number n (take (length b - o) (drop o b)) ≡ le b o n
little_number-rest n o b =
    ap (little_number n) (take_rest b o) ∙ little_from-drop o 0 n b
    ∙ ap (λ i. little_from i n b) (add-zero o) ∙ little_from-le o n b

pub big_number-rest : (n o : ℕ) (b : List ℕ)
    → big_number n (take (length b - o) (drop o b)) ≡ be b o n
big_number-rest n o b =
    ap (big_number n) (take_rest b o) ∙ big_from-drop o 0 n b
    ∙ ap (λ i. big_from i n b) (add-zero o) ∙ big_from-be o n b
