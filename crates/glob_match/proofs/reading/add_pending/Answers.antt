use Rattle.std.proofs.Common.{◌≡◌, refl, sym, ap, subst, ◌∙◌, ◌||◌, ◌==◌, ◌+◌, ℕ, Bool, true, false}
use Rattle.std.proofs.Common.{slice_index}
use Rattle.glob_pattern.specs.Pattern.{dash}
use Rattle.glob_match.specs.Words.{HasBits, is_between}
use Rattle.glob_match.proofs.ReadLemmas.{same_bits, same_between}
use Rattle.glob_match.proofs.reading.add_pending.Goals as goal

last_or : (a : Bool) → (a || false) ≡ a
last_or true = refl
last_or false = refl

one_more : (t : Bool) (low x : ℕ) → (t || is_between low low x) ≡ (t || ((x == low) || false))
one_more t low x = ap (λ s. t || s) (same_between low x ∙ sym (last_or (x == low)))

two_more : (t : Bool) (low high x : ℕ)
    → ((t || is_between low low x) || is_between high high x)
    ≡ (t || ((x == low) || ((x == high) || false)))
two_more t low high x =
    (λ i. (t || same_between low x i) || same_between high x i) ∙ grouped t (x == low) (x == high)
  where
    grouped : (a b c : Bool) → ((a || b) || c) ≡ (a || (b || (c || false)))
    grouped true b c = refl
    grouped false true c = refl
    grouped false false true = refl
    grouped false false false = refl

pub returns-in-Nothing-clause-listed : goal.returns-in-Nothing-clause-listed
returns-in-Nothing-clause-listed c test h =
    rw (c.in-Nothing.is) (same_bits _ _ _ (λ n. sym (last_or (test n))) h)

pub returns-in-Low-clause-listed : goal.returns-in-Low-clause-listed
returns-in-Low-clause-listed c test h =
    let first = c.args.state.now.first in
    rw (c.in-Low.is)
    (same_bits _ _ _
    (λ n. one_more (test n) c.in-Low.low (slice_index c.args.bytes.now (first + n)))
    (c.list.ensures.listed test h))

pub returns-in-Dash-clause-listed : goal.returns-in-Dash-clause-listed
returns-in-Dash-clause-listed c test h =
    let first = c.args.state.now.first in
    let bytes = c.args.bytes.now in
    let low = c.in-Dash.low in
    let once = c.list-in-Dash.ensures in
    let twice
    = c.list-in-Dash-2.ensures.listed
    (λ n. test n || is_between low low (slice_index bytes (first + n))) (once.listed test h)
    in
    rw (c.in-Dash.is)
    (same_bits _ _ _ (λ n. two_more (test n) low dash (slice_index bytes (first + n)))
    (subst (λ f. HasBits c.list-in-Dash-2.new.self.listed.items
    (λ n. (test n || is_between low low (slice_index bytes (first + n)))
    || is_between dash dash (slice_index bytes (f + n)))) once.same.first twice))
