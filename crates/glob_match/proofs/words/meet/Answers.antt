use Rattle.std.proofs.Common.{◌≡◌, refl, sym, subst, ◌∙◌, ⊎_elim, ◌+◌, ◌-◌, ◌*◌, ◌&&◌, false}
use Rattle.std.proofs.Common.{length, slice_index, arith, rules}
use Rattle.std.proofs.lemmas.Bool.{cases_lt, and_left, and_from, false≢true}
use Rattle.glob_match.proofs.ShiftLemmas.{none_common, one_common, from_start, and_fits}
use Rattle.glob_match.proofs.words.meet.Goals as goal

pub loop-at-init : goal.loop-at-init
loop-at-init c some other h g none n lt =
    and_left (some n) (other n) (h.before n (omega (arith, lt)))

pub returns-then-reached-at-ne0 : goal.returns-then-reached-at-ne0
returns-then-reached-at-ne0 c some other h g none = (
  λ _.
      let at = c.loop-at.at in
      let first = c.args.first in
      one_common some other (slice_index c.args.reached.now at) c.word_from.result (first + at * 64)
      (from_start some first c.args.reached.now at h.bits (omega arith))
      (c.word_from.ensures other g none)
      c.if-reached-at-ne0.true
      (and_fits (slice_index c.args.reached.now at) c.word_from.result (search rules)),
  λ _. refl,
)

pub loop-at-preserved : goal.loop-at-preserved
loop-at-preserved c some other h g none n lt =
    let at = c.loop-at.at in
    let first = c.args.first in
    ⊎_elim
    (λ before. c.loop-at.invariant some other h g none n before)
    (λ here.
    let i = n - (first + 64 * at) in
    let same : first + at * 64 + i ≡ n = omega (arith, here) in
    subst (λ m. (some m && other m) ≡ false) same
    (none_common some other (slice_index c.args.reached.now at) c.word_from.result (first + at * 64)
    (from_start some first c.args.reached.now at h.bits (omega arith))
    (c.word_from.ensures other g none)
    c.if-reached-at-ne0.false i (omega (arith, lt, here))))
    (cases_lt n (first + 64 * at))

pub returns : goal.returns
returns c some other h g none = (
  λ e. absurd (false≢true e),
  λ m. ⊎_elim
      (λ inside. sym (c.loop-at.invariant some other h g none m.0 (omega (arith, inside)))
      ∙ and_from (some m.0) (other m.0) m.1 m.2)
      (λ past. sym (h.after m.0 past) ∙ m.1)
      (cases_lt m.0 (c.args.first + 64 * length c.args.reached.now)),
)
