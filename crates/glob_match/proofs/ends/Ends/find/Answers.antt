use Rattle.std.proofs.Common.{◌≡◌, ℕ, List, refl, sym, subst, ◌∙◌, ◌+◌, ◌-◌, ◌/◌, arith}
use Rattle.glob_match.specs.Backward.{IsReady, IsBackward}
use Rattle.glob_match.specs.Progress.{IsOver, IsText}
use Rattle.glob_match.specs.declared.backward.Backward.{Backward}
use Rattle.glob_match.specs.declared.ends.Ends.{Ends}
use Rattle.glob_match.specs.declared.progress.Progress.{Progress}
use Rattle.glob_match.proofs.ends.Ends.find.Invariants.{Known}
use Rattle.glob_match.proofs.ends.Ends.find.Goals as goal

pub loop-at-init : goal.loop-at-init
loop-at-init c =
    let b = c.args.bytes.now in
    record {
      ready = c.in_ok-backward.ensures.ready b refl;
      back = λ text over. c.in_ok-backward.ensures.begun b text (sym over.size_is);
      ends = c.requires.ends;
    }

pub go_back-requires-clause-ready : goal.go_back-requires-clause-ready
go_back-requires-clause-ready c =
    let same : c.loop-at.at ≡ c.loop-at.at - 1 + 1 = omega (arith, c.loop-at-test.true) in
    subst (λ n. IsReady c.args.progress.now.size c.args.bytes.now n c.loop-at.backward) same
    c.loop-at.invariant.ready

-- one byte more
back_more : (file bytes : List ℕ) (p : Progress) (e : Ends) (b new : Backward) (at : ℕ)
    → Known file p e b (at + 1) → bytes ≡ p.bytes.items
    → ((text : List ℕ) → IsText text bytes p.size → IsBackward file text (at + 1) b
    → IsBackward file text at new)
    → (text : List ℕ) → IsOver p text → IsBackward file text at new
back_more file bytes p e b new at known same more text over =
    more text (subst (λ bs. IsText text bs p.size) (sym same) over) (known.back text over)

pub loop-at-preserved : goal.loop-at-preserved
loop-at-preserved c =
    let at = c.loop-at.at - 1 in
    let file = c.args.bytes.now in
    let p = c.args.progress.now in
    let same : c.loop-at.at ≡ at + 1 = omega (arith, c.loop-at-test.true) in
    let known = subst (Known file p c.loop-at.self c.loop-at.backward) same c.loop-at.invariant in
    let back
    = back_more file c.deref.result.now p c.loop-at.self c.loop-at.backward c.go_back.new.self
    at known c.deref.ensures.value c.go_back.ensures.back in
    let ready = c.go_back.ensures.ready in
    record {
      ready = ready;
      back = back;
      ends
          = λ text over. c.in_ok-add.ensures file text (ready.ends ∙ (λ i. over.size_is i / 64 + 1))
          (back text over) (known.ends text over);
    }

pub returns : goal.returns
returns c = c.loop-at.invariant.ends
