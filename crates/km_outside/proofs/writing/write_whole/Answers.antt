use Rattle.std.proofs.Common.{◌≡◌, ◌+◌, ◌-◌, ◌++◌, length, take, drop, arith, sym, ap, subst, ◌∙◌}
use Rattle.std.proofs.Common.{length-drop}
use Rattle.std.proofs.lemmas.List.{take_rest}
use Rattle.std.proofs.Math.Seq.{take-add}
use Rattle.std.specs.Io.KnownBytes.{Appends}
use Rattle.std.proofs.KnownBytes.{Appends-trans}
use Rattle.km_outside.proofs.writing.write_whole.Goals as goal

-- what one more write took is added to what was written
pub loop-written-preserved : goal.loop-written-preserved
loop-written-preserved g c =
    let all = c.args.bytes.now in
    let at = c.loop-written.written in
    let n = c.in-Ok.count in
    let rest = take_rest all at in
    let more : take at all ++ take n (take (length all - at) (drop at all)) ≡ take (at + n) all =
    ap (λ r. take at all ++ take n r) rest ∙ sym (take-add at n all) in (
      omega (
        arith,
        c.in-Ok.ensures.bound,
        ap length rest,
        length-drop at all,
        c.loop-written.invariant.0,
      ),
      subst (Appends _ _) more
          (Appends-trans _ _ _ _ _ c.loop-written.invariant.1 c.in-Ok.ensures.bytes),
    )
