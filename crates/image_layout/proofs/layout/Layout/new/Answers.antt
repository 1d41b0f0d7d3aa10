use Rattle.std.proofs.Common.{◌≡◌, ◌∙◌, ◌++◌, ◌∷◌, [], length, ap, sym, arith, map}
use Rattle.std.specs.List.{range_with_len}
use Rattle.std.proofs.lemmas.List.FromFn.{map-range_with_len_more}
use Rattle.image_layout.specs.Offsets.{offset, offsets}
use Rattle.image_layout.proofs.NextLemmas.{ends-near, offset-near}
use Rattle.image_layout.proofs.layout.Layout.new.Goals as goal

pub next_offset-at-requires-clause-near : goal.next_offset-at-requires-clause-near
next_offset-at-requires-clause-near c =
    ends-near c.args.object.now.sections c.loop-i.i c.loop-i.ends c.loop-i.invariant.0 c.requires

pub overflow_cast-at : goal.overflow_cast-at
overflow_cast-at c =
    let xs = c.args.object.now.sections in
    let is = c.section.ensures.section in
    let here = c.next_offset-at.ensures xs c.loop-i.i is c.loop-i.invariant.0 in
    let near = offset-near xs c.loop-i.i c.section.result.now is c.requires in
    omega (arith, here.0, near)

pub loop-i-preserved : goal.loop-i-preserved
loop-i-preserved c =
    let xs = c.args.object.now.sections in
    let here
    = c.next_offset-at.ensures xs c.loop-i.i c.section.ensures.section c.loop-i.invariant.0 in
    let more = map-range_with_len_more (offset xs) 0 c.loop-i.i c.loop-i.i (omega arith) in
    let done = map (offset xs) (range_with_len 0 c.loop-i.i) in (
      here.1,
      c.in_ok-push.ensures.items
          ∙ ap (λ vs. vs ++ c.next_offset-at.result ∷ []) c.loop-i.invariant.1
          ∙ ap (λ at. done ++ at ∷ []) here.0 ∙ sym more,
    )

pub returns : goal.returns
unfolding offsets
returns c =
    let xs = c.args.object.now.sections in
    let all : c.loop-i.i ≡ length xs = omega arith in
    c.loop-i.invariant.1 ∙ ap (λ n. map (offset xs) (range_with_len 0 n)) all
