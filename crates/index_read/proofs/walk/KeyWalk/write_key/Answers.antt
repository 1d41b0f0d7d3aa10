use Rattle.std.proofs.Common.{◌≡◌, refl, sym, ap, subst, ◌∙◌, ◌<◌, length, get_or, arith}
use Rattle.std.specs.Prelude.{vec_len}
use Rattle.index_read.specs.Keys.{AreLevels}
use Rattle.index_read.specs.Walks.{IsWritten}
use Rattle.index_read.proofs.KeyLemmas.{level-at, written-more, written-all, whole-written}
use Rattle.index_read.proofs.walk.KeyWalk.write_key.Goals as goal

pub loop-at-init : goal.loop-at-init
loop-at-init c =
    record { same = refl; key_is = c.requires.written.key_is; within = c.requires.written.within }

pub write-requires : goal.write-requires
write-requires c =
    let ls = c.args.self.now.levels in
    let l = c.index.result.now in
    let size : vec_len ls ≡ length ls.items = omega (arith, ls.ok.0) in
    let lt : c.loop-at.at < length ls.items
    = omega (arith, size, c.loop-at-test.true, c.len-at-end.ensures) in
    (level-at c.args.nodes.now ls.items c.loop-at.at l c.requires.levels lt
    (c.index.ensures ∙ ap (λ ms. get_or ms c.loop-at.at l) c.loop-at.invariant.same)).node

pub loop-at-preserved : goal.loop-at-preserved
loop-at-preserved c =
    let ls = c.args.self.now.levels in
    let l = c.index.result.now in
    let w = c.loop-at.invariant in
    let size : vec_len ls ≡ length ls.items = omega (arith, ls.ok.0) in
    let lt : c.loop-at.at < length ls.items
    = omega (arith, size, c.loop-at-test.true, c.len-at-end.ensures) in
    record {
      same = ap (λ v. v.items) c.in_ok-write.ensures.levels ∙ w.same;
      key_is
          = c.in_ok-write.ensures.key
          ∙ written-more c.args.nodes.now c.loop-at.self.key.items c.loop-at.at ls.items l
          w.key_is lt (c.index.ensures ∙ ap (λ ms. get_or ms c.loop-at.at l) w.same);
      within = omega (arith, lt);
    }

pub returns-clause-walking : goal.returns-clause-walking
returns-clause-walking c =
    let b = c.args.nodes.now in
    let ls = c.args.self.now.levels in
    let now = c.loop-at.self.levels in
    let w = c.loop-at.invariant in
    let size : vec_len ls ≡ length ls.items = omega (arith, ls.ok.0) in
    let now_size : vec_len now ≡ length now.items = omega (arith, now.ok.0) in
    let all
    = written-all b c.loop-at.self.key.items c.loop-at.at ls.items w.key_is
    (omega (arith, size, c.loop-at-test.false, c.len-at-end.ensures)) in
    record {
      levels = subst (AreLevels b) (sym w.same) c.requires.levels;
      written
          = subst (λ ms. IsWritten b c.loop-at.self.key.items c.len-self.result ms) (sym w.same)
          (whole-written b c.loop-at.self.key.items c.len-self.result ls.items all
          (c.len-self.ensures ∙ now_size ∙ ap length w.same));
    }

pub returns-clause-levels : goal.returns-clause-levels
returns-clause-levels c = c.loop-at.invariant.same

pub returns-clause-key : goal.returns-clause-key
returns-clause-key c =
    let ls = c.args.self.now.levels in
    let size : vec_len ls ≡ length ls.items = omega (arith, ls.ok.0) in
    let w = c.loop-at.invariant in
    written-all c.args.nodes.now c.loop-at.self.key.items c.loop-at.at ls.items w.key_is
    (omega (arith, size, c.loop-at-test.false, c.len-at-end.ensures))
