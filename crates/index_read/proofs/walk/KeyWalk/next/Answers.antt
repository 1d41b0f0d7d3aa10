use Rattle.std.proofs.Common.{◌≡◌, refl, sym, ap, subst, ◌∙◌, ◌∷◌, ◌++◌, [], length, Some, arith}
use Rattle.std.proofs.Common.{rules}
use Rattle.std.proofs.lemmas.Result.{err_from_is_err_and}
use Rattle.index_nodes.specs.Fields.{link_of}
use Rattle.index_read.specs.Keys.{key_of, items_left, AreLevels}
use Rattle.index_read.specs.Walks.{left_after, IsWritten, after_byte, front, level_of}
use Rattle.index_read.proofs.KeyLemmas.{levels-pop, nothing_left, comes_left, comes_levels}
use Rattle.index_read.proofs.KeyLemmas.{written-on, written-same}
use Rattle.index_read.proofs.walk.KeyWalk.next.Goals as goal

pub next_child-requires : goal.next_child-requires
next_child-requires g c =
    let b = c.args.nodes.now in
    let are = subst (AreLevels b) c.in-Some.ensures c.loop-level.invariant.are in
    (levels-pop b (front c.loop-level.self.levels.items) c.in-Some.level are).1.node

pub go_up-requires-clause-top : goal.go_up-requires-clause-top
go_up-requires-clause-top g c = c.in-Some.ensures

pub go_up-requires-clause-node : goal.go_up-requires-clause-node
go_up-requires-clause-node g c =
    let b = c.args.nodes.now in
    let are = subst (AreLevels b) c.in-Some.ensures c.loop-level.invariant.are in
    (levels-pop b (front c.loop-level.self.levels.items) c.in-Some.level are).1.node

pub go_up-requires-clause-written : goal.go_up-requires-clause-written
go_up-requires-clause-written g c = c.loop-level.invariant.written

pub loop-level-preserved : goal.loop-level-preserved
loop-level-preserved g c =
    let b = c.args.nodes.now in
    let ps = front c.loop-level.self.levels.items in
    let l = c.in-Some.level in
    let w = c.loop-level.invariant in
    let are = subst (AreLevels b) c.in-Some.ensures w.are in
    record {
      are = subst (AreLevels b) (sym c.go_up.ensures.levels) (levels-pop b ps l are).0;
      written = c.go_up.ensures.written;
      still =
          ap (items_left b []) c.go_up.ensures.levels
          ∙ sym (nothing_left b c.requires.accepted ps l are c.in_default-next_child.ensures.none)
          ∙ ap (items_left b []) (sym c.in-Some.ensures)
          ∙ w.still;
      steps = w.steps;
    }

pub returns-in_err-enter-clause-cost : goal.returns-in_err-enter-clause-cost
returns-in_err-enter-clause-cost g c =
    let b = c.args.nodes.now in
    let w = c.loop-level.invariant in
    let n = c.node-node.result in
    let e = c.in-Some-next_child.ensures in
    let name : link_of c.node-node.result ≡ c.in-Some-next_child.at = search rules in
    let are = subst (AreLevels b) c.in-Some.ensures w.are in
    let one
    = sym w.still ∙ ap (items_left b []) c.in-Some.ensures
    ∙ comes_left b c.requires.accepted (front c.loop-level.self.levels.items) c.in-Some.level are
    c.in-Some-next_child.byte c.in-Some-next_child.at n e.some e.from e.first e.top name
    c.node-node.ensures.node in
    let some = ap length one in
    let p = err_from_is_err_and c.from_residual.result c.from_residual.ensures.1 in
    let none = ap (λ r. length (left_after r b c.enter.new.self)) p.1 in
    omega (arith, some, none, w.steps, c.node-node.ensures.step)

pub returns-in-Some-clause-goes_on : goal.returns-in-Some-clause-goes_on
returns-in-Some-clause-goes_on g c =
    let b = c.args.nodes.now in
    let ps = front c.loop-level.self.levels.items in
    let l = c.in-Some.level in
    let w = c.loop-level.invariant in
    let n = c.node-node.result in
    let new = c.enter.new.self in
    let byte = c.in-Some-next_child.byte in
    let at = c.in-Some-next_child.at in
    let e = c.in-Some-next_child.ensures in
    let kept = c.in_ok-enter.ensures in
    let levels = kept.levels l c.in-Some.ensures in
    let name : link_of c.node-node.result ≡ c.in-Some-next_child.at = search rules in
    let are = subst (AreLevels b) c.in-Some.ensures w.are in
    let before
    = subst (IsWritten b c.loop-level.self.key.items c.loop-level.self.written)
    c.in-Some.ensures w.written in
    let on
    = written-on b c.loop-level.self.key.items c.loop-level.self.written ps l
    (after_byte l byte) (level_of n (Some byte)) refl before in
    record {
      still =
          sym w.still
          ∙ ap (items_left b []) c.in-Some.ensures
          ∙ comes_left b c.requires.accepted ps l are byte at n e.some e.from e.first e.top name
          c.node-node.ensures.node
          ∙ ap (λ ls. (key_of b ls, link_of n) ∷ items_left b [] ls) (sym levels);
      node = c.node-node.ensures.node;
      walking = record {
        levels =
            subst (AreLevels b) (sym levels)
            (comes_levels b c.requires.accepted ps l are byte at n e.some e.from e.first e.top name
            c.node-node.ensures.node);
        written =
            subst (IsWritten b new.key.items new.written) (sym levels)
            (written-same b c.loop-level.self.key.items new.key.items c.loop-level.self.written
            new.written ((ps ++ after_byte l byte ∷ []) ++ level_of n (Some byte) ∷ [])
            kept.key kept.written on);
      };
    }

pub returns-in-Some-clause-cost : goal.returns-in-Some-clause-cost
returns-in-Some-clause-cost g c =
    let b = c.args.nodes.now in
    let w = c.loop-level.invariant in
    let n = c.node-node.result in
    let e = c.in-Some-next_child.ensures in
    let name : link_of c.node-node.result ≡ c.in-Some-next_child.at = search rules in
    let are = subst (AreLevels b) c.in-Some.ensures w.are in
    let still
    = sym w.still ∙ ap (items_left b []) c.in-Some.ensures
    ∙ comes_left b c.requires.accepted (front c.loop-level.self.levels.items) c.in-Some.level are
    c.in-Some-next_child.byte c.in-Some-next_child.at n e.some e.from e.first e.top name
    c.node-node.ensures.node
    ∙ ap (λ ls. (key_of b ls, link_of n) ∷ items_left b [] ls)
    (sym (c.in_ok-enter.ensures.levels c.in-Some.level c.in-Some.ensures)) in
    let fewer = ap length still in
    omega (arith, fewer, w.steps, c.node-node.ensures.step)
