use Rattle.std.proofs.Common.{◌↔◌, refl, not, ◌∙◌, ◌++◌, ◌-◌, IsTrue, arith, sym, ap, subst, take}
use Rattle.std.proofs.Common.{drop}
use Rattle.index_format.specs.Node.{prefix}
use Rattle.index_nodes.specs.Fields.{link_of}
use Rattle.glob_pattern.specs.Pattern.{Matches}
use Rattle.glob_match.specs.Progress.{HasRead}
use Rattle.index_read.specs.Searches.{IsLost, IsWholeOrLeaf}
use Rattle.index_read.proofs.ReadLemmas.{known_over, on_none}
use Rattle.index_read.proofs.search.read_prefix.Goals as goal

pub read_end-requires-clause-ends : goal.read_end-requires-clause-ends
read_end-requires-clause-ends c text over =
    (known_over c.bytes-file.result.now text c.args.progress.now c.find.new.self
    c.in_ok-find.ensures over).ends

pub read_end-requires-clause-runs : goal.read_end-requires-clause-runs
read_end-requires-clause-runs c = c.in_ok-find.ensures.known.runs

pub read_range-requires-clause-runs : goal.read_range-requires-clause-runs
read_range-requires-clause-runs c = c.in_ok-find.ensures.known.runs

pub returns-then-is_leaf-clause-enters : goal.returns-then-is_leaf-clause-enters
returns-then-is_leaf-clause-enters c text pattern o h =
    let b = c.args.nodes.now in
    let link = link_of c.args.node.now in
    let range = c.prefix_range-range.result in
    let bytes
    = ap (λ f. take (range.1 - range.0) (drop range.0 f)) c.bytes-file.ensures
    ∙ c.prefix_range-range.ensures.prefix in
    record {
      node = c.requires.node;
      name = refl;
      decides
          = subst (λ bs. IsTrue c.in_ok-is_match.is_match ↔ Matches (pattern ++ bs) text) bytes
          (c.in_ok-is_match.ensures.decides text pattern o h);
      under
          = subst (IsWholeOrLeaf b text (pattern ++ prefix b link) link c.read_end.new.progress)
          (sym c.if-is_leaf.true)
          (λ byte. on_none c.next_child.result
          (c.is_none-is_leaf.ensures ∙ ap not c.if-is_leaf.true) c.next_child.ensures.none
          byte (omega arith));
    }

pub returns-then-not-branch-clause-enters : goal.returns-then-not-branch-clause-enters
returns-then-not-branch-clause-enters c text pattern o h =
    let range = c.prefix_range-range.result in
    let bytes
    = ap (λ f. take (range.1 - range.0) (drop range.0 f)) c.bytes-file.ensures
    ∙ c.prefix_range-range.ensures.prefix in
    subst (λ bs. IsLost text (pattern ++ bs)) bytes
    (rw (c.if-not-branch.true) at (c.in_ok-read_range.ensures.read text pattern o h))

pub returns-clause-enters : goal.returns-clause-enters
returns-clause-enters c text pattern o h =
    let b = c.args.nodes.now in
    let link = link_of c.args.node.now in
    let new = c.read_range.new.progress in
    let range = c.prefix_range-range.result in
    let bytes
    = ap (λ f. take (range.1 - range.0) (drop range.0 f)) c.bytes-file.ensures
    ∙ c.prefix_range-range.ensures.prefix in
    let read
    = subst (λ bs. HasRead new text (pattern ++ bs)) bytes
    (rw (c.if-not-branch.false) at (c.in_ok-read_range.ensures.read text pattern o h)) in
    record {
      node = c.requires.node;
      name = refl;
      decides
          = c.is_match.ensures text (pattern ++ prefix b link)
          (c.in_ok-read_range.ensures.over text o) read;
      under
          = subst (IsWholeOrLeaf b text (pattern ++ prefix b link) link new)
          (sym c.if-is_leaf.false) read;
    }
