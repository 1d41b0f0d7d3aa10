use Rattle.std.proofs.Common.{ap, ◌∙◌, sym, arith, drop, length, map, ◌++◌, ◌+◌}
use Rattle.index_format.specs.declared.numbers.TheConstants.{MAGIC, VERSION}
use Rattle.index_format.specs.File.{number, offset}
use Rattle.index_write.specs.Parts.{with_part, with_parts, headed}
use Rattle.index_write.specs.Groups.{part_of}
use Rattle.index_write.specs.Links.{links_of, state}
use Rattle.index_write.proofs.SizeLemmas.{drop-item, past_end}
use Rattle.index_write.proofs.WriteLemmas.{with_parts-grows, with_parts-next, with_parts-none}
use Rattle.index_write.proofs.WriteLemmas.{take_whole, rooted-steps}
use Rattle.index_write.proofs.bytes.write.Goals as goal

pub loop-node-init : goal.loop-node-init
loop-node-init c =
    λ i. with_parts (map part_of c.args.nodes.now) (record {
      bytes = (c.in_ok-push_number-3.ensures
          ∙ ap (λ xs. xs ++ number 0)
          (c.in_ok-push_number-2.ensures
          ∙ ap (λ xs. xs ++ number VERSION)
          (c.in_ok-push_number.ensures
          ∙ ap (λ xs. xs ++ number MAGIC) c.in_ok-out.ensures.items))) i;
      links = ap links_of c.new-links.ensures.items i;
    })

pub write_node-requires : goal.write_node-requires
write_node-requires c =
    let now = state c.loop-node.out.items c.loop-node.links.items in
    let left
    = drop-item part_of c.args.nodes.now c.loop-node.node-index c.node-item.result
    c.loop-node-test.true c.node-item.is in
    let whole
    = sym (ap (λ ps. with_parts ps now) left
    ∙ with_parts-next (part_of c.node-item.result)
    (drop (c.loop-node.node-index + 1) (map part_of c.args.nodes.now)) now)
    ∙ c.loop-node.invariant in
    let grows
    = with_parts-grows (drop (c.loop-node.node-index + 1) (map part_of c.args.nodes.now))
    (with_part (part_of c.node-item.result) now) in
    omega (arith, grows, ap (λ w. length w.bytes) whole, c.requires)

pub loop-node-preserved : goal.loop-node-preserved
loop-node-preserved c =
    let now = state c.loop-node.out.items c.loop-node.links.items in
    let rest = drop (c.loop-node.node-index + 1) (map part_of c.args.nodes.now) in
    let left
    = drop-item part_of c.args.nodes.now c.loop-node.node-index c.node-item.result
    c.loop-node-test.true c.node-item.is in
    ap (with_parts rest) c.in_ok-write_node.ensures
    ∙ sym
    (ap (λ ps. with_parts ps now) left ∙ with_parts-next (part_of c.node-item.result) rest now)
    ∙ c.loop-node.invariant

pub put_root-requires : goal.put_root-requires
put_root-requires c =
    let now = state c.loop-node.out.items c.loop-node.links.items in
    let done
    = sym (with_parts-none now)
    ∙ ap (λ ps. with_parts ps now)
    (sym (past_end part_of c.args.nodes.now c.loop-node.node-index
    c.loop-node-test.false))
    ∙ c.loop-node.invariant in
    omega (
      arith,
      with_parts-grows (map part_of c.args.nodes.now) headed,
      ap (λ w. length w.bytes) done,
      ap length c.deref_mut.ensures.value,
    )

pub returns : goal.returns
returns c =
    let now = state c.loop-node.out.items c.loop-node.links.items in
    let done
    = sym (with_parts-none now)
    ∙ ap (λ ps. with_parts ps now)
    (sym (past_end part_of c.args.nodes.now c.loop-node.node-index
    c.loop-node-test.false))
    ∙ c.loop-node.invariant in
    take_whole c.loop-node.out.len c.put_root.new.out _ (omega (arith, c.put_root.auto.out))
    ∙ rooted-steps _ c.loop-node.out.items c.deref_mut.result.now c.put_root.new.out
    (links_of c.loop-node.links.items) c.offset_of-root.result done c.deref_mut.ensures.value
    (c.offset_of-root.ensures ∙ ap (λ ls. offset (links_of ls) 0) c.deref.ensures.value)
    c.put_root.ensures
