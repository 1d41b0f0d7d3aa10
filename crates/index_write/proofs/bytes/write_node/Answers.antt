use Rattle.std.proofs.Common.{◌≡◌, ◌∙◌, arith, length, ◌-◌}
use Rattle.std.proofs.lemmas.List.{length-map}
use Rattle.index_write.specs.Lists.{value_of, shown_values}
use Rattle.index_write.specs.Groups.{part_of}
use Rattle.index_write.specs.Links.{links_of, state}
use Rattle.index_write.proofs.WriteLemmas.{with_part-grows, values-fit, link_to-bits}
use Rattle.index_write.proofs.WriteLemmas.{with_part-steps, links_of-end, links_of-push}
use Rattle.index_write.proofs.WriteLemmas.{length-links_of, link_of, same_length}
use Rattle.index_write.proofs.bytes.write_node.Goals as goal

pub overflow_cast-place : goal.overflow_cast-place
overflow_cast-place c =
    omega (
      arith,
      with_part-grows (part_of c.args.node.now)
          (state c.args.out.now.items c.args.links.now.items),
      c.requires,
    )

pub link_to-offset-requires : goal.link_to-offset-requires
link_to-offset-requires c =
    omega (
      arith,
      with_part-grows (part_of c.args.node.now)
          (state c.args.out.now.items c.args.links.now.items),
      c.requires,
    )

pub push_values-requires : goal.push_values-requires
push_values-requires c =
    omega (
      arith,
      values-fit (part_of c.args.node.now) (state c.args.out.now.items c.args.links.now.items),
      c.requires,
      length-map c.args.node.now.values.now value_of,
    )

pub returns : goal.returns
returns c =
    let before = c.args.links.now.items in
    let start : c.saturating_sub-start.result
    ≡ length (links_of before) - c.args.node.now.children.count
    = omega (arith, length-links_of before) in
    let kids
    = links_of-end before c.deref.result.now c.saturating_sub-start.result c.deref.ensures.value
    in
    let place : c.len-place.result ≡ length c.args.out.now.items = omega arith in
    with_part-steps (part_of c.args.node.now) c.args.out.now.items (links_of before)
    c.push_prefix.new.out.items c.push_children.new.out.items c.push_values.new.out.items _
    (links_of c.push.new.self.items) c.len-place.result c.link_to-offset.result
    c.saturating_sub-start.result
    start kids c.in_ok-push_prefix.ensures c.in_ok-push_children.ensures c.in_ok-push_values.ensures
    place
    (link_to-bits c.len-place.result c.link_to-offset.result c.args.node.now.prefix.now _
    (shown_values c.args.node.now.values.now) c.is_empty.result c.is_empty-2.result
    c.is_empty-3.result
    c.is_empty.ensures (c.is_empty-2.ensures ∙ same_length link_of _)
    (c.is_empty-3.ensures ∙ same_length value_of c.args.node.now.values.now)
    c.link_to-offset.ensures)
    (links_of-push before c.truncate.new.self.items c.push.new.self.items
    c.saturating_sub-start.result _ c.truncate.ensures.items c.in_ok-push.ensures.items)
