use Rattle.std.proofs.Common.{◌≡◌, ◌≤◌, ◌<◌, ◌∙◌, [], length, ap, sym, arith, map}
use Rattle.std.specs.List.{range_with_len}
use Rattle.image_layout.specs.Offsets.{image_size}
use Rattle.image_layout.specs.Plain.{filled, piece}
use Rattle.image_layout.proofs.PlainLemmas.{filled-zeros, length-filled, piece_at}
use Rattle.image_layout.proofs.PieceLemmas.{plain-more-at, piece-within-at}
use Rattle.image_layout.proofs.SymbolLemmas.{offset_at, length_layout}
use Rattle.image_layout.proofs.plain.plain_image.Goals as goal

pub offset-requires : goal.offset-requires
offset-requires c =
    omega (arith, length_layout c.args.object.now.sections c.args.layout.now c.requires.layout)

pub copy_in-requires : goal.copy_in-requires
copy_in-requires c =
    let o = c.args.object.now in
    let i = c.loop-i.i in
    let within : i < length o.sections = omega arith in
    let some : 4096 ≤ image_size o.sections = omega arith in
    let long : length c.loop-i.image ≡ image_size o.sections =
    ap length c.loop-i.invariant
    ∙ length-filled (image_size o.sections) (map (piece o) (range_with_len 0 i)) in
    let place
    = c.offset.ensures ∙ offset_at o.sections c.args.layout.now i c.requires.layout within
    ∙ sym (piece_at o i) in
    omega (arith, long, place, ap length c.bytes_in_memory.ensures, piece-within-at o i within some)

pub loop-i-init : goal.loop-i-init
loop-i-init c =
    c.in_ok-image.ensures ∙ filled-zeros c.image_size.result
    ∙ ap (λ n. filled n []) c.image_size.ensures.size

pub loop-i-preserved : goal.loop-i-preserved
loop-i-preserved c =
    let o = c.args.object.now in
    let i = c.loop-i.i in
    let within : i < length o.sections = omega arith in
    let some : 4096 ≤ image_size o.sections = omega arith in
    let place
    = c.offset.ensures ∙ offset_at o.sections c.args.layout.now i c.requires.layout within in
    plain-more-at o i c.offset.result c.loop-i.image c.copy_in.new.self c.bytes_in_memory.result.now
    within some c.loop-i.invariant place c.bytes_in_memory.ensures c.copy_in.ensures.bytes

pub returns : goal.returns
returns c =
    let o = c.args.object.now in
    let all : c.loop-i.i ≡ length o.sections = omega arith in
    c.loop-i.invariant
    ∙ ap (λ n. filled (image_size o.sections) (map (piece o) (range_with_len 0 n))) all
