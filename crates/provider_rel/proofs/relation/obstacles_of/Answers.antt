use Rattle.std.proofs.Common.{◌++◌, flat_map, refl}
use Rattle.provider_rel.specs.declared.unmet.UnmetKind.TheVariants.{Missing, Gpl, Version}
use Rattle.provider_rel.specs.Faces.{kernel_of, seen_export}
use Rattle.provider_rel.specs.Kinds.{lines_by}
use Rattle.provider_rel.proofs.DoubleLaw.{apart-map, modules-apart}
use Rattle.provider_rel.proofs.MakeSteps.{all-lines}
use Rattle.provider_rel.proofs.relation.obstacles_of.Goals as goal

pub returns : goal.returns
returns c =
    let b = c.args.bindings.now in
    let k = c.args.kernel.now in
    let known = c.requires.bindings in
    let is = b.items.items in
    let tree = c.args.tree.now in
    let missing = c.new-lines.result ++ flat_map (lines_by Missing b.known is b.names) tree in
    let gpl = missing ++ flat_map (lines_by Gpl b.known is b.names) tree in
    let version = gpl ++ flat_map (lines_by Version b.known is b.names) tree in
    all-lines tree (kernel_of k) b.names is b.known c.new-lines.result missing gpl version
    c.push_need_lines.new.lines c.push_doubles.new.lines
    known.items_are known.names_are known.known_is
    (apart-map seen_export k.exports k.table.distinct)
    (modules-apart tree c.requires.tree.modules)
    c.new-lines.ensures refl refl refl c.in_ok-push_need_lines.ensures
    (rw (← c.deref.ensures.value) c.in_ok-push_doubles.ensures)
