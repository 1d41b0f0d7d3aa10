use Rattle.std.proofs.Common.{ap, ◌∙◌, filter, map}
use Rattle.std.specs.List.{list_all}
use Rattle.km_names.specs.Ascii.{is_graphic}
use Rattle.km_names.specs.Lines.{lines_of}
use Rattle.km_names.specs.Path.{module_name}
use Rattle.name_table.specs.FirstSeen.{first_seen}
use Rattle.depmod_core.proofs.KeySteps.{kept-passes, seen-passes}
use Rattle.depmod_core.proofs.built_in.built_in_map.Goals as goal

pub map_of_names-requires : goal.map_of_names-requires
map_of_names-requires c =
    let listed = map module_name (lines_of c.args.builtin.now) in
    ap (list_all is_graphic) (c.in_ok-set.ensures ∙ ap first_seen c.in_ok-names.ensures)
    ∙ seen-passes is_graphic (filter is_graphic listed) (kept-passes is_graphic listed)
