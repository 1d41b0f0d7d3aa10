use Rattle.std.proofs.Common.{ap, ◌∙◌}
use Rattle.std.specs.Prelude.{codes}
use Rattle.std.specs.Str.{bytes_eq}
use Rattle.command_modinfo.specs.ModuleInfo.{bytes_named}
use Rattle.command_modinfo.proofs.Named.{named-found, named-absent}
use Rattle.command_modinfo.proofs.module_info.module_info.Goals as goal

pub returns-in-Some : goal.returns-in-Some
unfolding bytes_named
returns-in-Some c =
    named-found _ _ _ c.in-Some.index _ c.in-Some.ensures.first c.section_bytes.ensures.bytes
    ∙ ap (bytes_named (codes ".modinfo")) c.in_ok-table.ensures

pub returns : goal.returns
unfolding bytes_named
returns c =
    named-absent (λ s. bytes_eq s.name (codes ".modinfo")) c.in_ok-table.table.file
    c.in_ok-table.table.list c.in-None.ensures.first
    ∙ ap (bytes_named (codes ".modinfo")) c.in_ok-table.ensures
