use Rattle.std.proofs.Common.{sym}
use Rattle.elf_sections.proofs.StringLemmas.{string_at-cut}
use Rattle.elf_sections.proofs.strings.string_within.Goals as goal

pub returns-in-Some-clause-string : goal.returns-in-Some-clause-string
returns-in-Some-clause-string c =
    sym (string_at-cut c.args.table.now c.min-end.result c.args.at c.in-Some.name.now
    (sym c.in-Some.ensures.string))
