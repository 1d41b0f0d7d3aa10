use Rattle.std.proofs.Common.{sym, ◌∙◌, arith}
use Rattle.std.proofs.lemmas.Bool.Decides.{nat_tests}
use Rattle.elf_sections.proofs.ShapeLemmas.{is_table-numbers}
use Rattle.elf_sections.proofs.header.check_header.Goals as goal

pub returns-clause-table : goal.returns-clause-table
returns-clause-table c =
    let numbers
    = is_table-numbers c.args.bytes.now (sym c.has_table.ensures ∙ c.if-not-has_table.false) in
    record {
      header = omega arith;
      table = grind (arith, nat_tests);
      names = numbers.0;
      count = numbers.1;
    }
