use Rattle.std.proofs.Common.{◌+◌, get_or, arith}
use Rattle.std.proofs.lemmas.Bool.{false_from_ne_true}
use Rattle.memchr.specs.Find.{is_byte}
use Rattle.elf_sections.proofs.StringLemmas.{HasStrings-cut}
use Rattle.elf_sections.proofs.strings.up_to_last_nul.Goals as goal

pub returns-in-Some : goal.returns-in-Some
returns-in-Some c =
    let table = c.args.table.now in
    HasStrings-cut table (c.in-Some.last + 1)
    (λ k after less. false_from_ne_true (is_byte 0 (get_or table k 0))
    (c.in-Some.ensures.0.after k after less))

pub returns-in-None : goal.returns-in-None
returns-in-None c =
    let table = c.args.table.now in
    HasStrings-cut table 0
    (λ k after less. false_from_ne_true (is_byte 0 (get_or table k 0))
    (c.in-None.ensures k (omega arith) less))
