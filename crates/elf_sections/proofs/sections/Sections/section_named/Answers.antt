use Rattle.std.proofs.Common.{sym, arith}
use Rattle.std.specs.Str.{bytes_eq}
use Rattle.elf_sections.proofs.Positions.{position-at, position-nowhere}
use Rattle.elf_sections.proofs.sections.Sections.section_named.Goals as goal

pub returns-then-eq-clause-first : goal.returns-then-eq-clause-first
returns-then-eq-clause-first c =
    sym (position-at (λ s. bytes_eq s.name c.args.name.now) c.args.self.now.list c.loop-i.i
    c.section.result.now c.section.ensures.section
    (λ k s less is. c.loop-i.invariant k s less is)
    (rw c.as_bytes.ensures at (sym c.if-eq.ensures)))

pub returns-clause-first : goal.returns-clause-first
returns-clause-first c =
    sym (position-nowhere (λ s. bytes_eq s.name c.args.name.now) c.args.self.now.list
    (λ k s less is. c.loop-i.invariant k s (omega arith) is))
