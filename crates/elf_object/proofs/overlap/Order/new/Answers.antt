use Rattle.elf_object.specs.Overlap.{place_end, place_start}
use Rattle.elf_object.proofs.SpanLemmas.{IsApart-none}
use Rattle.elf_object.proofs.overlap.Order.new.Goals as goal

pub returns : goal.returns
returns c = λ _. IsApart-none place_start place_end
