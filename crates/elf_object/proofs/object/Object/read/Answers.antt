use Rattle.std.proofs.Common.{refl, ap}
use Rattle.elf_sections.specs.Sections.{FileSections}
use Rattle.elf_object.proofs.ObjectLemmas.{length-symbols_of}
use Rattle.elf_object.proofs.object.Object.read.Goals as goal

pub invariant_of-result : goal.invariant_of-result
invariant_of-result c =
    let b = c.args.bytes in
    let file = ap (λ (v : FileSections). v.file) c.in_ok-sections.ensures in
    let list = ap (λ (v : FileSections). v.list) c.in_ok-sections.ensures in
    rw (
      c.in_ok-symbols.ensures.symbols,
      c.in_ok-symbols.ensures.places,
      c.as_bytes.ensures,
      file,
      list,
    ) (record {
      listed = refl;
      small = c.requires;
      few = length-symbols_of b c.requires;
      loadable = rw c.as_bytes.ensures at c.in_ok-symbols.ensures.loadable;
    })
