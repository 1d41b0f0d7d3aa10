use Rattle.std.proofs.Common.{fold, arith}
use Rattle.elf_write.specs.File.{start, with_part}
use Rattle.elf_write.proofs.FileLemmas.{file-is, long-enough}
use Rattle.elf_write.proofs.file.file_of.Goals as goal

pub finish-requires : goal.finish-requires
finish-requires c =
    long-enough c.push_all.new.self _ _ _ (c.in_ok-push_all.ensures start _ _ c.in_ok-file.ensures)

pub returns : goal.returns
returns c =
    file-is c.args.parts.now c.in_ok-bytes.bytes.items _ _ (omega arith)
    (c.in_ok-bytes.ensures (fold with_part start c.args.parts.now) _ _
    (c.in_ok-push_all.ensures start _ _ c.in_ok-file.ensures))
