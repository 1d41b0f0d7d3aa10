use Rattle.elf_write.specs.Number.{xword}
use Rattle.elf_write.proofs.FileLemmas.{put-at}
use Rattle.elf_write.proofs.file.put_table_place.Goals as goal

pub returns : goal.returns
unfolding xword
returns c = put-at 40 8 c.args.file.now c.write_u64.new.buf (xword c.args.place) c.write_u64.ensures
