use Rattle.std.proofs.Common.{ap}
use Rattle.outside_calls.specs.Contents.{is_path}
use Rattle.outside_calls.specs.MemFilesSeen.{mem_files_seen}
use Rattle.outside_calls.specs.declared.mem_files.CallKind.TheVariants.{ListTree}
use Rattle.outside_calls.proofs.MemLists.{mem_list_answers}
use Rattle.outside_calls.proofs.mem_files.MemFilesFiles.list_tree.Goals as goal

pub returns-clause-answers : goal.returns-clause-answers
returns-clause-answers c = (
  ap mem_files_seen c.list.ensures.after,
  mem_list_answers c.args.self.now ListTree is_path c.args.dir.now _ c.list.ensures.exact,
)
