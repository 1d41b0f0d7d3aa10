use Rattle.laws_indexed_folder.proofs.StandingLemmas.{files-stand}
use Rattle.laws_indexed_folder.proofs.ObstacleLemmas.{lines-are-no-obstacle}
use Rattle.laws_indexed_folder.proofs.laws.written_files_stand.Goals as goal

pub returns-clause-files : goal.returns-clause-files
returns-clause-files c = files-stand

pub returns-clause-lines : goal.returns-clause-lines
returns-clause-lines c = lines-are-no-obstacle
