use Rattle.laws_indexed_folder.proofs.FolderLemmas.{files-are-valid, folders-bind}
use Rattle.laws_indexed_folder.proofs.laws.folders_bind.Goals as goal

pub returns-clause-valid : goal.returns-clause-valid
returns-clause-valid c = files-are-valid

pub returns-clause-bind : goal.returns-clause-bind
returns-clause-bind c = folders-bind
