use Rattle.laws_indexed_folder.proofs.IndexedLemmas.{folders-read}
use Rattle.laws_indexed_folder.proofs.laws.folders_read_as_indexed.Goals as goal

pub returns : goal.returns
returns c = folders-read
