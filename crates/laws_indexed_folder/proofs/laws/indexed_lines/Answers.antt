use Rattle.laws_indexed_folder.proofs.MapLemmas.{files-have-lines}
use Rattle.laws_indexed_folder.proofs.IndexLemmas.{maps-have-lines}
use Rattle.laws_indexed_folder.proofs.NamedLemmas.{lines-are-of-tree}
use Rattle.laws_indexed_folder.proofs.laws.indexed_lines.Goals as goal

pub returns-clause-files : goal.returns-clause-files
returns-clause-files c = files-have-lines

pub returns-clause-maps : goal.returns-clause-maps
returns-clause-maps c = maps-have-lines

pub returns-clause-named : goal.returns-clause-named
returns-clause-named c = lines-are-of-tree
