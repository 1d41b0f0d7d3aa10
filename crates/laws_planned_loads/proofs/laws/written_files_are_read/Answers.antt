use Rattle.laws_planned_loads.proofs.ReadingLemmas.{folders-are-read, readings-end}
use Rattle.laws_planned_loads.proofs.PassLemmas.{courses-pass}
use Rattle.laws_planned_loads.proofs.laws.written_files_are_read.Goals as goal

pub returns-clause-folder : goal.returns-clause-folder
returns-clause-folder c = folders-are-read

pub returns-clause-reading : goal.returns-clause-reading
returns-clause-reading c = readings-end

pub returns-clause-courses : goal.returns-clause-courses
returns-clause-courses c = courses-pass
