use Rattle.dependency_lines.proofs.Stems.{after-found, after-none}
use Rattle.dependency_lines.proofs.path_name.file_name.Goals as goal

pub returns-in-Some : goal.returns-in-Some
returns-in-Some c = after-found _ _ _ c.in-Some.ensures

pub returns-in-None : goal.returns-in-None
returns-in-None c = after-none _ _ c.in-None.ensures
