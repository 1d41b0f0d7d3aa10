use Rattle.std.proofs.Common.{ℕ, List}
use Rattle.std.proofs.lemmas.Result.{err_from_is_err_and}
use Rattle.mod_tree.specs.Search.{search_of}
use Rattle.km_course.proofs.Steps.{next, exits, answered}
use Rattle.stages_files.specs.Configuration.{stated_outcome}
use Rattle.command_depmod.proofs.SearchSteps.{understood}
use Rattle.command_depmod.proofs.search.read_search.Goals as goal

pub returns-in_err-read : goal.returns-in_err-read
returns-in_err-read g c = λ out err.
    let p = err_from_is_err_and c.from_residual.result c.from_residual.ensures.1 in
    exits _ _ understood p.1 p.2 (c.in_err-read.ensures.follows out err)

pub returns : goal.returns
returns g c = λ out err.
    next understood (c.in_ok-read.ensures.follows out err)
    (answered (λ (x : List (List ℕ)). x) (stated_outcome (search_of c.in_ok-read.read)) _
    c.parse.result c.parse.ensures)
