use Rattle.std.proofs.Common.{Ok, sym, ap, ◌∙◌}
use Rattle.std.proofs.lemmas.Result.{err_from_is_err_and}
use Rattle.mod_tree.proofs.SearchSteps.{search-ok, search-err}
use Rattle.mod_tree.proofs.search.parse_search.Goals as goal

pub returns-in_err-lines-clause-err : goal.returns-in_err-lines-clause-err
returns-in_err-lines-clause-err c =
    let p
    = err_from_is_err_and c.from_residual.result c.from_residual.ensures.1 in rw (p.1, p.2)
    (search-err c.args.files.now _ c.in_err-lines.ensures.err)

pub returns-clause-ok : goal.returns-clause-ok
returns-clause-ok c =
    search-ok c.args.files.now _ c.in_ok-lines.ensures.ok
    ∙ ap Ok (sym c.in_ok-words_of_lines.ensures)
