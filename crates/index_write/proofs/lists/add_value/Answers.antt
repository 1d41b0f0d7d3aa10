use Rattle.std.proofs.Common.{rules, Some, None}
use Rattle.std.proofs.lemmas.Result.{on_ok_weaker}
use Rattle.index_write.specs.Lists.{value_of}
use Rattle.index_write.proofs.KeyLemmas.{ordered, list-with_one, list-kept, on_err_weaker}
use Rattle.index_write.proofs.lists.add_value.Goals as goal

pub returns-in_err-entry-clause-ordered : goal.returns-in_err-entry-clause-ordered
returns-in_err-entry-clause-ordered c = ordered c.args.lists.now.entries c.entry.ensures.ordered

pub returns-in-Occupied-clause-ok : goal.returns-in-Occupied-clause-ok
returns-in-Occupied-clause-ok c =
    on_ok_weaker c.add_to.result
    (λ e. list-with_one c.args.lists.now.entries _ c.args.key (Some c.into_mut.result.now)
    c.add_to.new.list (search rules) (search rules) (value_of c.args.value) e)
    c.add_to.ensures.ok

pub returns-in-Occupied-clause-err : goal.returns-in-Occupied-clause-err
returns-in-Occupied-clause-err c =
    on_err_weaker c.add_to.result
    (λ e. list-kept c.args.lists.now.entries _ c.args.key c.into_mut.result.now c.add_to.new.list
    (search rules) (search rules) (ordered c.args.lists.now.entries c.entry.ensures.ordered)
    e)
    c.add_to.ensures.err

pub returns-in-Occupied-clause-ordered : goal.returns-in-Occupied-clause-ordered
returns-in-Occupied-clause-ordered c = ordered c.args.lists.now.entries c.entry.ensures.ordered

pub returns-in_err-or_try_insert_with-in-Vacant-clause-ordered :
    goal.returns-in_err-or_try_insert_with-in-Vacant-clause-ordered
returns-in_err-or_try_insert_with-in-Vacant-clause-ordered c =
    ordered c.args.lists.now.entries c.entry.ensures.ordered

pub returns-in_ok-or_try_insert_with-in-Vacant-clause-ok :
    goal.returns-in_ok-or_try_insert_with-in-Vacant-clause-ok
returns-in_ok-or_try_insert_with-in-Vacant-clause-ok c =
    list-with_one c.args.lists.now.entries _ c.args.key None
    c.in_ok-or_try_insert_with-in-Vacant.field-0.now (search rules) (search rules)
    (value_of c.args.value) (search rules)

pub returns-in_ok-or_try_insert_with-in-Vacant-clause-ordered :
    goal.returns-in_ok-or_try_insert_with-in-Vacant-clause-ordered
returns-in_ok-or_try_insert_with-in-Vacant-clause-ordered c =
    ordered c.args.lists.now.entries c.entry.ensures.ordered
