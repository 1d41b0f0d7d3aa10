use Rattle.std.proofs.Common.{◌∙◌, sym}
use Rattle.model_unload.proofs.UnloadLemmas.{unused-by-none}
use Rattle.test_machine.proofs.user_calls.drop_unused.Goals as goal

-- no user was found
pub drop_entry-requires-clause-unused : goal.drop_entry-requires-clause-unused
drop_entry-requires-clause-unused c =
    unused-by-none c.args.machine.now c.args.j (sym c.first_user.ensures ∙ c.in_default.is)
