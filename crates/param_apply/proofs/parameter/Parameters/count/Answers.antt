use Rattle.std.proofs.Common.{sym}
use Rattle.param_apply.proofs.TableLemmas.{parameter-count}
use Rattle.param_apply.proofs.parameter.Parameters.count.Goals as goal

pub returns-clause-count : goal.returns-clause-count
returns-clause-count c = sym (parameter-count c.args.self.now)
