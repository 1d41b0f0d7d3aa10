use Rattle.std.proofs.Common.{arith}
use Rattle.param_apply.proofs.TableLemmas.{parameter-count, short-none, short-some}
use Rattle.param_apply.proofs.parameter.Parameters.short_name.Goals as goal

pub name_place-place-requires-clause-entry : goal.name_place-place-requires-clause-entry
name_place-place-requires-clause-entry c =
    omega (arith, c.requires, parameter-count c.args.self.now)

pub returns-clause-name : goal.returns-clause-name
returns-clause-name c =
    short-some c.args.self.now c.args.k c.name_place-place.result c.short_string.result c.requires
    c.name_place-place.ensures
    (c.args.self.now.named c.args.k (omega (arith, c.requires, parameter-count c.args.self.now)))
    c.short_string.ensures.string

pub returns-clause-longer : goal.returns-clause-longer
returns-clause-longer c =
    short-none c.args.self.now c.args.k c.name_place-place.result c.args.longest
    c.short_string.result c.requires c.name_place-place.ensures
    (c.args.self.now.named c.args.k (omega (arith, c.requires, parameter-count c.args.self.now)))
    c.short_string.ensures.longer
