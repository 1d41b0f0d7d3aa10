use Rattle.std.proofs.Common.{refl}
use Rattle.std.proofs.lemmas.List.{drop_all}
use Rattle.km_names.specs.Strings.{first_string as string_of}
use Rattle.km_names.proofs.string.string_at.Goals as goal

pub returns-then-table-at-clause-string : goal.returns-then-table-at-clause-string
unfolding string_of
returns-then-table-at-clause-string c =
    rw (drop_all c.args.at c.args.table.now c.if-table-at.true) refl
