use Rattle.std.proofs.Common.{◌≡◌, true, None, Some, refl, ◌∙◌, sym}
use Rattle.std.specs.HashMap.{get}
use Rattle.name_table.proofs.TableSteps.{lookup-same, kept, put_twice}
use Rattle.name_table.proofs.first.keep_first.Goals as goal

pub returns-in_ok-insert-clause-ok : goal.returns-in_ok-insert-clause-ok
returns-in_ok-insert-clause-ok g c = λ other.
    let eq = g.K.PartialEq.eq in
    let table = c.args.table.now in
    let same = eq c.args.key other in
    let first = c.in-Some.first in
    let between = c.insert.new.self in
    let new = c.insert-in-Some.new.self in
    let found = λ (equal : same ≡ true).
    lookup-same g.met.K.Eq.laws table.entries c.args.key other equal
    ∙ sym c.in_ok-first.ensures.old ∙ c.in-Some.is in
    kept same (get eq new other) (get eq table other) (Some first) first c.args.value
    (put_twice same (get eq new other) (get eq between other) (get eq table other)
    (Some c.args.value) (Some first) (c.in_ok-insert.ensures.updates.0 other)
    (c.in_ok-first.ensures.updates.0 other)) refl found

pub returns-in_default-clause-ok : goal.returns-in_default-clause-ok
returns-in_default-clause-ok g c = λ other.
    let eq = g.K.PartialEq.eq in
    let table = c.args.table.now in
    let same = eq c.args.key other in
    let found = λ (equal : same ≡ true).
    lookup-same g.met.K.Eq.laws table.entries c.args.key other equal
    ∙ sym c.in_ok-first.ensures.old ∙ c.in_default.is in
    kept same (get eq c.insert.new.self other) (get eq table other) None c.args.value c.args.value
    (c.in_ok-first.ensures.updates.0 other) refl found
