use Rattle.name_table.specs.declared.key.NameKey.{NameKey}
use Rattle.name_table.proofs.TableSteps.{key_of, or-none, entries-push}
use Rattle.name_table.proofs.borrowed.NameTable.push.Goals as goal
use Rattle.name_table.proofs.borrowed.NameTable.push.Goals.{in-Some+in_ok-keep_first, in_default}

pub returns-clause-ok : goal.returns-clause-ok
returns-clause-ok c = λ items is.
    elim c.match-name.branch [
      | in-Some+in_ok-keep_first w ↦
          rw (w.self-inside-is, w.in-Some.is, ← w.new.ensures)
          (entries-push (λ (k : NameKey). k.bytes.now) _ _ c.self.inside.count _ items _
          c.self.view_is is (λ other. w.in_ok-keep_first.ensures.ok (key_of other)))
      | in_default w ↦
          rw (w.self-inside-is, w.in_default.is)
          (entries-push (λ (k : NameKey). k.bytes.now) _ _ c.self.inside.count _ items _
          c.self.view_is is (λ other. or-none _))
    ]
