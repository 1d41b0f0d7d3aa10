use Rattle.std.proofs.Common.{ℕ, List}
use Rattle.module_symbols.specs.declared.stated_names.StatedKey.{StatedKey}
use Rattle.name_table.proofs.TableSteps.{or-none, entries-push}
use Rattle.module_symbols.proofs.stated_names.StatedNames.push.Goals as goal
use Rattle.module_symbols.proofs.stated_names.StatedNames.push.Goals.{in-Some+in_ok-keep_first}
use Rattle.module_symbols.proofs.stated_names.StatedNames.push.Goals.{in_default}

-- a list of bytes as a key
abbrev key_of : List ℕ → StatedKey
key_of bytes = record { bytes = record { ref_ptr = (0, 0); now = bytes } }

pub returns-clause-ok : goal.returns-clause-ok
returns-clause-ok c = λ items is.
    elim c.match-name.branch [
      | in-Some+in_ok-keep_first w ↦
          rw (w.self-inside-is, w.in-Some.is, ← w.new.ensures)
          (entries-push (λ (k : StatedKey). k.bytes.now) _ _ c.self.inside.count _ items _
          c.self.view_is is (λ other. w.in_ok-keep_first.ensures.ok (key_of other)))
      | in_default w ↦
          rw (w.self-inside-is, w.in_default.is)
          (entries-push (λ (k : StatedKey). k.bytes.now) _ _ c.self.inside.count _ items _
          c.self.view_is is (λ other. or-none _))
    ]
