use Rattle.std.proofs.Common.{◌≡◌, drop}
use Rattle.std.specs.Prelude.{find}
use Rattle.std.specs.Str.{bytes_eq}
use Rattle.model_loader.proofs.machine.Machine.image.Given as goal

abbrev pub invariant-loop-entry : goal.invariant-loop-entry
invariant-loop-entry l =
    find (λ e. bytes_eq e.loaded.name l.name) l.self.entries
    ≡ find (λ e. bytes_eq e.loaded.name l.name) (drop l.entry-index l.self.entries)
