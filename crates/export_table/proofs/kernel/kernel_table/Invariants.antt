use Rattle.std.proofs.Common.{◌≡◌, ℕ, List, None, take, map}
use Rattle.std.specs.Prelude.{find, is_none, option_map}
use Rattle.export_table.specs.Exports.{export_named, kernel_placed, standing}
use Rattle.export_table.specs.Standing.{standing_of}
use Rattle.export_table.proofs.kernel.kernel_table.Given as goal

abbrev pub invariant-loop-export : goal.invariant-loop-export
invariant-loop-export l = record {
  kept : (x : List ℕ)
      → standing_of l.table x
      ≡ option_map (standing None)
      (export_named x (map kernel_placed (take l.export-index l.kernel.exports)));
  addressed : find (λ e. is_none e.address) (take l.export-index l.kernel.exports) ≡ None;
}
