use Rattle.std.proofs.Common.{◌≤◌, ◌<◌, ℕ, slice_index_or}
use Rattle.model_loader.specs.declared.gap.Run.{Run}
use Rattle.model_loader.proofs.gap.are_sorted.Given as goal

abbrev pub invariant-loop-run : goal.invariant-loop-run
invariant-loop-run l = record {
  order : (i j : ℕ) (d : Run) → i ≤ j → j < l.run-index
      → (slice_index_or l.runs i d).base ≤ (slice_index_or l.runs j d).base;
  last : (i : ℕ) (d : Run) → i < l.run-index → (slice_index_or l.runs i d).base ≤ l.last;
}
