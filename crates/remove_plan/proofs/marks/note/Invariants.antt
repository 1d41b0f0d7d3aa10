use Rattle.std.proofs.Common.{◌≡◌, ℕ, None, Some, cond, length, take}
use Rattle.std.specs.Prelude.{nat_eq, slice_index_or}
use Rattle.std.specs.List.{list_any}
use Rattle.std.specs.Option.{option_or}
use Rattle.remove_plan.proofs.marks.note.Given as goal

abbrev pub invariant-loop-place : goal.invariant-loop-place
invariant-loop-place l = record {
  counted : length l.users ≡ length l.initial.users;
  at : (j : ℕ)
      → slice_index_or l.users j None
      ≡ option_or (slice_index_or l.initial.users j None)
      (cond (list_any (nat_eq j) (take l.place-index l.places)) (Some l.user) None);
}
