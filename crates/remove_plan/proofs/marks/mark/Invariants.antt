use Rattle.std.proofs.Common.{◌≡◌, ℕ, length, take}
use Rattle.std.specs.Prelude.{◌||◌, nat_eq}
use Rattle.std.specs.List.{list_any}
use Rattle.remove_plan.specs.Marks.{is_marked}
use Rattle.remove_plan.proofs.marks.mark.Given as goal

abbrev pub invariant-loop-place : goal.invariant-loop-place
invariant-loop-place l = record {
  counted : length l.marks ≡ length l.initial.marks;
  at : (j : ℕ)
      → is_marked l.marks j
      ≡ (is_marked l.initial.marks j || list_any (nat_eq j) (take l.place-index l.places));
}
