use Rattle.std.proofs.Common.{◌≡◌, ℕ, ◌<◌, false, length, get_or, take}
use Rattle.std.specs.List.{list_any}
use Rattle.param_apply.specs.Places.{is_relocated_by}
use Rattle.param_apply.proofs.taken.reserved.Given as goal

abbrev pub invariant-loop-i : goal.invariant-loop-i
invariant-loop-i l = record {
  length : length l.taken.items ≡ l.len;
  taken : (x : ℕ) → x < l.len
      → get_or l.taken.items x false
      ≡ list_any (is_relocated_by l.object x) (take l.i l.object.places);
}
