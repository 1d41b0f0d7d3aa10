-- The images of a machine's entries, as the search for a gap sees them.
-- It belongs to the code: no public meaning rests on it.
use Rattle.std.specs.Prelude.{◌≡◌, ℕ, ◌%◌, ◌≤◌, ◌<◌, true, false, Bool, List, length}
use Rattle.std.specs.List.{list_any}
use Rattle.model_loader.specs.declared.entry.Entry.{Entry}
use Rattle.model_loader.specs.declared.gap.Run.{Run}
use Rattle.model_loader.specs.Gap.{meets}

-- The addresses of the image of an entry.
abbrev pub run_of : Entry → Run
run_of e = record { base = e.loaded.base; size = length e.image }

-- The image has whole pages.
pub record IsPaged (r : Run) : Type 0 where
  pub begins : r.base % 4096 ≡ 0
  pub whole : r.size % 4096 ≡ 0

-- Whether this many bytes from a place on meet a run, or one of these runs.
abbrev pub meets_run : ℕ → ℕ → Run → Bool
meets_run n at r = meets at n r.base r.size

abbrev pub meets_any : List Run → ℕ → ℕ → Bool
meets_any runs n at = list_any (meets_run n at) runs

-- The lowest page from a base on such that this many bytes meet no run.
pub record IsLowest (base : ℕ) (runs : List Run) (n at : ℕ) : Type 0 where
  pub low : base ≤ at
  pub page : at % 4096 ≡ 0
  pub below : (x : ℕ) → base ≤ x → x < at → meets_any runs n x ≡ true
  pub free : meets_any runs n at ≡ false
