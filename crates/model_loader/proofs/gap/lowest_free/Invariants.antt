use Rattle.std.proofs.Common.{◌≡◌, ◌≤◌, ◌<◌, ◌%◌, ◌^◌, ℕ, take, nat_lt}
use Rattle.model_loader.specs.Runs.{meets_any}
use Rattle.model_loader.proofs.gap.lowest_free.Given as goal

abbrev pub invariant-loop-run : goal.invariant-loop-run
invariant-loop-run l = record {
  low : l.base ≤ l.at;
  page : l.at % 4096 ≡ 0;
  near : l.at < 2 ^ 65;
  met : (x : ℕ) → l.base ≤ x → meets_any (take l.run-index l.runs) l.size x ≡ nat_lt x l.at;
}
