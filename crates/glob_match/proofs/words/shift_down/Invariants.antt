use Rattle.std.proofs.Common.{◌≡◌, suc, ◌*◌, ◌/◌, ◌%◌, ◌^◌, slice_index, bit_or}
use Rattle.glob_match.proofs.ShiftLemmas.{Changed}
use Rattle.glob_match.proofs.words.shift_down.Given as goal

abbrev pub invariant-loop-at : goal.invariant-loop-at
invariant-loop-at l = record {
  next_is : l.next ≡ slice_index l.fn.words l.at;
  changed : Changed
      (λ k old new. new ≡ bit_or (old / 2) (slice_index l.fn.words (suc k) * 2 ^ 63 % 2 ^ 64))
      l.fn.words l.words l.at;
}
