use Rattle.std.proofs.Common.{◌≡◌, sym, ap, ◌∙◌, ◌==◌, length, drop, arith}
use Rattle.glob_match.specs.Ends.{is_end, part}
use Rattle.glob_match.proofs.ReadLemmas.{same_bits}
use Rattle.glob_match.proofs.EndLemmas.{empty_end, part_none, written}
use Rattle.glob_match.proofs.backward.Backward.new.Goals as goal

pub returns-clause-begun : goal.returns-clause-begun
returns-clause-begun c file text size =
    let to = c.args.to in
    let ends = c.in_ok-ends.ends in
    let new = c.set_only.new.words in
    let count : length new ≡ ends.len
    = omega (arith, c.set_only.auto.words, c.deref_mut.ensures.len) in
    let close = c.in_ok-new.ensures.close in
    record {
      ends
          = written (is_end (part file to to) text) new (drop (length new) ends.items) ends.len
          count
          (same_bits new (λ n. n == c.args.size) (is_end (part file to to) text)
          (λ n. ap (λ m. n == m) (sym size)
          ∙ sym (ap (λ p. is_end p text n) (part_none file to) ∙ empty_end text n))
          c.set_only.ensures);
      ahead = record {
        low = omega (arith, close);
        high = omega (arith, close);
        items = λ k from more. absurd (omega (arith, from, more, close));
        closed = λ lt. absurd (omega (arith, lt, close));
      };
    }
