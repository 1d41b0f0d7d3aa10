use Rattle.std.proofs.Common.{◌≡◌, sym, subst, ◌+◌, length, drop, arith}
use Rattle.glob_match.specs.Words.{HasBits}
use Rattle.glob_match.specs.Ends.{is_end, part}
use Rattle.glob_match.proofs.EndLemmas.{part_first, written}
use Rattle.glob_match.proofs.backward.Backward.go_back.Goals as goal

pub returns-in-0-clause-back : goal.returns-in-0-clause-back
returns-in-0-clause-back c text t h = c.begin_at.ensures.begun c.args.file.now text (sym t.size_is)

pub returns-in-93-clause-back : goal.returns-in-93-clause-back
returns-in-93-clause-back c text t h =
    let r = c.requires.ready in
    c.close.ensures.back c.args.file.now text (omega (arith, r.low)) r.within c.in-93.is t h

pub returns-in-91-clause-back : goal.returns-in-91-clause-back
returns-in-91-clause-back c text t h =
    let old = c.args.self.now in
    let file = c.args.file.now in
    let new = c.take_set.new.ends in
    let count : length new ≡ old.ends.len
    = omega (arith, c.take_set.auto.ends, c.deref_mut.ensures.len) in
    record {
      ends
          = written (is_end (part file c.args.at old.to) text) new
          (drop (length new) old.ends.items) old.ends.len count
          (c.take_set.ensures text (sym t.size_is) h.ahead);
      ahead = c.go_back.ensures.ahead text t h.ahead;
    }

pub returns-in_default-clause-back : goal.returns-in_default-clause-back
returns-in_default-clause-back c text t h =
    let old = c.args.self.now in
    let file = c.args.file.now in
    let at = c.args.at in
    let r = c.requires.ready in
    let new = c.take_byte.new.ends in
    let after = part file (at + 1) old.to in
    let first = part_first file at old.to (omega (arith, r.low)) (omega (arith, r.low, r.within)) in
    let count : length new ≡ old.ends.len
    = omega (arith, c.take_byte.auto.ends, c.deref_mut-in_default.ensures.len) in
    record {
      ends
          = written (is_end (part file at old.to) text) new (drop (length new) old.ends.items)
          old.ends.len count
          (subst (λ p. HasBits new (is_end p text)) (sym first)
          (c.take_byte.ensures text after t
          (subst (λ ws. HasBits ws (is_end after text))
          (sym c.deref_mut-in_default.ensures.value) h.ends)));
      ahead = c.go_back-in_default.ensures.ahead text t h.ahead;
    }
