use Rattle.std.proofs.Common.{◌≡◌, ◌≢◌, sym, subst, ◌∙◌, ⊎_elim, ◌+◌, length, drop, slice_index}
use Rattle.std.proofs.Common.{arith}
use Rattle.std.proofs.lemmas.Bool.{cases_eq}
use Rattle.std.proofs.lemmas.List.{take_at}
use Rattle.glob_pattern.specs.Pattern.{closing}
use Rattle.glob_match.specs.Backward.{AreListed}
use Rattle.glob_match.proofs.ahead.Ahead.go_back.Goals as goal

pub returns-clause-ahead : goal.returns-clause-ahead
returns-clause-ahead c text t h =
    let old = c.args.self.now in
    let file = c.args.file.now in
    let at = c.args.at in
    let close = old.close in
    let new = c.add_item.new.listed in
    let two : at + 1 + 1 ≡ at + 2 = omega arith in
    let three : at + 1 + 2 ≡ at + 3 = omega arith in
    let count : length new ≡ old.third.len
    = omega (arith, c.add_item.auto.listed, c.deref_mut.ensures.len) in
    record {
      low = omega (arith, h.low);
      high = h.high;
      items = λ k from to.
          ⊎_elim
          (λ here. subst (λ n. slice_index file n ≢ closing) (sym here) c.requires.item)
          (λ past. h.items k (omega (arith, from, past)) to)
          (cases_eq k at);
      closed = λ lt.
          let s = h.closed lt in
          record {
            bracket = s.bracket;
            after = s.after;
            first
                = subst (λ v. AreListed file text at close v.items)
                (sym (c.swap-2.ensures.x_after ∙ c.swap.ensures.x_after))
                (rw (take_at new (drop (length new) old.third.items) old.third.len count)
                (c.add_item.ensures text t.same
                (subst (AreListed file text (at + 1) close) (sym c.deref.ensures.value) s.first)
                (λ le. subst (AreListed file text (at + 3) close) (sym c.deref_mut.ensures.value)
                (subst (λ n. AreListed file text n close old.third.items) three
                (s.third (omega (arith, le)))))));
            second
                = λ le. subst (λ v. AreListed file text (at + 1) close v.items)
                (sym c.swap-2.ensures.y_after) s.first;
            third
                = λ le. subst (λ v. AreListed file text (at + 2) close v.items)
                (sym c.swap.ensures.y_after)
                (subst (λ n. AreListed file text n close old.second.items) two
                (s.second (omega (arith, le))));
          };
    }
