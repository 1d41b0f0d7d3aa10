use Rattle.std.proofs.Common.{ℕ, ◌≡◌, ◌≢◌, suc, sym, ap, subst, ◌∙◌, ◌+◌, ◌*◌, ◌<◌, ◌&&◌}
use Rattle.std.proofs.Common.{slice_index, arith}
use Rattle.glob_pattern.specs.Pattern.{bang}
use Rattle.glob_pattern.specs.Parts.{is_listed}
use Rattle.glob_match.specs.Words.{HasBits, bit}
use Rattle.glob_match.specs.Ends.{is_end, part}
use Rattle.glob_match.specs.Backward.{AreListed}
use Rattle.glob_match.proofs.EndLemmas.{set_before, never_closed, has_others, has_items}
use Rattle.glob_match.proofs.ahead.Ahead.take_set.Goals.{else-self-at-via-then-self-at+else-file-at-eq33}
use Rattle.glob_match.proofs.ahead.Ahead.take_set.Goals.{else-self-at-via-else-self-at}
use Rattle.glob_match.proofs.ahead.Ahead.take_set.Goals as goal

pub returns-then-self-to : goal.returns-then-self-to
returns-then-self-to c text size h k i lt low =
    let file = c.args.file.now in
    let at = c.args.at in
    let same : c.args.self.now.close ≡ c.args.to = omega (arith, h.high, c.if-self-to.true) in
    c.clear.ensures k i lt low
    ∙ ap bit (sym
    (never_closed file at c.args.self.now.close c.args.to h.low c.requires.bracket h.items same
    (omega (arith, c.requires.inside, c.requires.within)) text (64 * k + i)))

pub returns-then-file-at-eq33 : goal.returns-then-file-at-eq33
returns-then-file-at-eq33 c text size h k i lt low =
    let file = c.args.file.now in
    let at = c.args.at in
    let to = c.args.to in
    let a = c.args.self.now in
    let n = 64 * k + i in
    let s = h.closed c.if-self-to.false in
    let inside = c.if-self-at.true in
    let two : at + 1 + 1 ≡ at + 2 = omega arith in
    let after = λ (t : ℕ). is_end (part file (a.close + 1) to) text (suc t) in
    let items = λ (t : ℕ). is_listed (part file (at + 2) a.close) (slice_index text t) in
    c.keep_others.ensures after items
    (subst (λ ws. HasBits ws after) (sym (c.copy_from_slice.ensures.after ∙ c.deref.ensures.value))
    s.after)
    (subst (λ ws. HasBits ws items) (sym c.deref-then-file-at-eq33.ensures.value)
    (subst (λ m. AreListed file text m a.close a.second.items) two
    (s.second (omega (arith, inside)))))
    k i lt low
    ∙ ap (λ b. bit (after n && b))
    (sym (has_others file at a.close to h.low c.requires.bracket h.items inside
    (omega (arith, c.if-self-to.false, c.requires.within)) c.if-file-at-eq33.true
    (slice_index text n)))
    ∙ ap bit (sym
    (set_before file at a.close to h.low c.requires.bracket h.items c.if-self-to.false
    c.requires.within s.bracket text n))

pub returns-else-self-at : goal.returns-else-self-at
returns-else-self-at c text size h k i lt low =
    let file = c.args.file.now in
    let at = c.args.at in
    let to = c.args.to in
    let a = c.args.self.now in
    let n = 64 * k + i in
    let s = h.closed c.if-self-to.false in
    let after = λ (t : ℕ). is_end (part file (a.close + 1) to) text (suc t) in
    let items = λ (t : ℕ). is_listed (part file (at + 1) a.close) (slice_index text t) in
    let other : at + 1 < a.close → slice_index file (at + 1) ≢ bang = elim c.else-self-at.branch [
      | else-self-at-via-then-self-at+else-file-at-eq33 w ↦ λ _. w.if-file-at-eq33.false
      | else-self-at-via-else-self-at w ↦ λ more. absurd (omega (arith, more, w.if-self-at.false))
    ] in
    c.keep.ensures after items
    (subst (λ ws. HasBits ws after) (sym (c.copy_from_slice.ensures.after ∙ c.deref.ensures.value))
    s.after)
    (subst (λ ws. HasBits ws items) (sym c.deref-else-self-at.ensures.value) s.first)
    k i lt low
    ∙ ap (λ b. bit (after n && b))
    (sym (has_items file at a.close to h.low c.requires.bracket h.items
    (omega (arith, c.if-self-to.false, c.requires.within)) other (slice_index text n)))
    ∙ ap bit (sym
    (set_before file at a.close to h.low c.requires.bracket h.items c.if-self-to.false
    c.requires.within s.bracket text n))
