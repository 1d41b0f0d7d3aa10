use Rattle.std.proofs.Common.{◌≡◌, ◌<◌, ◌∙◌, sym, pos, length, slice_index_or, true}
use Rattle.x86_relocate.specs.Patched.{IsWithin, fits}
use Rattle.x86_relocate.specs.declared.patch.Patch.{Patch}
use Rattle.x86_relocate.proofs.Applied.{so_far_none, so_far_more, length_so_far}
use Rattle.x86_relocate.proofs.patch.apply.Goals as goal

-- What a read past the end would give.
abbrev past : Patch
past = record { section = 0; entry = 0; at = 0; kind = 0; s = 0; a = pos 0; p = 0 }

pub loop-patch-init : goal.loop-patch-init
loop-patch-init c = so_far_none _ _

pub write_word-requires-clause-within : goal.write_word-requires-clause-within
write_word-requires-clause-within c =
    let i = c.loop-patch.patch-index in
    let items = c.as_slice-patch-items.ensures in
    let inside : i < length c.args.patches.now = rw (← items) c.loop-patch-test.true in
    let within : IsWithin (length c.args.image.now)
    (slice_index_or c.as_slice-patch-items.result.now i past)
    = rw items (c.requires.within i past inside) in
    λ place h. rw (length_so_far c.loop-patch.invariant) (within place h)

pub loop-patch-preserved : goal.loop-patch-preserved
loop-patch-preserved c =
    let i = c.loop-patch.patch-index in
    let items = c.as_slice-patch-items.ensures in
    let inside : i < length c.args.patches.now = rw (← items) c.loop-patch-test.true in
    let fit : fits (slice_index_or c.args.patches.now i past) ≡ true
    = sym (rw items at c.write_word.ensures.outcome) ∙ c.if-is_err.ensures.negation in
    so_far_more c.args.image.now c.loop-patch.image c.write_word.new.image c.args.patches.now i past
    c.loop-patch.invariant inside (c.requires.known i past inside)
    (c.requires.within i past inside) c.requires.apart fit
    (rw items at c.write_word.ensures.image)

pub returns-then-is_err-clause-len : goal.returns-then-is_err-clause-len
returns-then-is_err-clause-len c = c.write_word.ensures.len ∙ length_so_far c.loop-patch.invariant

pub returns-clause-len : goal.returns-clause-len
returns-clause-len c = length_so_far c.loop-patch.invariant
