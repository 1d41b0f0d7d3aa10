use Rattle.std.proofs.Common.{◌≡◌, ◌∙◌, Ok, ap, arith, rules, sym, w64}
use Rattle.std.proofs.lemmas.Int.{to_z-of_z}
use Rattle.x86_relocate.proofs.Applied.{room_for}
use Rattle.x86_relocate.proofs.patch.put_word.Goals as goal
use Rattle.x86_relocate.specs.Patched.{word_of}
use Rattle.x86_relocate.specs.declared.word.Written.TheVariants.{Eight, Four}
use mir.Val.{SFits}

pub put_u32-requires : goal.put_u32-requires
put_u32-requires c =
    let patch = c.args.patch.now in
    let small : SFits w64 patch.a = search rules in
    let is : word_of patch ≡ Ok (Four c.in-Four.word) =
    sym (rw (to_z-of_z w64 patch.a small) at c.value.ensures) ∙ c.in_ok-value.was
    ∙ ap Ok c.in-Four.is in
    room_for _ patch (Four c.in-Four.word) c.requires.known c.requires.within is (omega arith)

pub put_u64-requires : goal.put_u64-requires
put_u64-requires c =
    let patch = c.args.patch.now in
    let small : SFits w64 patch.a = search rules in
    let is : word_of patch ≡ Ok (Eight c.in-Eight.word) =
    sym (rw (to_z-of_z w64 patch.a small) at c.value.ensures) ∙ c.in_ok-value.was
    ∙ ap Ok c.in-Eight.is in
    room_for _ patch (Eight c.in-Eight.word) c.requires.known c.requires.within is (omega arith)
