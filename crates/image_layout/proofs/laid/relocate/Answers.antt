use Rattle.std.proofs.Common.{◌≡◌, ◌∙◌, Some, true, false, ◌++◌, ◌∷◌, [], ap, sym, arith, map, take}
use Rattle.std.proofs.Common.{take_all, length, refl, subst}
use Rattle.std.specs.Prelude.{option_map, All, is_ok}
use Rattle.elf_format.specs.Relocation.{IsKnown}
use Rattle.x86_relocate.specs.Patched.{IsApart, IsWithin, fits, first_too_wide, overflow_of}
use Rattle.x86_relocate.specs.Patched.{patched}
use Rattle.image_layout.specs.Offsets.{image_size}
use Rattle.image_layout.specs.Laid.{patch_of, overflow}
use Rattle.image_layout.proofs.LaidLemmas.{earlier-apart, place-within, patch_kind, map-more}
use Rattle.image_layout.proofs.LaidLemmas.{wide-more, wide-here, patched-none, length-patched}
use Rattle.image_layout.proofs.LaidLemmas.{on_ok}
use Rattle.image_layout.proofs.laid.relocate.Goals as goal

pub loop-i-init : goal.loop-i-init
loop-i-init c = (patched-none c.args.image.now, refl)

pub write_word-requires-clause-known : goal.write_word-requires-clause-known
write_word-requires-clause-known c =
    let o = c.args.object.now in
    let p = c.place.result.now in
    subst IsKnown
    (sym (ap (λ patch. patch.kind) c.patch_of-patch.ensures
    ∙ patch_kind o c.args.base c.args.addresses.now p)) c.place.ensures.inside.known

pub write_word-requires-clause-within : goal.write_word-requires-clause-within
write_word-requires-clause-within c =
    let o = c.args.object.now in
    let long : length c.loop-i.image ≡ image_size o.sections =
    ap length c.loop-i.invariant.0
    ∙ length-patched c.args.image.now
    (map (patch_of o c.args.base c.args.addresses.now) (take c.loop-i.i o.places))
    ∙ c.requires.image in
    let within : IsWithin (image_size o.sections) c.patch_of-patch.result =
    subst (IsWithin (image_size o.sections)) (sym c.patch_of-patch.ensures)
    (place-within o c.args.base c.args.addresses.now c.place.result.now c.place.ensures.inside
    c.requires.fits) in
    subst (λ n. IsWithin n c.patch_of-patch.result) (sym long) within

pub returns-then-is_err-clause-overflow : goal.returns-then-is_err-clause-overflow
unfolding overflow
returns-then-is_err-clause-overflow c =
    let o = c.args.object.now in
    let f = patch_of o c.args.base c.args.addresses.now in
    let p = c.place.result.now in
    let wide : fits (f p) ≡ false
    = ap fits (sym c.patch_of-patch.ensures) ∙ sym c.write_word.ensures.outcome
    ∙ c.if-is_err.ensures.negation in
    let first = wide-here f o.places c.loop-i.i p c.place.ensures.place c.loop-i.invariant.1 wide in
    ap (λ patch. Some (overflow_of patch)) c.patch_of-patch.ensures
    ∙ sym (ap (option_map overflow_of) first)

pub loop-i-preserved : goal.loop-i-preserved
loop-i-preserved c =
    let o = c.args.object.now in
    let f = patch_of o c.args.base c.args.addresses.now in
    let p = c.place.result.now in
    let patch = c.patch_of-patch.result in
    let done = map f (take c.loop-i.i o.places) in
    let put_in : is_ok c.write_word.result ≡ true = c.if-is_err.ensures.negation in
    let fit : fits (f p) ≡ true
    = ap fits (sym c.patch_of-patch.ensures) ∙ sym c.write_word.ensures.outcome ∙ put_in in
    let free : All (λ one. IsApart one patch) done =
    subst (λ q. All (λ one. IsApart one q) done) (sym c.patch_of-patch.ensures)
    (earlier-apart o c.args.base c.args.addresses.now c.loop-i.i p
    c.place_count-i-end.ensures.loadable c.place.ensures.place c.requires.fits) in
    let more
    = on_ok c.write_word.result put_in c.write_word.ensures.more c.args.image.now done free
    c.loop-i.invariant.0 in (
      more ∙ ap (λ q. patched c.args.image.now (done ++ q ∷ [])) c.patch_of-patch.ensures
          ∙ ap (patched c.args.image.now)
          (sym (map-more f o.places c.loop-i.i p c.place.ensures.place)),
      wide-more f o.places c.loop-i.i p c.place.ensures.place c.loop-i.invariant.1 fit,
    )

pub returns-clause-overflow : goal.returns-clause-overflow
unfolding overflow
returns-clause-overflow c =
    let o = c.args.object.now in
    let all : take c.loop-i.i o.places ≡ o.places = take_all c.loop-i.i o.places (omega arith) in
    sym (ap (option_map overflow_of)
    (sym (ap (λ ys. first_too_wide (map (patch_of o c.args.base c.args.addresses.now) ys))
    all)
    ∙ c.loop-i.invariant.1))

pub returns-clause-image : goal.returns-clause-image
returns-clause-image c =
    let o = c.args.object.now in
    let all : take c.loop-i.i o.places ≡ o.places = take_all c.loop-i.i o.places (omega arith) in
    c.loop-i.invariant.0
    ∙ ap (λ ys. patched c.args.image.now (map (patch_of o c.args.base c.args.addresses.now) ys))
    all
