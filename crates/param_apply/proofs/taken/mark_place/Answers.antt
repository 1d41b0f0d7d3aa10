use Rattle.std.proofs.Common.{◌≡◌, ◌+◌, ◌<◌, ◌∙◌, ℕ, Bool, rules, arith, length}
use Rattle.std.specs.Prelude.{◌||◌}
use Rattle.std.proofs.lemmas.Grind.{common_steps}
use Rattle.elf_object.specs.Places.{place_width}
use Rattle.image_layout.specs.Offsets.{offset}
use Rattle.image_layout.proofs.SymbolLemmas.{length_layout, offset_at}
use Rattle.param_apply.specs.Places.{is_among}
use Rattle.param_apply.proofs.taken.mark_place.Goals as goal

marked-place : (new b : Bool) (at size x place width : ℕ) → new ≡ (b || is_among at size x)
    → at ≡ place → size ≡ width → new ≡ (b || is_among place width x)
marked-place new b at size x place width is e f = rw (← e, ← f) is

pub returns-clause-marked : goal.returns-clause-marked
returns-clause-marked c = λ o is x less.
    let p = c.args.place.now in
    let within : p.target < length o.sections
    = omega (arith, length_layout o.sections c.args.layout.now is) in
    let place = c.offset.ensures ∙ offset_at o.sections c.args.layout.now p.target is within in
    marked-place _ _ _ _ x (offset o.sections p.target + p.offset) (place_width p)
    (c.mark.ensures.marked x less) (omega (arith, place))
    (first_of (cc, grind (arith, common_steps), search rules))
