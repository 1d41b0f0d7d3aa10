use Rattle.std.proofs.Common.{◌≡◌, rules, refl, sym, ap, subst, ◌∙◌}
use Rattle.std.specs.Cmp.Lexicographic.{bytes_decides}
use Rattle.km_names.specs.Path.{underscored}
use Rattle.builtin_index.specs.Aliases.{place_among}
use Rattle.builtin_index.specs.declared.seen.LookedUp.{LookedUp}
use Rattle.builtin_index.specs.Parts.{IsSeen}
use Rattle.builtin_index.proofs.Places.{last-known, put-place, put-seen}
use Rattle.builtin_index.proofs.seen.Seen.place.Goals as goal

pub returns-then-eq-clause-seen : goal.returns-then-eq-clause-seen
returns-then-eq-clause-seen c =
    let last = c.in-Some.last in
    let same : last.text.now ≡ c.args.text.now
    = (bytes_decides last.text.now c.args.text.now).0 (search rules) in
    λ names is. subst (IsSeen c.args.self.now)
    (sym (last-known c.args.self.now names last c.args.text.now c.in-Some.is same is).0) is

pub returns-then-eq-clause-place : goal.returns-then-eq-clause-place
returns-then-eq-clause-place c =
    let last = c.in-Some.last in
    let name = underscored c.args.text.now in
    let same : last.text.now ≡ c.args.text.now
    = (bytes_decides last.text.now c.args.text.now).0 (search rules) in
    λ names is.
    let known = last-known c.args.self.now names last c.args.text.now c.in-Some.is same is in
    known.1 ∙ ap (λ ns. place_among ns name) (sym known.0)

pub returns-clause-place : goal.returns-clause-place
returns-clause-place c =
    λ names is. put-place c.args.self.now names c.in_ok-key_of.field-0 (underscored c.args.text.now)
    _ is c.in_ok-key_of.ensures c.in_ok-index.ensures.index

pub returns-clause-seen : goal.returns-clause-seen
returns-clause-seen c =
    let last : LookedUp = record { text = c.args.text; place = c.in_ok-index.index } in
    λ names is.
    put-seen c.args.self.now _ names c.in_ok-key_of.field-0 last is c.in_ok-key_of.ensures
    c.in_ok-index.ensures.keys refl (returns-clause-place c names is)
