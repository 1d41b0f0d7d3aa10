use Rattle.std.proofs.Common.{◌≡◌, ◌++◌, refl, sym, ap, ◌∙◌}
use Rattle.name_lookup.specs.Found.{found}
use Rattle.name_lookup.specs.Maps.{maps_of}
use Rattle.stages_known.specs.Named.{found_in, found_names}
use Rattle.km_course.proofs.Following.{next-item}
use Rattle.stages_known.proofs.NamedSteps.{found-some, found-none, unknown-more, names-on}
use Rattle.stages_known.proofs.NamedSteps.{unknown-stops, all-known}
use Rattle.stages_known.proofs.named.names_by.Goals as goal

pub loop-name-init : goal.loop-name-init
loop-name-init c = λ known rules indexes.
    (refl, ap (λ t. t ++ found_names known c.args.use_blacklist c.args.names.now) c.new-all.ensures)

pub loop-name-preserved : goal.loop-name-preserved
loop-name-preserved c = λ known rules indexes.
    let everywhere = c.args.use_blacklist in
    let names = c.args.names.now in
    let i = c.loop-name.name-index in
    let name = c.name-item.result in
    let cut = next-item names i name c.loop-name-test.true c.name-item.is in
    let so-far = c.loop-name.invariant known rules indexes in
    let is : c.in_ok-found.found ≡ found_in known everywhere name =
    c.in_ok-found.ensures
    ∙ ap (λ r. found r (maps_of c.args.lookup.now.indexes) everywhere name) (sym rules)
    ∙ ap (λ x. found known.rules (maps_of x) everywhere name) (sym indexes) in (
      unknown-more known everywhere names i name cut
          (found-some known everywhere name c.in_ok-found.found is c.if-found-eq0.false) so-far.0,
      names-on known everywhere names i name c.loop-name.all c.push_names.new.all
          c.in_ok-found.found cut is c.in_ok-push_names.ensures so-far.1,
    )

pub returns-then-found-eq0 : goal.returns-then-found-eq0
returns-then-found-eq0 c = λ known rules indexes.
    let everywhere = c.args.use_blacklist in
    let names = c.args.names.now in
    let i = c.loop-name.name-index in
    let name = c.name-item.result in
    let cut = next-item names i name c.loop-name-test.true c.name-item.is in
    let is : c.in_ok-found.found ≡ found_in known everywhere name =
    c.in_ok-found.ensures
    ∙ ap (λ r. found r (maps_of c.args.lookup.now.indexes) everywhere name) (sym rules)
    ∙ ap (λ x. found known.rules (maps_of x) everywhere name) (sym indexes) in
    unknown-stops known everywhere names i name c.in_ok-unknown.unknown cut
    (found-none known everywhere name c.in_ok-found.found is c.if-found-eq0.true)
    (c.loop-name.invariant known rules indexes).0 c.in_ok-unknown.ensures

pub returns : goal.returns
returns c = λ known rules indexes.
    let so-far = c.loop-name.invariant known rules indexes in
    all-known known c.args.use_blacklist c.args.names.now c.loop-name.name-index c.loop-name.all
    c.loop-name-test.false so-far.0 so-far.1
