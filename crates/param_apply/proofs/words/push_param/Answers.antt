use Rattle.std.proofs.Common.{◌≡◌, ◌<◌, ◌∙◌, Some, None, true, false, ap, sym, length}
use Rattle.km_names.specs.Path.{underscored}
use Rattle.param_apply.proofs.NameLemmas.{kept-more, kept-tested, kept-unnamed, longer-unnamed}
use Rattle.param_apply.proofs.NameLemmas.{where-ok}
use Rattle.param_apply.proofs.words.push_param.Goals as goal

pub returns-in_default-clause-table : goal.returns-in_default-clause-table
returns-in_default-clause-table c =
    where-ok c.push.result c.push.ensures.ok
    (λ table words items p are here is.
    let longer : c.args.names.now.longest < length p.name
    = rw here at c.in_default.ensures.longer in
    kept-more c.push.new.self items words p None
    (kept-unnamed words p (longer-unnamed c.args.names.now words p.name are longer))
    (table items is))

pub returns-then-has-clause-table : goal.returns-then-has-clause-table
returns-then-has-clause-table c =
    where-ok c.push-then-has.result c.push-then-has.ensures.ok
    (λ table words items p are here is.
    let name : p.name ≡ c.in-Some.name.now = rw here at c.in-Some.ensures.name in
    kept-more c.push-then-has.new.self items words p (Some c.as_bytes-then-has.result.now)
    (kept-tested c.args.names.now words p c.as_bytes.result.now true are
    (c.as_bytes.ensures ∙ c.in_ok-name.ensures ∙ ap underscored (sym name)) c.if-has.ensures
    ∙ ap Some (c.as_bytes.ensures ∙ sym c.as_bytes-then-has.ensures))
    (table items is))

pub returns-clause-table : goal.returns-clause-table
returns-clause-table c =
    where-ok c.push-else-has.result c.push-else-has.ensures.ok
    (λ table words items p are here is.
    let name : p.name ≡ c.in-Some.name.now = rw here at c.in-Some.ensures.name in
    kept-more c.push-else-has.new.self items words p None
    (kept-tested c.args.names.now words p c.as_bytes.result.now false are
    (c.as_bytes.ensures ∙ c.in_ok-name.ensures ∙ ap underscored (sym name)) c.if-has.ensures)
    (table items is))
