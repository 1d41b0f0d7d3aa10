use Rattle.std.proofs.Common.{ap, option_map, ◌∙◌}
use Rattle.module_symbols.specs.declared.versions.Version.{Version}
use Rattle.module_symbols.proofs.VersionLemmas.{stated-found, stated-none}
use Rattle.module_symbols.proofs.version_list.version_by.Goals as goal

pub returns-in_err-place : goal.returns-in_err-place
returns-in_err-place c =
    c.from_residual.ensures
    ∙ stated-none c.args.entries.now c.args.name.now
    (c.in_err-place.ensures ∙ c.requires.places c.args.name.now)

pub returns-in-Some : goal.returns-in-Some
returns-in-Some c =
    ap (option_map (λ (v : Version). v.number)) c.in-Some.ensures.item
    ∙ stated-found c.args.entries.now c.args.name.now c.in_ok-place.place
    (c.in_ok-place.ensures ∙ c.requires.places c.args.name.now)
