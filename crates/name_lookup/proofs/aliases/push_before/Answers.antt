use Rattle.std.proofs.Common.{◌++◌, map, take, sym, ap, ◌∙◌}
use Rattle.std.proofs.lemmas.List.{take-map}
use Rattle.name_lookup.specs.Aliases.{Plain, shown_plain}
use Rattle.name_lookup.proofs.aliases.push_before.Goals as goal

pub returns-clause-names : goal.returns-clause-names
returns-clause-names c =
    let names = c.args.names.now in
    let aliases = c.args.aliases.now in
    c.in_ok-push_all.ensures
    ∙ ap (λ ps. names ++ map (λ (p : Plain). p.1) ps)
    (sym (take-map shown_plain c.count_before-count.result aliases))
    ∙ ap (λ n. names ++ map (λ (p : Plain). p.1) (take n (map shown_plain aliases)))
    c.count_before-count.ensures.count
