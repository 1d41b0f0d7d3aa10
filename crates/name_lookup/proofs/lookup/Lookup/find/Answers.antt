use Rattle.std.proofs.Common.{ap, sym, subst, ◌∙◌, ◌≡◌, IfOk}
use Rattle.km_names.specs.AliasForm.{normal_alias}
use Rattle.name_lookup.specs.Maps.{maps_of}
use Rattle.name_lookup.specs.Found.{first_list, kept}
use Rattle.name_lookup.specs.Seen.{seen_lists}
use Rattle.name_lookup.proofs.FoundSteps.{found-of_normal}
use Rattle.name_lookup.proofs.SeenLemmas.{kept-seen}
use Rattle.name_lookup.proofs.lookup.Lookup.find.Goals as goal

pub returns-in_ok-first-in-Some : goal.returns-in_ok-first-in-Some
returns-in_ok-first-in-Some c =
    let rules = c.args.self.now.rules in
    let maps = maps_of c.args.self.now.indexes in
    let b = c.args.use_blacklist in
    let whole
    = ap (kept rules b)
    (c.in_ok-first-in-Some.ensures
    ∙ ap (λ x. first_list 1 (seen_lists rules maps x)) c.as_bytes-in-Some.ensures)
    ∙ kept-seen rules maps b c.in-Some.name
    ∙ found-of_normal rules maps b c.args.name.now c.in-Some.name
    (ap normal_alias (sym c.as_bytes.ensures) ∙ sym c.in_ok-name.ensures ∙ c.in-Some.is)
    in
    subst (λ g. IfOk c.kept.result (λ f. f ≡ g)) whole c.kept.ensures
