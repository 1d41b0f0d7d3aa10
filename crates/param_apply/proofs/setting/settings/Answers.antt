use Rattle.std.proofs.Common.{◌≡◌, ◌∙◌, List, ℕ, ap, map, subst, sym}
use Rattle.std.specs.List.{filter_map}
use Rattle.name_table.specs.NameTable.{IsTableOf}
use Rattle.param_apply.specs.Naming.{kept_name, parameters_of}
use Rattle.param_apply.specs.Words.{setting, settings as stated}
use Rattle.param_apply.proofs.NameLemmas.{where-ok-value}
use Rattle.param_apply.proofs.setting.settings.Goals as goal

pub returns : goal.returns
unfolding stated
returns c =
    let ps = parameters_of c.args.params.now in
    let same : c.deref.result.now ≡ c.deref-2.result.now
    = c.deref.ensures.value ∙ sym c.deref-2.ensures.value in
    where-ok-value c.settings_of.result c.settings_of.ensures
    (λ v made.
    made ps
    (subst (λ (ws : List (List ℕ)). IsTableOf c.in_ok-table.table (map (kept_name ws) ps)) same
    c.in_ok-table.ensures)
    ∙ ap (filter_map (setting ps)) (c.deref-2.ensures.value ∙ c.in_ok-words.ensures))
