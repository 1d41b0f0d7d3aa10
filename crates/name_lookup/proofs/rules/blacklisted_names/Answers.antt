use Rattle.std.proofs.Common.{◌≡◌, sym, ap, ◌∙◌, ◌||◌, ◌+◌, take, false}
use Rattle.std.specs.Option.{option_map_or}
use Rattle.std.specs.Str.{bytes_eq}
use Rattle.name_table.specs.FirstSeen.{is_among}
use Rattle.name_lookup.specs.Found.{blacklists, is_blacklisted}
use Rattle.name_lookup.proofs.FoundSteps.{blacklisted-more, no_more, one_more}
use Rattle.name_lookup.proofs.rules.blacklisted_names.Goals as goal
use Rattle.name_lookup.proofs.rules.blacklisted_names.Goals.{in-Some+in_ok-insert, in_default}

pub loop-rule-preserved : goal.loop-rule-preserved
loop-rule-preserved c =
    λ name.
    let rules = c.as_slice-rule-items.result.now in
    let i = c.loop-rule.rule-index in
    let rule = c.rule-item.result in
    let more = blacklisted-more rules i rule name c.loop-rule-test.true c.rule-item.is in
    let of_rules : is_blacklisted (take i c.args.rules.now) name
    ≡ is_blacklisted (take i rules) name
    = ap (λ rs. is_blacklisted (take i rs) name) (sym c.as_slice-rule-items.ensures) in
    let back : is_blacklisted (take (i + 1) rules) name
    ≡ is_blacklisted (take (i + 1) c.args.rules.now) name
    = ap (λ rs. is_blacklisted (take (i + 1) rs) name) c.as_slice-rule-items.ensures in
    elim c.match-blacklisted_name.branch [
      | in-Some+in_ok-insert w ↦
          let stated : blacklists name rule ≡ bytes_eq name w.in-Some.name.now
          = ap (λ o. option_map_or (bytes_eq name) o false) (sym w.in-Some.ensures) in
          ap (λ ns. is_among ns name) w.names-is
          ∙ w.in_ok-insert.ensures.among name
          ∙ (λ j. (c.loop-rule.invariant name ∙ of_rules) j || bytes_eq name w.in-Some.name.now)
          ∙ sym (one_more (is_blacklisted (take i rules) name) (bytes_eq name w.in-Some.name.now))
          ∙ (λ j. is_blacklisted (take i rules) name || (sym stated j || false))
          ∙ sym more ∙ back
      | in_default w ↦
          let stated : blacklists name rule ≡ false
          = ap (λ o. option_map_or (bytes_eq name) o false) (sym w.in_default.ensures) in
          ap (λ ns. is_among ns name) w.names-is
          ∙ c.loop-rule.invariant name
          ∙ of_rules
          ∙ sym (no_more (is_blacklisted (take i rules) name))
          ∙ (λ j. is_blacklisted (take i rules) name || (sym stated j || false))
          ∙ sym more ∙ back
    ]
