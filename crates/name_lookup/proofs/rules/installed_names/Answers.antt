use Rattle.std.proofs.Common.{◌≡◌, sym, ap, ◌∙◌, ◌||◌, ◌+◌, take, false}
use Rattle.std.specs.Option.{option_map_or}
use Rattle.std.specs.Str.{bytes_eq}
use Rattle.name_table.specs.FirstSeen.{is_among}
use Rattle.name_lookup.specs.Found.{installs, has_install}
use Rattle.name_lookup.proofs.FoundSteps.{installed-more, installs-name, no_more, one_more}
use Rattle.name_lookup.proofs.rules.installed_names.Goals as goal
use Rattle.name_lookup.proofs.rules.installed_names.Goals.{in-Some+in_ok-insert, in_default}

pub loop-rule-preserved : goal.loop-rule-preserved
loop-rule-preserved c =
    λ name.
    let rules = c.as_slice-rule-items.result.now in
    let i = c.loop-rule.rule-index in
    let rule = c.rule-item.result in
    let more = installed-more rules i rule name c.loop-rule-test.true c.rule-item.is in
    let of_rules : has_install (take i c.args.rules.now) name ≡ has_install (take i rules) name
    = ap (λ rs. has_install (take i rs) name) (sym c.as_slice-rule-items.ensures) in
    let back : has_install (take (i + 1) rules) name
    ≡ has_install (take (i + 1) c.args.rules.now) name
    = ap (λ rs. has_install (take (i + 1) rs) name) c.as_slice-rule-items.ensures in
    elim c.match-installed_name.branch [
      | in-Some+in_ok-insert w ↦
          let stated : installs name rule ≡ bytes_eq name w.in-Some.name.now
          = installs-name name rule
          ∙ ap (λ o. option_map_or (bytes_eq name) o false) (sym w.in-Some.ensures) in
          ap (λ ns. is_among ns name) w.names-is
          ∙ w.in_ok-insert.ensures.among name
          ∙ (λ j. (c.loop-rule.invariant name ∙ of_rules) j || bytes_eq name w.in-Some.name.now)
          ∙ sym (one_more (has_install (take i rules) name) (bytes_eq name w.in-Some.name.now))
          ∙ (λ j. has_install (take i rules) name || (sym stated j || false))
          ∙ sym more ∙ back
      | in_default w ↦
          let stated : installs name rule ≡ false
          = installs-name name rule
          ∙ ap (λ o. option_map_or (bytes_eq name) o false) (sym w.in_default.ensures) in
          ap (λ ns. is_among ns name) w.names-is
          ∙ c.loop-rule.invariant name
          ∙ of_rules
          ∙ sym (no_more (has_install (take i rules) name))
          ∙ (λ j. has_install (take i rules) name || (sym stated j || false))
          ∙ sym more ∙ back
    ]
