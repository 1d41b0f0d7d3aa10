-- What the rules on a module give of parameters, all rules give.
use Rattle.std.proofs.Common.{◌≡◌, ℕ, false, cond, Bor, List, [], ◌∷◌, filter, refl, ap, ◌∙◌}
use Rattle.std.specs.List.{flat_map}
use Rattle.modprobe_conf.specs.declared.rule.Rule.{Rule}
use Rattle.modprobe_conf.specs.declared.rule.Rule.TheVariants.{Alias, Blacklist, Options, Install}
use Rattle.modprobe_conf.specs.declared.rule.Rule.TheVariants.{Remove, Softdep}
use Rattle.plan_sources.specs.Rules.{is_on, shown_rules}
use Rattle.planned_modules.proofs.RuleLaws.{flat-filter, flat-shown}
use Rattle.plan_builder.specs.Steps.{rule_options}

options-off : (name : List ℕ) (rule : Rule) → is_on name rule ≡ false → rule_options name rule ≡ []
options-off name (Options own text) off = ap (λ b. cond b (text ∷ []) []) off
options-off name (Alias pattern own) off = refl
options-off name (Blacklist own) off = refl
options-off name (Install own command) off = refl
options-off name (Remove own command) off = refl
options-off name (Softdep own pre post) off = refl

options-on : (name : List ℕ) (rules : List Rule)
    → flat_map (rule_options name) (filter (is_on name) rules) ≡ flat_map (rule_options name) rules
options-on name rules = flat-filter (is_on name) (rule_options name) (options-off name) rules

module _ (name : List ℕ) (rules : List Rule) (own : List (Bor Rule))
    (is : shown_rules own ≡ filter (is_on name) rules) where
  pub options-of-own : flat_map (λ (r : Bor Rule). rule_options name r.now) own
      ≡ flat_map (rule_options name) rules
  options-of-own
      = flat-shown (rule_options name) own ∙ ap (flat_map (rule_options name)) is
      ∙ options-on name rules
