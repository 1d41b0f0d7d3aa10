-- What becomes of the load of two modules where a premise doesn't hold, computed.
use Rattle.std.proofs.Common.{◌≡◌, ◌∙◌, ℕ, List, [], ◌∷◌, codes, refl, ap}
use Rattle.std.specs.Prelude.{option_map}
use Rattle.km_course.specs.Course.Outcome.{value}
use Rattle.modprobe_conf.specs.declared.rule.Rule.{Rule}
use Rattle.name_lookup.specs.declared.indexes.Indexes.{Indexes}
use Rattle.plan_builder.specs.Steps.{plan_steps}
use Rattle.plan_builder.specs.Text.{plan_text}
use Rattle.plan_builder.specs.declared.step.PlanStep.{PlanStep}
use Rattle.plan_builder.specs.declared.step.PlanStep.TheVariants.{Insert}
use Rattle.stages_known.specs.declared.known.Known.{Known}
use Rattle.command_modprobe.specs.Loaded.{inserts_outcome}
use Rattle.km_course.specs.Course.{value_unless}
use Rattle.km_course.specs.declared.refusal.Refusal.TheVariants.{Obstacle as Unplanned}
use Rattle.command_modprobe.specs.Planned.{plan_outcome, request_of}
use Rattle.laws_planned_loads.specs.Reading.{indexes_of}
use Rattle.laws_headline.specs.Met.{load_asked}
use Rattle.laws_headline.specs.Needed.{AloneIsRefused, CommandIsRefused, EarlierIsPlannedAlone}
use Rattle.laws_headline.specs.Needed.{ListedIsLeftOut, NoAddressIsRefused, OtherTableIsRefused}
use Rattle.laws_headline.proofs.Computing.{computing}
use Rattle.laws_headline.proofs.MetFiles.{dep_bytes, earlier-made, earlier_bytes, made-so}
use Rattle.laws_headline.proofs.MetPlan.{command, commanded-steps, commanded-unhindered}
use Rattle.laws_headline.proofs.MetPlan.{commanded_steps, earlier-steps, earlier-unhindered}
use Rattle.laws_headline.proofs.MetPlan.{indexes_by, left-steps, left-unhindered, loaded_other}
use Rattle.laws_headline.proofs.MetPlan.{request, sources_by}

-- ---- plans

-- what is known over some indexes, where these rules are stated and these modules are loaded
abbrev known_with : List Rule → List (List ℕ) → Indexes → Known
known_with stated loaded found =
    record { rules = stated; indexes = found; unmet = []; loaded = loaded }

abbrev alone : List PlanStep
alone = Insert (codes "m") (codes "m.ko") [] ∷ []

left-alone : plan_outcome (known_with [] loaded_other (indexes_by dep_bytes)) loaded_other
    (request_of load_asked)
    ≡ value alone
unfolding plan_outcome
left-alone =
    ap (λ o. value_unless Unplanned (option_map plan_text o)
    (plan_steps (sources_by [] loaded_other dep_bytes) request)) left-unhindered
    ∙ ap (λ steps. value steps) left-steps

pub listed-left_out : ListedIsLeftOut
listed-left_out =
    ap (λ made. plan_outcome (known_with [] loaded_other (indexes_of made)) loaded_other
    (request_of load_asked)) made-so
    ∙ left-alone

commanded : plan_outcome (known_with command [] (indexes_by dep_bytes)) [] (request_of load_asked)
    ≡ value commanded_steps
unfolding plan_outcome
commanded =
    ap (λ o. value_unless Unplanned (option_map plan_text o)
    (plan_steps (sources_by command [] dep_bytes) request)) commanded-unhindered
    ∙ ap (λ steps. value steps) commanded-steps

pub command-refused : CommandIsRefused
unfolding inserts_outcome
command-refused = (
  ap (λ made. plan_outcome (known_with command [] (indexes_of made)) [] (request_of load_asked))
      made-so
      ∙ commanded,
  refl,
)

planned-alone : plan_outcome (known_with [] [] (indexes_by earlier_bytes)) []
    (request_of load_asked)
    ≡ value alone
unfolding plan_outcome
planned-alone =
    ap (λ o. value_unless Unplanned (option_map plan_text o)
    (plan_steps (sources_by [] [] earlier_bytes) request)) earlier-unhindered
    ∙ ap (λ steps. value steps) earlier-steps

pub earlier-alone : EarlierIsPlannedAlone
earlier-alone =
    ap (λ made. plan_outcome (known_with [] [] (indexes_of made)) [] (request_of load_asked))
    earlier-made
    ∙ planned-alone

-- ---- loads that are refused

pub other-refused : OtherTableIsRefused
unfolding computing
other-refused passed in_region = refl

pub alone-refused : AloneIsRefused
unfolding computing
alone-refused passed in_region = refl

pub no-address : NoAddressIsRefused
no-address = refl
