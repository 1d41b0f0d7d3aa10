-- How the code asks for what is needed on one side of a module.
-- It belongs to the code: no public meaning rests on it.
use Rattle.std.specs.Prelude.{ℕ, List, ◌++◌}
use Rattle.std.specs.List.{flat_map}
use Rattle.modprobe_conf.specs.declared.rule.Rule.{Rule}
use Rattle.dependency_lines.specs.Modules.{name_at, line_places}
use Rattle.plan_sources.specs.Sources.{Sources, modules, soft_places}
use Rattle.plan_sources.specs.Softdeps.{once}
use Rattle.planned_modules.specs.declared.needs.Side.{Side}
use Rattle.planned_modules.specs.declared.needs.Side.TheVariants.{Before, After}
use Rattle.planned_modules.specs.Needs.{names_before, names_after}

-- The names that a rule has on one side of a module.
abbrev pub names_on : Side → List ℕ → Rule → List (List ℕ)
names_on Before name rule = names_before name rule
names_on After name rule = names_after name rule

-- The names on one side.
abbrev pub names_of_side : Side → List (List ℕ) → List (List ℕ) → List (List ℕ)
names_of_side Before pre post = pre
names_of_side After pre post = post

-- What comes before a module, with each module of its soft dependencies once.
abbrev pub before_once : Sources → ℕ → List ℕ
before_once s x =
    line_places (modules s) x
    ++ once (soft_places s x (flat_map (names_before (name_at (modules s) x)) s.rules))

-- What is asked for after a module, each module once.
abbrev pub after_once : Sources → ℕ → List ℕ
after_once s x = once (soft_places s x (flat_map (names_after (name_at (modules s) x)) s.rules))
