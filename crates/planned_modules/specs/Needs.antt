-- What each module needs: the modules of its dependency line, and those that its soft dependencies
-- name, if they can be loaded. modules.dep(5), modprobe.d(5), "softdep".
use Rattle.std.specs.Prelude.{ℕ, not, List, [], ◌++◌, filter, length, if◌then◌else◌}
use Rattle.std.specs.List.{flat_map}
use Rattle.std.specs.Str.{bytes_eq}
use Rattle.modprobe_conf.specs.declared.rule.Rule.{Rule}
use Rattle.modprobe_conf.specs.declared.rule.Rule.TheVariants.{Softdep}
use Rattle.name_table.specs.FirstSeen.{is_among}
use Rattle.relation_order.specs.Sets.{below}
use Rattle.dependency_lines.specs.Modules.{name_at, line_places}
use Rattle.plan_sources.specs.Sources.{Sources, modules, soft_places}

-- The names that a rule has before a module. modprobe.d(5), "softdep".
abbrev pub names_before : List ℕ → Rule → List (List ℕ)
names_before name (Softdep owner pre post) = if bytes_eq owner name then pre else []
names_before name _ = []

-- The names that a rule has after a module. modprobe.d(5), "softdep".
abbrev pub names_after : List ℕ → Rule → List (List ℕ)
names_after name (Softdep owner pre post) = if bytes_eq owner name then post else []
names_after name _ = []

-- What comes before a module.
abbrev pub before : Sources → ℕ → List ℕ
before s x =
    line_places (modules s) x
    ++ soft_places s x (flat_map (names_before (name_at (modules s) x)) s.rules)

-- What is asked for after a module.
abbrev pub after : Sources → ℕ → List ℕ
after s x = soft_places s x (flat_map (names_after (name_at (modules s) x)) s.rules)

-- The modules that aren't loaded.
abbrev pub unloaded : Sources → List ℕ
unloaded s =
    filter (λ x. not (is_among s.loaded (name_at (modules s) x))) (below (length (modules s)))
