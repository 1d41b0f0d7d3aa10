-- The stages of the modules that are listed as loaded.
use Rattle.std.proofs.Common.{◌≡◌, ℕ, ◌+◌, ◌-◌, ◌<◌, ◌≤◌, arith, List, [], ◌∷◌, ◌++◌, length, take}
use Rattle.std.proofs.Common.{get_or, sym, ap, subst, ◌∙◌}
use Rattle.std.specs.Prelude.{Option, Result, Ok, Err, reverse}
use Rattle.std.proofs.lemmas.List.{take_all, take_more, reverse-append}
use Rattle.outside_calls.specs.FilesSeen.{FilesSeen}
use Rattle.outside_calls.specs.OutSeen.{OutSeen}
use Rattle.module_facts.specs.declared.module.Module.{Module}
use Rattle.model_loader.specs.Machine.{Machine}
use Rattle.km_course.specs.Course.{Stage, ◌>>=◌, each_from}
use Rattle.km_course.specs.World.{world}
use Rattle.km_course.specs.Follows.{Follows}
use Rattle.km_course.specs.FollowsOn.{FollowsOnFiles}
use Rattle.km_course.specs.declared.stop.Stop.{Stop}
use Rattle.km_course.proofs.Steps.{LeadsTo, leads-start, leads-on, leads-stop, leads-end}
use Rattle.stages_loads.specs.declared.load.Cause.TheVariants.{Listed}
use Rattle.stages_loads.specs.Listed.{loads_listed, loads_listed_one}
use Rattle.stages_loads.specs.Loads.{loads}
use Rattle.stages_loads.specs.Modules.{reads_module}

-- the stage after the module of a listed name was read
abbrev pub listed_read : Machine → Module → Stage Machine
listed_read machine m = loads Listed machine m

-- the stage after a listed name was looked up
abbrev pub listed_found : List ℕ → Machine → List ℕ → Stage Machine
listed_found folder machine path = reads_module folder path >>= listed_read machine

-- of the first names the last is the oldest
pub oldest-first : (names : List (List ℕ)) (i : ℕ) (name : List ℕ) → i < length names
    → name ≡ get_or names i name → reverse (take (i + 1) names) ≡ name ∷ reverse (take i names)
oldest-first names i name within is =
    ap reverse (take_more names i name within ∙ ap (λ n. take i names ++ n ∷ []) (sym is))
    ∙ reverse-append (take i names) (name ∷ [])

-- What a loop over the names keeps: the modules of the first `left` of them are still to be loaded,
-- and whatever loads these from here loads all from the start.
pub record AreLeft (folder : List ℕ) (found : List ℕ → Option (List ℕ)) (names : List (List ℕ))
    (start : Machine) (began : FilesSeen) (machine : Machine) (now : FilesSeen) (left : ℕ)
    : Type 0 where
  pub leads : (out err : OutSeen)
      → LeadsTo (λ (x : Machine). x) (loads_listed folder found start names) (world began out err)
      (loads_listed folder found machine (take left names)) (world now out err)
  pub within : left ≤ length names

module _ {folder : List ℕ} {found : List ℕ → Option (List ℕ)} {names : List (List ℕ)}
    {start : Machine} {began : FilesSeen} where
  -- before the first turn all are left
  pub all-left : AreLeft folder found names start began start began (length names)
  all-left = record {
    leads = λ out err.
        subst (λ left. LeadsTo (λ (x : Machine). x) (loads_listed folder found start names)
        (world began out err) (loads_listed folder found start left) (world began out err))
        (sym (take_all (length names) names (omega arith)))
        (leads-start (λ (x : Machine). x) _ _);
    within = omega arith;
  }

  -- of those that are left the last is the oldest
  oldest-left : {machine : Machine} {now : FilesSeen} {left : ℕ} {name : List ℕ}
      → AreLeft folder found names start began machine now left → 0 < left
      → name ≡ get_or names (left - 1) name → (out err : OutSeen)
      → LeadsTo (λ (x : Machine). x) (loads_listed folder found start names) (world began out err)
      (each_from (loads_listed_one folder found) machine (name ∷ reverse (take (left - 1) names)))
      (world now out err)
  oldest-left {machine} {now} {left} {name} here some is out err =
      let more : left - 1 + 1 ≡ left = omega arith in
      subst (λ rest. LeadsTo (λ (x : Machine). x) (loads_listed folder found start names)
      (world began out err) (each_from (loads_listed_one folder found) machine rest)
      (world now out err))
      (ap (λ k. reverse (take k names)) (sym more)
      ∙ oldest-first names (left - 1) name (omega (arith, here.within)) is) (here.leads out err)

  -- it was loaded
  pub one-loaded : {machine after : Machine} {now new : FilesSeen} {left : ℕ} {name : List ℕ}
      → AreLeft folder found names start began machine now left → 0 < left
      → name ≡ get_or names (left - 1) name
      → FollowsOnFiles (loads_listed_one folder found machine name) (λ (files : FilesSeen). files)
      now new (Ok after)
      → AreLeft folder found names start began after new (left - 1)
  one-loaded {machine} {after} {now} {new} {left} {name} here some is follows = record {
    leads = λ out err.
        leads-on (λ (x : Machine). x) _ _ _ _ (loads_listed_one folder found) machine name
        (reverse (take (left - 1) names)) after (oldest-left here some is out err)
        (follows out err);
    within = omega (arith, here.within);
  }

  -- it wasn't, so the loop stopped
  pub one-stopped : {machine : Machine} {now new : FilesSeen} {left : ℕ} {name : List ℕ}
      {e d : Stop} {r : Result Machine Stop}
      → AreLeft folder found names start began machine now left → 0 < left
      → name ≡ get_or names (left - 1) name → r ≡ Err d → d ≡ e
      → FollowsOnFiles (loads_listed_one folder found machine name) (λ (files : FilesSeen). files)
      now new (Err e)
      → FollowsOnFiles (loads_listed folder found start names) (λ (files : FilesSeen). files)
      began new r
  one-stopped {machine} {now} {new} {left} {name} {e} {d} {r} here some is stops same follows =
      λ out err.
      subst (λ q. Follows (λ (x : Machine). x) (loads_listed folder found start names)
      (world began out err) (world new out err) q) (sym (stops ∙ ap Err same))
      (leads-stop (λ (x : Machine). x) _ _ _ _ (loads_listed_one folder found) machine name
      (reverse (take (left - 1) names)) e (oldest-left here some is out err) (follows out err))

  -- none is left
  pub none-left : {machine : Machine} {now : FilesSeen} {left : ℕ}
      → AreLeft folder found names start began machine now left → left ≤ 0
      → FollowsOnFiles (loads_listed folder found start names) (λ (files : FilesSeen). files)
      began now (Ok machine)
  none-left {machine} {now} {left} here done =
      let none : left ≡ 0 = omega arith in
      λ out err.
      leads-end (λ (x : Machine). x) _ _ _ (loads_listed_one folder found) machine
      (subst (λ k. LeadsTo (λ (x : Machine). x) (loads_listed folder found start names)
      (world began out err)
      (each_from (loads_listed_one folder found) machine (reverse (take k names)))
      (world now out err)) none (here.leads out err))
