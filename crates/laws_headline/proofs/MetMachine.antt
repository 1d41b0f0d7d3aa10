-- The loads of two modules, computed.
use Rattle.std.proofs.Common.{◌≡◌, ◌∙◌, ◌≤◌, [], ◌∷◌, length, map, codes, refl, ap, arith}
use Rattle.std.specs.Prelude.{None, Ok, Err}
use Rattle.std.specs.Option.{option_map_or}
use Rattle.km_names.specs.Limit.{file_limit}
use Rattle.km_names.specs.Number.{le}
use Rattle.module_facts.specs.declared.module.Module.{Module}
use Rattle.module_facts.specs.Facts.{facts_of}
use Rattle.module_facts.specs.Faults.{fact_fault}
use Rattle.model_loader.specs.declared.entry.Entry.{Entry}
use Rattle.module_region.specs.declared.region.Region.{Region}
use Rattle.model_loader.specs.Machine.{Machine, new_machine}
use Rattle.module_region.specs.Regions.{IsRegion}
use Rattle.model_loader.specs.Step.{entry_at, module_base, refusal, step, with_entry}
use Rattle.stages_loads.specs.Modules.{module_at}
use Rattle.stages_loads.specs.Tables.{kernel_with}
use Rattle.laws_closed_plans.specs.Loads.{load_all, unless_refused}
use Rattle.laws_headline.specs.Objects.{giver_facts, giver_file, taker_facts, taker_file}
use Rattle.laws_headline.proofs.Computing.{computing}
use Rattle.laws_headline.proofs.MetFiles.{bare_table}

-- ---- the modules

pub giver-passes : fact_fault (codes "p.ko") giver_file ≡ None
unfolding computing
giver-passes = refl

pub taker-passes : fact_fault (codes "m.ko") taker_file ≡ None
unfolding computing
taker-passes = refl

pub giver-states : giver_facts ≡ facts_of (codes "p.ko") giver_file
unfolding computing
giver-states = refl

pub taker-states : taker_facts ≡ facts_of (codes "m.ko") taker_file
unfolding computing
taker-states = refl

pub giver-small : length giver_file ≤ file_limit
giver-small = let n : length giver_file ≡ 416 = refl in omega (arith, n)

pub taker-small : length taker_file ≤ file_limit
taker-small = let n : length taker_file ≡ 472 = refl in omega (arith, n)

abbrev pub giver : Module
giver = module_at (codes "p.ko") giver_file giver-passes

abbrev pub taker : Module
taker = module_at (codes "m.ko") taker_file taker-passes

-- ---- the loads

module _ (pages : IsRegion 65536 65536) where
  abbrev pub region : Region
  region = record { base = 65536; size = 65536; pages = pages }

  abbrev pub start : Machine
  start = new_machine (kernel_with bare_table) region

  abbrev pub one_loaded : Machine
  one_loaded = with_entry start (entry_at start giver 65536)

  abbrev pub both_loaded : Machine
  both_loaded = with_entry one_loaded (entry_at one_loaded taker 69632)

  giver-unrefused : refusal start giver ≡ None
  unfolding computing
  giver-unrefused = refl

  giver-base : module_base start giver ≡ 65536
  unfolding computing
  giver-base = refl

  giver-loads : step start giver ≡ Ok one_loaded
  unfolding step
  giver-loads =
      ap (λ o. option_map_or Err o
      (Ok (with_entry start (entry_at start giver (module_base start giver)))))
      giver-unrefused
      ∙ ap (λ base. Ok (with_entry start (entry_at start giver base))) giver-base

  taker-unrefused : refusal one_loaded taker ≡ None
  unfolding computing
  taker-unrefused = refl

  taker-base : module_base one_loaded taker ≡ 69632
  unfolding computing
  taker-base = refl

  taker-loads : step one_loaded taker ≡ Ok both_loaded
  unfolding step
  taker-loads =
      ap (λ o. option_map_or Err o
      (Ok (with_entry one_loaded
      (entry_at one_loaded taker (module_base one_loaded taker))))) taker-unrefused
      ∙ ap (λ base. Ok (with_entry one_loaded (entry_at one_loaded taker base))) taker-base

  pub both-load : load_all start (giver ∷ taker ∷ []) ≡ Ok both_loaded
  both-load =
      ap (unless_refused (λ next. load_all next (taker ∷ []))) giver-loads
      ∙ ap (unless_refused (λ next. load_all next [])) taker-loads

  pub words-are : map (λ (e : Entry). le e.image 0 8) both_loaded.entries ≡ 0 ∷ 65536 ∷ []
  unfolding computing
  words-are = refl
