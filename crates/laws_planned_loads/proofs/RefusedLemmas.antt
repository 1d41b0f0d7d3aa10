-- Modules that are loaded one after the other, and the first that is refused.
use Rattle.std.proofs.Common.{◌≡◌, ◌∙◌, List, [], ◌∷◌, refl, sym, ap}
use Rattle.std.specs.Prelude.{Result, Ok, Err}
use Rattle.module_facts.specs.declared.module.Module.{Module}
use Rattle.load_fault.specs.declared.fault.LoadFault.{LoadFault}
use Rattle.model_loader.specs.Machine.{Machine}
use Rattle.model_loader.specs.Step.{step}
use Rattle.laws_closed_plans.specs.Loads.{load_all, unless_refused}
use Rattle.laws_planned_loads.specs.Loads.{IsFirstRefused}

pub none-loaded : (machine : Machine) (fault : LoadFault)
    → ◌≡◌ {A = Result Machine LoadFault} (Ok machine) (Err fault) → ⊥
none-loaded machine fault is = cc

pub one-fault : (r : Result Machine LoadFault) (fault other : LoadFault) → r ≡ Err fault
    → r ≡ Err other → fault ≡ other
one-fault r fault other is also =
    let both : ◌≡◌ {A = Result Machine LoadFault} (Err fault) (Err other) = sym is ∙ also in cc

pub load-on : (machine next : Machine) (m : Module) (ms : List Module) → step machine m ≡ Ok next
    → load_all machine (m ∷ ms) ≡ load_all next ms
load-on machine next m ms took = ap (unless_refused (λ other. load_all other ms)) took

pub load-stops : (machine : Machine) (m : Module) (ms : List Module) (fault : LoadFault)
    → step machine m ≡ Err fault → load_all machine (m ∷ ms) ≡ Err fault
load-stops machine m ms fault refused = ap (unless_refused (λ other. load_all other ms)) refused

-- the first module is refused
abbrev pub refused-first : (machine : Machine) (m : Module) (ms : List Module) (fault : LoadFault)
    → step machine m ≡ Err fault → IsFirstRefused machine (m ∷ ms) fault
refused-first machine m ms fault refused =
    record {
      before = [];
      m = m;
      after = ms;
      modules = refl;
      middle = machine;
      loaded = refl;
      refused = refused;
    }

-- a later one is
abbrev pub refused-later : (machine next : Machine) (m : Module) (ms : List Module)
    (fault : LoadFault)
    → step machine m ≡ Ok next → IsFirstRefused next ms fault
    → IsFirstRefused machine (m ∷ ms) fault
refused-later machine next m ms fault took h = record {
  before = m ∷ h.before;
  m = h.m;
  after = h.after;
  modules = ap (λ xs. m ∷ xs) h.modules;
  middle = h.middle;
  loaded = load-on machine next m h.before took ∙ h.loaded;
  refused = h.refused;
}
