-- The tests of the names of a module.
use Rattle.std.proofs.Common.{◌≡◌, ℕ, Bool, true, false, List, [], ◌∷◌, ◌++◌, map, find, Option}
use Rattle.std.proofs.Common.{Some, None, option_map, refl, sym, ap, append_assoc, append-nil}
use Rattle.std.proofs.lemmas.Option.{none-some}
use Rattle.km_names.specs.First.{first}
use Rattle.elf_sections.specs.Shape.{fault_if}
use Rattle.laws_closed_plans.specs.Members.{Member}
use Rattle.symbol_binding.specs.Symbols.{Export, Need, Face, Kernel}
use Rattle.symbol_binding.specs.Provider.{Provided, export_under}
use Rattle.symbol_binding.specs.Needs.{NeedTest, is_missing, is_hidden, is_other_version, is_barred}
use Rattle.load_fault.specs.declared.fault.LoadFault.{LoadFault}
use Rattle.load_fault.specs.declared.fault.LoadFault.TheVariants.{AlreadyLoaded, MissingSymbol}
use Rattle.load_fault.specs.declared.fault.LoadFault.TheVariants.{GplOnly, VersionDiffers}
use Rattle.load_fault.specs.declared.fault.LoadFault.TheVariants.{NotImported, ExportTaken}
use Rattle.laws_closed_plans.specs.Names.{need_fault, export_fault, name_fault, first_name_fault}
use Rattle.laws_closed_plans.specs.Names.{is_named, owner_name, seen_table}
use Rattle.model_loader.proofs.SoundLemmas.{Passes}
use Rattle.laws_closed_plans.proofs.ListLemmas.{first-none, first-pass, first-each, each-first}
use Rattle.laws_closed_plans.proofs.ListLemmas.{find-none, none-found}

-- each test of its names passes
pub record IsPassed (kernel : Kernel) (loaded : List Face) (m : Face) : Type 0 where
  pub fresh : is_named loaded m.name ≡ false
  pub needs : (n : Need) → Member n m.needs
      → Passes (export_under (seen_table kernel loaded n.name)) m n
  pub untaken : (e : Export) → Member e m.exports → seen_table kernel loaded e.name ≡ None

pub mapped-none : {X Y : Type 0} (f : X → Y) (o : Option X) → option_map f o ≡ None → o ≡ None
mapped-none f None none = refl
mapped-none f (Some x) none = absurd (none-some (f x) (sym none))

unfaulted : (b : Bool) (f : LoadFault) → fault_if b f ≡ None → b ≡ false
unfaulted true f none = absurd (none-some f (sym none))
unfaulted false f none = refl

need_fault-pass : (kernel : Kernel) (loaded : List Face) (m : Face) (test : NeedTest)
    (fault : List ℕ → LoadFault)
    → ((n : Need) → Member n m.needs
    → test (export_under (seen_table kernel loaded n.name)) m n ≡ false)
    → need_fault kernel loaded m test fault ≡ None
need_fault-pass kernel loaded m test fault fails =
    ap (option_map (λ (n : Need). fault n.name))
    (find-none (λ n. test (export_under (seen_table kernel loaded n.name)) m n) m.needs fails)

need_fault-passed : (kernel : Kernel) (loaded : List Face) (m : Face) (test : NeedTest)
    (fault : List ℕ → LoadFault) (n : Need)
    → need_fault kernel loaded m test fault ≡ None → Member n m.needs
    → test (export_under (seen_table kernel loaded n.name)) m n ≡ false
need_fault-passed kernel loaded m test fault n none in' =
    none-found (λ n. test (export_under (seen_table kernel loaded n.name)) m n) n m.needs
    (mapped-none (λ (n : Need). fault n.name)
    (find (λ n. test (export_under (seen_table kernel loaded n.name)) m n) m.needs) none)
    in'

-- a module that passes each test has no fault
pub fault-pass : (kernel : Kernel) (loaded : List Face) (m : Face) → IsPassed kernel loaded m
    → name_fault kernel loaded m ≡ None
unfolding name_fault
fault-pass kernel loaded m passed =
    first-pass _ _ (ap (λ b. fault_if b AlreadyLoaded) passed.fresh)
    (first-pass _ _
    (need_fault-pass kernel loaded m is_missing MissingSymbol
    (λ n in'. (passed.needs n in').missing))
    (first-pass _ _
    (need_fault-pass kernel loaded m is_hidden GplOnly
    (λ n in'. (passed.needs n in').hidden))
    (first-pass _ _
    (need_fault-pass kernel loaded m is_other_version VersionDiffers
    (λ n in'. (passed.needs n in').other_version))
    (first-pass _ _
    (need_fault-pass kernel loaded m is_barred NotImported
    (λ n in'. (passed.needs n in').barred))
    (first-pass _ []
    (first-each (export_fault kernel loaded) m.exports
    (λ e in'. ap (option_map
    (λ (p : Provided Face). ExportTaken e.name
    (owner_name p.owner))) (passed.untaken e in'))) refl)))))

-- a module that has no fault passes each test
pub fault-passed : (kernel : Kernel) (loaded : List Face) (m : Face)
    → name_fault kernel loaded m ≡ None → IsPassed kernel loaded m
unfolding name_fault
fault-passed kernel loaded m none =
    let h1 = first-none (fault_if (is_named loaded m.name) AlreadyLoaded) _ none in
    let h2 = first-none (need_fault kernel loaded m is_missing MissingSymbol) _ h1.1 in
    let h3 = first-none (need_fault kernel loaded m is_hidden GplOnly) _ h2.1 in
    let h4 = first-none (need_fault kernel loaded m is_other_version VersionDiffers) _ h3.1 in
    let h5 = first-none (need_fault kernel loaded m is_barred NotImported) _ h4.1 in
    let h6 = first-none (first (map (export_fault kernel loaded) m.exports)) [] h5.1 in
    record {
      fresh = unfaulted (is_named loaded m.name) AlreadyLoaded h1.0;
      needs = λ n in'. record {
        missing = need_fault-passed kernel loaded m is_missing MissingSymbol n h2.0 in';
        hidden = need_fault-passed kernel loaded m is_hidden GplOnly n h3.0 in';
        other_version
            = need_fault-passed kernel loaded m is_other_version VersionDiffers n h4.0 in';
        barred = need_fault-passed kernel loaded m is_barred NotImported n h5.0 in';
      };
      untaken
          = λ e in'. mapped-none (λ (p : Provided Face). ExportTaken e.name (owner_name p.owner))
          (seen_table kernel loaded e.name)
          (each-first (export_fault kernel loaded) e m.exports h6.0 in');
    }

-- each step of modules that were loaded in turn passed
pub all-passed : (kernel : Kernel) (loaded front : List Face) (m : Face) (back : List Face)
    → first_name_fault kernel loaded (front ++ m ∷ back) ≡ None
    → name_fault kernel (loaded ++ front) m ≡ None
all-passed kernel loaded [] m back none =
    rw (append-nil loaded) ((first-none (name_fault kernel loaded m) _ none).0)
all-passed kernel loaded (p ∷ front) m back none =
    let h
    = first-none (name_fault kernel loaded p)
    (first_name_fault kernel (loaded ++ p ∷ []) (front ++ m ∷ back) ∷ []) none in
    let later
    = first-none (first_name_fault kernel (loaded ++ p ∷ []) (front ++ m ∷ back)) [] h.1 in
    rw (sym (append_assoc loaded (p ∷ []) front))
    (all-passed kernel (loaded ++ p ∷ []) front m back later.0)
