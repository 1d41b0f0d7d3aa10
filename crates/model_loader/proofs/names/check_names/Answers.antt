use Rattle.std.proofs.Common.{◌≡◌, ◌∙◌, ◌⊎◌, inl, inr, true, ap, sym, Some, None}
use Rattle.std.proofs.lemmas.Result.{IfErr-weaker, on_ok_weaker}
use Rattle.std.specs.List.{list_any}
use Rattle.std.specs.Str.{bytes_eq}
use Rattle.km_names.specs.First.{first}
use Rattle.load_fault.specs.declared.fault.LoadFault.{LoadFault}
use Rattle.load_fault.specs.declared.fault.LoadFault.TheVariants.{AlreadyLoaded, Memory}
use Rattle.export_table.specs.NeedTests.{binding_tests}
use Rattle.export_table.proofs.FirstLemmas.{fails, later, passes}
use Rattle.model_loader.specs.declared.entry.Entry.{Entry}
use Rattle.model_loader.specs.Machine.{Machine, is_loaded}
use Rattle.model_loader.specs.Standing.{Keeps}
use Rattle.model_loader.specs.Step.{name_tests}
use Rattle.model_loader.proofs.NameLemmas.{bindings-same, is_named-fault, named-is, not_named}
use Rattle.model_loader.proofs.names.check_names.Goals as goal

pub returns-then-is_loaded-clause-fault : goal.returns-then-is_loaded-clause-fault
returns-then-is_loaded-clause-fault c = λ machine are keeps.
    let f = c.args.facts.now in
    let named : is_loaded machine f.name ≡ true
    = named-is machine c.args.entries.now f.name are
    ∙ ap (λ n. list_any (λ (e : Entry). bytes_eq e.loaded.name n) c.args.entries.now)
    (sym c.as_bytes.ensures)
    ∙ sym c.is_loaded.ensures ∙ c.if-is_loaded.true in
    fails _ _ AlreadyLoaded (inr (is_named-fault machine f named))

pub returns-clause-passed : goal.returns-clause-passed
returns-clause-passed c =
    let f = c.args.facts.now in
    on_ok_weaker
    {P = first (binding_tests c.args.table.now f) ≡ None}
    {Q = (machine : Machine) → machine.entries ≡ c.args.entries.now
    → Keeps c.args.table.now machine → first (name_tests machine f) ≡ None}
    c.check_bindings.result (λ passed machine are keeps.
    let fresh
    = not_named machine f
    (named-is machine c.args.entries.now f.name are
    ∙ ap (λ n. list_any (λ (e : Entry). bytes_eq e.loaded.name n) c.args.entries.now)
    (sym c.as_bytes.ensures)
    ∙ sym c.is_loaded.ensures ∙ c.if-is_loaded.false) in
    passes _ _ fresh (ap first (bindings-same machine c.args.table.now f keeps) ∙ passed))
    c.check_bindings.ensures.passed

pub returns-clause-fault : goal.returns-clause-fault
returns-clause-fault c =
    let f = c.args.facts.now in
    IfErr-weaker c.check_bindings.result
    (λ (e : LoadFault). (e ≡ Memory) ⊎ (first (binding_tests c.args.table.now f) ≡ Some e))
    (λ (e : LoadFault). (machine : Machine) → machine.entries ≡ c.args.entries.now
    → Keeps c.args.table.now machine
    → (e ≡ Memory) ⊎ (first (name_tests machine f) ≡ Some e))
    (λ e is machine are keeps.
    let fresh
    = not_named machine f
    (named-is machine c.args.entries.now f.name are
    ∙ ap (λ n. list_any (λ (e : Entry). bytes_eq e.loaded.name n) c.args.entries.now)
    (sym c.as_bytes.ensures)
    ∙ sym c.is_loaded.ensures ∙ c.if-is_loaded.false) in
    later _ _ _ fresh (elim is [
      | inl memory ↦ inl memory
      | inr failed ↦ inr (ap first (bindings-same machine c.args.table.now f keeps) ∙ failed)
    ]))
    c.check_bindings.ensures.fault
