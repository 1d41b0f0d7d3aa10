use Rattle.std.proofs.Common.{◌≡◌, ◌∙◌, ◌++◌, ◌∷◌, [], List, ap, arith, length, refl}
use Rattle.std.proofs.Common.{sym, subst}
use Rattle.std.proofs.lemmas.Result.{err_from_is_err_and}
use Rattle.model_loader.specs.Machine.{Machine}
use Rattle.std.specs.Option.{option_or}
use Rattle.model_loader.specs.declared.entry.Entry.{Entry}
use Rattle.export_table.specs.Standing.{standing_in}
use Rattle.model_loader.specs.Step.{entry_at, module_base, with_entry}
use Rattle.model_loader.specs.Kept.{IsKept}
use Rattle.std.specs.List.{IsDistinct}
use Rattle.std.specs.Str.{bytes_eq}
use Rattle.model_loader.specs.Sound.{IsSound, entry_names, exported_names}
use Rattle.model_loader.proofs.StepLemmas.{step-fault, step-passed, refusal-split}
use Rattle.model_loader.proofs.KeptLemmas.{kept-next, named-length, paged-entries, parts-with-room}
use Rattle.model_loader.proofs.SoundLemmas.{exports-next, names-next, sound-next}
use Rattle.model_loader.proofs.machine.Machine.load.Goals as goal

pub ready-requires : goal.ready-requires
ready-requires c =
    paged-entries _ _ c.self.invariant.placed (c.deref.ensures.value ∙ c.reserve.ensures.items)

pub enter-requires-clause-names : goal.enter-requires-clause-names
enter-requires-clause-names c =
    let machine = c.args.self.now in
    let m = c.args.module.now in
    let parts
    = parts-with-room _ machine c.deref.result.now c.self.inside.table c.reserve-2.new.self
    c.self.view_is c.self.invariant (c.deref.ensures.value ∙ c.reserve.ensures.items)
    c.reserve-2.ensures.same in
    omega (
      arith,
      c.in_ok-reserve-2.ensures.room,
      ap length c.as_slice.ensures,
      named-length machine m (module_base machine m) c.in_ok-prepared.prepared.entry
          c.in_ok-prepared.prepared.named.items _ (c.in_ok-prepared.ensures.entry machine parts)
          c.in_ok-prepared.ensures.named,
    )

pub returns-in_err-prepared-clause-fault : goal.returns-in_err-prepared-clause-fault
returns-in_err-prepared-clause-fault c =
    let machine = c.args.self.now in
    let parts
    = parts-with-room _ machine c.deref.result.now c.self.inside.table c.reserve-2.new.self
    c.self.view_is c.self.invariant (c.deref.ensures.value ∙ c.reserve.ensures.items)
    c.reserve-2.ensures.same in
    let p
    = err_from_is_err_and c.from_residual-in_err-prepared.result
    c.from_residual-in_err-prepared.ensures.1 in
    rw (p.1, p.2)
    (step-fault machine c.args.module.now _ (c.in_err-prepared.ensures.fault machine parts))

pub invariant_of-self-2 : goal.invariant_of-self-2
invariant_of-self-2 c =
    let m = c.args.module.now in
    let inside = c.self.inside in
    let entry = c.in_ok-prepared.prepared.entry in
    let machine : Machine
    = record { kernel = inside.kernel; region = inside.region; entries = inside.entries.items }
    in
    let parts
    = parts-with-room machine machine c.deref.result.now inside.table c.reserve-2.new.self refl
    c.self.invariant (c.deref.ensures.value ∙ c.reserve.ensures.items) c.reserve-2.ensures.same in
    let entries : c.enter.new.entries.items ≡ inside.entries.items ++ entry ∷ []
    = c.enter.ensures.entries ∙ ap (λ es. es ++ entry ∷ []) c.reserve.ensures.items in
    let tests = refusal-split machine m (c.in_ok-prepared.ensures.passed machine parts) in
    let is = c.in_ok-prepared.ensures.entry machine parts in
    let kept
    = kept-next machine inside.table c.enter.new.table m entry
    c.in_ok-prepared.prepared.named.items c.self.invariant tests.1 is
    c.in_ok-prepared.ensures.named
    (λ x. c.enter.ensures.table x
    ∙ ap (λ o. option_or o (standing_in x c.in_ok-prepared.prepared.named.items))
    (c.reserve-2.ensures.same x))
    (subst (λ (e : Entry). IsDistinct bytes_eq (entry_names (with_entry machine e))) (sym is)
    (names-next machine m (module_base machine m) tests.0 c.self.invariant.names))
    (subst (λ (e : Entry). IsDistinct bytes_eq (exported_names (with_entry machine e))) (sym is)
    (exports-next machine m (module_base machine m) tests.0 c.self.invariant.exports)) in
    subst (λ (es : List Entry). IsKept
    (record { kernel = inside.kernel; region = inside.region; entries = es }) c.enter.new.table)
    (sym entries) kept

pub returns-clause-step : goal.returns-clause-step
returns-clause-step c =
    let machine = c.args.self.now in
    let m = c.args.module.now in
    let parts
    = parts-with-room _ machine c.deref.result.now c.self.inside.table c.reserve-2.new.self
    c.self.view_is c.self.invariant (c.deref.ensures.value ∙ c.reserve.ensures.items)
    c.reserve-2.ensures.same in
    let inside = c.self.inside in
    let entry = c.in_ok-prepared.prepared.entry in
    let entries : c.enter.new.entries.items ≡ inside.entries.items ++ entry ∷ []
    = c.enter.ensures.entries ∙ ap (λ es. es ++ entry ∷ []) c.reserve.ensures.items in
    step-passed machine m entry _ (c.in_ok-prepared.ensures.passed machine parts)
    (c.in_ok-prepared.ensures.entry machine parts)
    (ap (λ (es : List Entry). record
    { kernel = inside.kernel; region = inside.region; entries = es }) entries
    ∙ ap (λ (n : Machine). with_entry n entry) c.self.view_is)

pub returns-clause-at : goal.returns-clause-at
unfolding entry_at
returns-clause-at c =
    let machine = c.args.self.now in
    let parts
    = parts-with-room _ machine c.deref.result.now c.self.inside.table c.reserve-2.new.self
    c.self.view_is c.self.invariant (c.deref.ensures.value ∙ c.reserve.ensures.items)
    c.reserve-2.ensures.same in
    ap (λ (e : Entry). record { base = e.loaded.base; size = e.loaded.size })
    (c.in_ok-prepared.ensures.entry machine parts)

pub returns-clause-sound : goal.returns-clause-sound
returns-clause-sound c = λ modules sound.
    let m = c.args.module.now in
    let inside = c.self.inside in
    let entry = c.in_ok-prepared.prepared.entry in
    let machine = c.args.self.now in
    let parts
    = parts-with-room _ machine c.deref.result.now c.self.inside.table c.reserve-2.new.self
    c.self.view_is c.self.invariant (c.deref.ensures.value ∙ c.reserve.ensures.items)
    c.reserve-2.ensures.same in
    let entries : c.enter.new.entries.items ≡ inside.entries.items ++ entry ∷ []
    = c.enter.ensures.entries ∙ ap (λ es. es ++ entry ∷ []) c.reserve.ensures.items in
    let is
    = ap (λ (es : List Entry). record
    { kernel = inside.kernel; region = inside.region; entries = es }) entries
    ∙ ap (λ (n : Machine). with_entry n entry) c.self.view_is
    ∙ ap (with_entry machine) (c.in_ok-prepared.ensures.entry machine parts) in
    subst (λ (n : Machine). IsSound n (modules ++ m ∷ [])) (sym is)
    (sound-next machine modules m (c.in_ok-prepared.ensures.passed machine parts) sound)
