use Rattle.std.proofs.Common.{◌<◌, ◌∙◌, List, length, ap, sym, subst, cond, None, remove}
use Rattle.std.specs.Prelude.{is_some}
use Rattle.model_loader.specs.declared.entry.Entry.{Entry}
use Rattle.export_table.specs.declared.placed.PlacedExport.{PlacedExport}
use Rattle.model_loader.specs.Machine.{Machine}
use Rattle.export_table.specs.Exports.{export_named}
use Rattle.model_loader.specs.Kept.{IsKept}
use Rattle.model_loader.specs.Sound.{IsSound}
use Rattle.export_table.specs.Standing.{standing_of}
use Rattle.model_loader.specs.Use.{without}
use Rattle.model_loader.proofs.UseLemmas.{sound-without}
use Rattle.model_loader.proofs.WithoutLemmas.{kept-without}
use Rattle.model_loader.proofs.machine.Machine.drop_entry.Goals as goal

pub invariant_of-self : goal.invariant_of-self
invariant_of-self c =
    let inside = c.self.inside in
    let j = c.args.j in
    let machine : Machine
    = record { kernel = inside.kernel; region = inside.region; entries = inside.entries.items }
    in
    let e = c.remove-dropped.result in
    let less : j < length machine.entries
    = subst (λ (n : Machine). j < length n.entries) (sym c.self.view_is) c.requires.inside in
    let kept
    = kept-without machine inside.table c.forget_all.new.self j e c.self.invariant less
    c.remove-dropped.ensures.value
    (λ x. c.forget_all.ensures x
    ∙ ap (λ (l : List PlacedExport). cond (is_some (export_named x l)) None
    (standing_of inside.table x)) c.as_slice.ensures) in
    subst (λ (es : List Entry). IsKept
    (record { kernel = inside.kernel; region = inside.region; entries = es })
    c.forget_all.new.self) (sym c.remove-dropped.ensures.items) kept

pub returns-clause-sound : goal.returns-clause-sound
returns-clause-sound c = λ modules sound.
    let inside = c.self.inside in
    let j = c.args.j in
    let machine = c.args.self.now in
    let is
    = ap (λ (es : List Entry). record
    { kernel = inside.kernel; region = inside.region; entries = es })
    c.remove-dropped.ensures.items
    ∙ ap (λ (n : Machine). without n j) c.self.view_is in
    subst (λ (n : Machine). IsSound n (remove modules j)) (sym is)
    (sound-without machine modules j c.requires.inside c.requires.unused sound)
