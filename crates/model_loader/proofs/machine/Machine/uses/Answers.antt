use Rattle.std.proofs.Common.{ℕ, List, Vec, Global, map, subst}
use Rattle.std.proofs.lemmas.Result.{IfOk-weaker}
use Rattle.name_table.specs.NameTable.{IsTableOf}
use Rattle.model_loader.specs.declared.entry.Entry.{Entry}
use Rattle.model_loader.specs.Machine.{Machine}
use Rattle.model_loader.specs.Use.{AreUses}
use Rattle.model_loader.specs.Uses.{AreBoundPlaces, stated_names}
use Rattle.model_loader.proofs.MetLemmas.{uses-are}
use Rattle.model_loader.proofs.machine.Machine.uses.Goals as goal

pub returns : goal.returns
returns c =
    let inside = c.self.inside in
    let machine : Machine
    = record { kernel = inside.kernel; region = inside.region; entries = inside.entries.items }
    in
    let places = c.in_ok-places.places in
    let table
    = subst (λ (es : List Entry). IsTableOf places (stated_names es)) c.deref.ensures.value
    c.in_ok-places.ensures in
    IfOk-weaker c.all_bound_places.result
    (λ (v : Vec (Vec ℕ Global) Global). AreBoundPlaces inside.table places c.deref-2.result.now
    (map (λ (u : Vec ℕ Global). u.items) v.items))
    (λ (v : Vec (Vec ℕ Global) Global). AreUses c.args.self.now
    (map (λ (u : Vec ℕ Global). u.items) v.items))
    (λ v bound.
    let all = map (λ (u : Vec ℕ Global). u.items) v.items in
    let are
    = subst (λ (es : List Entry). AreBoundPlaces inside.table places es all)
    c.deref-2.ensures.value bound in
    subst (λ (m : Machine). AreUses m all) c.self.view_is
    (uses-are machine inside.table c.self.invariant places table all are))
    c.all_bound_places.ensures
