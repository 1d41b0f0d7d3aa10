use Rattle.std.proofs.Common.{◌∙◌, ◌<◌, length, sym, ap, subst}
use Rattle.model_loader.specs.Machine.{Machine}
use Rattle.model_loader.specs.Use.{binds}
use Rattle.model_loader.proofs.MetLemmas.{binds-is}
use Rattle.model_loader.proofs.WithoutLemmas.{slice-at}
use Rattle.model_loader.proofs.machine.Machine.binds.Goals as goal

pub returns : goal.returns
returns c =
    let inside = c.self.inside in
    let machine : Machine
    = record { kernel = inside.kernel; region = inside.region; entries = inside.entries.items }
    in
    let k = c.args.k in
    let j = c.args.j in
    let below_k : k < length machine.entries
    = subst (λ (m : Machine). k < length m.entries) (sym c.self.view_is) c.requires.user in
    let below_j : j < length machine.entries
    = subst (λ (m : Machine). j < length m.entries) (sym c.self.view_is) c.requires.other in
    c.binds_to.ensures
    ∙ binds-is machine inside.table c.self.invariant k j c.index.result.now c.index-2.result.now
    (slice-at machine.entries k c.index.result.now below_k c.index.ensures)
    (slice-at machine.entries j c.index-2.result.now below_j c.index-2.ensures)
    ∙ ap (λ (m : Machine). binds m k j) c.self.view_is
