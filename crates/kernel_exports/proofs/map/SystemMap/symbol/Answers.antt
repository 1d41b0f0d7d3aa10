use Rattle.kernel_exports.proofs.SymbolSteps.{symbol-global, symbol-any}
use Rattle.kernel_exports.proofs.map.SystemMap.symbol.Goals as goal

pub returns-in-Some : goal.returns-in-Some
returns-in-Some c =
    rw (← c.self.view_is) (symbol-global c.self.inside.lines.items c.self.inside.globals
    c.self.inside.all c.args.name.now c.self.invariant
    c.place.result c.in-Some.line.now c.place.ensures
    (rw c.deref.ensures.value at c.in-Some.ensures))

pub returns-in-None : goal.returns-in-None
returns-in-None c =
    rw (← c.self.view_is) (symbol-any c.self.inside.lines.items c.self.inside.globals
    c.self.inside.all c.args.name.now c.self.invariant
    c.place.result c.place-in-None.result _ c.place.ensures
    (rw c.deref.ensures.value at c.in-None.ensures)
    c.place-in-None.ensures (rw c.deref-in-None.ensures.value at c.line_at-in-None.ensures))
