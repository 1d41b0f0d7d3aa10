use Rattle.std.proofs.Common.{ap, ◌∙◌, arith, Some}
use Rattle.km_names.proofs.AliasRun.{stops, ends}
use Rattle.km_names.proofs.alias.normal_alias.Goals as goal

pub returns-then-not-bracket : goal.returns-then-not-bracket
returns-then-not-bracket c =
    let l = c.loop-byte in
    stops l.normal.items c.args.text.now l.byte-index l.bracket (omega arith) c.if-byte-eq93.true
    c.if-not-bracket.true l.invariant

pub returns-then-bracket-2 : goal.returns-then-bracket-2
returns-then-bracket-2 c =
    let l = c.loop-byte in
    rw c.if-bracket-2.true at
    (ends l.normal.items c.args.text.now l.byte-index l.bracket (omega arith) l.invariant)

pub returns : goal.returns
returns c =
    let l = c.loop-byte in
    ap Some c.from_vec.ensures
    ∙ (rw c.if-bracket-2.false at
    (ends l.normal.items c.args.text.now l.byte-index l.bracket (omega arith)
    l.invariant))
