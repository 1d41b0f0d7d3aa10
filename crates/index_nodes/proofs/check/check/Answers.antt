use Rattle.std.proofs.Common.{◌≡◌, sym, subst, ◌∙◌, true, false, ◌==◌, nat_lt, length, None}
use Rattle.std.proofs.lemmas.Bool.{lt-ltb}
use Rattle.std.specs.Result.{IfErr, OnOk}
use Rattle.km_names.specs.Number.{be}
use Rattle.index_format.specs.declared.numbers.TheConstants.{VERSION, FIRST_PLACE}
use Rattle.index_nodes.specs.Faults.{IsFirstFault}
use Rattle.index_nodes.proofs.CheckLemmas.{header_fault, nodes_decide}
use Rattle.index_nodes.proofs.check.check.Goals as goal

pub returns-then-not-has_number-clause-fault : goal.returns-then-not-has_number-clause-fault
returns-then-not-has_number-clause-fault c =
    let b = c.args.bytes.now in
    header_fault b false (be b 4 4 == VERSION) (nat_lt (length b) FIRST_PLACE)
    (sym c.has_number.ensures ∙ c.if-not-has_number.true) (λ _. be b 4 4 == VERSION)
    (λ _. nat_lt (length b) FIRST_PLACE)

pub returns-then-not-has_number-2-clause-fault : goal.returns-then-not-has_number-2-clause-fault
returns-then-not-has_number-2-clause-fault c =
    let b = c.args.bytes.now in
    header_fault b true false (nat_lt (length b) FIRST_PLACE)
    (sym c.has_number.ensures ∙ c.if-not-has_number.false)
    (sym c.has_number-2.ensures ∙ c.if-not-has_number-2.true)
    (λ _. nat_lt (length b) FIRST_PLACE)

pub returns-then-bytes-clause-fault : goal.returns-then-bytes-clause-fault
returns-then-bytes-clause-fault c =
    let b = c.args.bytes.now in
    header_fault b true true true (sym c.has_number.ensures ∙ c.if-not-has_number.false)
    (sym c.has_number-2.ensures ∙ c.if-not-has_number-2.false)
    (lt-ltb (length b) FIRST_PLACE c.if-bytes.true)

pub returns-clause-fault : goal.returns-clause-fault
returns-clause-fault c =
    let b = c.args.bytes.now in
    let same
    = nodes_decide b (sym c.has_number.ensures ∙ c.if-not-has_number.false)
    (sym c.has_number-2.ensures ∙ c.if-not-has_number-2.false) c.if-bytes.false in
    subst (λ o. IfErr c.check_nodes.result (IsFirstFault o)) (sym same) c.check_nodes.ensures.fault

pub returns-clause-passes : goal.returns-clause-passes
returns-clause-passes c =
    let b = c.args.bytes.now in
    let same
    = nodes_decide b (sym c.has_number.ensures ∙ c.if-not-has_number.false)
    (sym c.has_number-2.ensures ∙ c.if-not-has_number-2.false) c.if-bytes.false in
    subst (λ o. OnOk c.check_nodes.result (o ≡ None)) (sym same) c.check_nodes.ensures.passes
