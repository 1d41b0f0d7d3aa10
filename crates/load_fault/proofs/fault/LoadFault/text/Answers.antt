use Rattle.std.proofs.Common.{◌≡◌, ◌++◌, ℕ, List, [], sym, ap, subst, ◌∙◌, append_assoc}
use Rattle.std.proofs.lemmas.List.{append-nil}
use Rattle.std.specs.Prelude.{codes, IfOk}
use Rattle.load_fault.specs.FaultText.{load_fault_text}
use Rattle.load_fault.proofs.fault.LoadFault.text.Goals as goal

-- the pieces of the text for an export that is taken
taken : (name owner : List ℕ)
    → name ++ (codes " is taken by " ++ (owner ++ [])) ≡ name ++ codes " is taken by " ++ owner
taken name owner =
    ap (λ t. name ++ (codes " is taken by " ++ t)) (append-nil owner)
    ∙ sym (append_assoc name (codes " is taken by ") owner)

pub returns-in-ExportTaken : goal.returns-in-ExportTaken
returns-in-ExportTaken c =
    let text = c.concat-in-ExportTaken.result in
    let name = c.in-ExportTaken.name in
    let owner = c.in-ExportTaken.owner in
    subst (λ fault. IfOk text (λ t. t ≡ load_fault_text fault)) (sym c.in-ExportTaken.is)
    (subst (λ whole. IfOk text (λ t. t ≡ whole))
    (ap (λ n. n ++ (codes " is taken by " ++ (c.as_bytes-in-ExportTaken-2.result.now ++ [])))
    c.as_bytes-in-ExportTaken.ensures
    ∙ ap (λ o. name ++ (codes " is taken by " ++ (o ++ []))) c.as_bytes-in-ExportTaken-2.ensures
    ∙ taken name owner)
    c.concat-in-ExportTaken.ensures)
