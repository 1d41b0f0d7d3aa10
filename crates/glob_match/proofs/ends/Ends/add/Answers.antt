use Rattle.std.proofs.Common.{sym, subst, ◌∙◌, ◌++◌, ◌∷◌, [], arith}
use Rattle.std.specs.List.{AllByRecursion}
use Rattle.glob_match.specs.Ends.{IsEnd}
use Rattle.glob_match.specs.declared.ends.End.{End}
use Rattle.glob_match.proofs.EndLemmas.{one_more}
use Rattle.glob_match.proofs.ends.Ends.add.Goals as goal

pub returns : goal.returns
returns c file text size is known =
    let e = c.args.self.now in
    let b = c.args.backward.now in
    let new = b.ends.items in
    let last : End = record { at = c.args.at; to = b.to; start = c.len-start.result } in
    let words
    = c.in_ok-extend_from_slice.ensures.items
    ∙ (λ i. e.words.items ++ c.deref.ensures.value i) in
    subst (λ ends. AllByRecursion (IsEnd file text c.extend_from_slice.new.self.items) ends)
    (sym c.in_ok-push.ensures.items)
    (subst (λ ws. AllByRecursion (IsEnd file text ws) (e.ends.items ++ last ∷ [])) (sym words)
    (one_more file text e.words.items new e.ends.items last known
    (omega (arith, c.len-start.ensures, e.words.ok.0)) (omega (arith, size, b.ends.ok.0))
    is.ends))
