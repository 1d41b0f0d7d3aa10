use Rattle.std.proofs.Common.{◌≡◌, ◌++◌, ◌∷◌, [], ◌∙◌, ℕ, List, false, ap, sym, length}
use Rattle.std.specs.Prelude.{codes}
use Rattle.std.specs.Str.{bytes_eq}
use Rattle.std.proofs.lemmas.Bool.{eqb-false}
use Rattle.param_apply.specs.Words.{stating}
use Rattle.param_apply.proofs.WordLemmas.{piece-word, stating-taken}
use Rattle.param_apply.proofs.words.stated_words.Goals as goal

pub loop-rest-preserved-in_ok-push : goal.loop-rest-preserved-in_ok-push
loop-rest-preserved-in_ok-push c =
    let piece = c.split_at_byte.result.0.now in
    let after = c.split_at_byte.result.1.now in
    let on : bytes_eq piece (codes "--") ≡ false
    = ap (λ (d : List ℕ). bytes_eq piece d) (sym c.as_slice.ensures) ∙ sym c.eq.ensures
    ∙ c.if-eq.false in
    ap (λ (l : List (List ℕ)). l ++ stating after) c.in_ok-push.ensures.items
    ∙ stating-taken c.args.options.now c.loop-rest.rest.now piece after c.loop-rest.words.items
    (piece ∷ []) c.loop-rest.invariant c.split_at_byte.ensures.before
    c.split_at_byte.ensures.after on
    (piece-word piece
    (eqb-false (length piece) 0
    (sym c.is_empty-in-loop-rest.ensures ∙ c.if-not-is_empty.true)))
