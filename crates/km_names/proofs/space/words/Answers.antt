use Rattle.std.proofs.Common.{ℕ, List, length, take, drop, ◌-◌, ◌++◌, sym, refl, eqb-true, ap, ◌∙◌}
use Rattle.std.specs.List.{slice_split}
use Rattle.km_names.specs.Space.{is_space, nonempty, words}
use Rattle.km_names.proofs.Trims.{words-more, words-end, next-is, after-none, after-some}
use Rattle.std.proofs.lemmas.Bool.{eqb-false}
use Rattle.km_names.proofs.space.words.Goals as goal

pub loop-words-init : goal.loop-words-init
unfolding words
loop-words-init c =
    ap (λ ws. ws ++ nonempty (slice_split is_space c.args.text.now)) c.new-words.ensures

pub returns-then-is_empty : goal.returns-then-is_empty
returns-then-is_empty c =
    let l = c.loop-words in
    let all
    = after-none l.rest.now c.word_length-end.result
    (eqb-true _ _ (sym c.is_empty.ensures ∙ c.if-is_empty.true))
    c.word_length-end.ensures.within in
    c.in_ok-push_nonempty.ensures.ok
    ∙ words-end l.words l.rest.now c.word_length-end.result c.word_length-end.ensures.place all
    ∙ l.invariant

pub loop-words-preserved : goal.loop-words-preserved
loop-words-preserved c =
    let l = c.loop-words in
    let n : ℕ = c.word_length-end.result in
    let after : List ℕ = take (length l.rest.now - n) (drop n l.rest.now) in
    let next : List ℕ = take (length after - 1) (drop 1 after) in
    let some
    = after-some l.rest.now n (eqb-false _ _ (sym c.is_empty.ensures ∙ c.if-is_empty.false)) in
    ap (λ ws. ws ++ nonempty (slice_split is_space next)) c.in_ok-push_nonempty.ensures.ok
    ∙ words-more l.words l.rest.now n c.word_length-end.ensures.place some next
    (next-is l.rest.now after n refl)
    ∙ l.invariant
