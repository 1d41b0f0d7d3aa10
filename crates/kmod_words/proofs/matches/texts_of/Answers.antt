use Rattle.std.proofs.Common.{ℕ, ◌∷◌, ◌++◌, [], List, Bor, map, take, sym, ap, ◌∙◌}
use Rattle.std.proofs.lemmas.List.{map_push, take_more}
use Rattle.kmod_words.proofs.matches.texts_of.Goals as goal

pub loop-word-preserved : goal.loop-word-preserved
loop-word-preserved c =
    let all : List (List ℕ) = c.args.words.now in
    let l = c.loop-word in
    ap (map (λ (text : Bor (List ℕ)). text.now)) c.in_ok-push.ensures.items
    ∙ map_push (λ (text : Bor (List ℕ)). text.now) l.texts.items c.as_str.result
    ∙ ap (λ (texts : List (List ℕ)). texts ++ c.as_str.result.now ∷ []) l.invariant
    ∙ ap (λ (text : List ℕ). take l.word-index all ++ text ∷ []) (c.as_str.ensures ∙ c.word-item.is)
    ∙ sym (take_more all l.word-index c.word-item.result c.loop-word-test.true)
