use Rattle.std.proofs.Common.{◌≡◌, sym, ap, ◌∙◌, length, drop, take, ℕ}
use Rattle.std.proofs.lemmas.List.{take_rest, length-take-le}
use Rattle.km_names.specs.Space.{trimmed, rest_after_word, first_word}
use Rattle.km_names.proofs.space.split_word.Goals as goal

pub returns-clause-word : goal.returns-clause-word
unfolding first_word
returns-clause-word c = ap (λ n. take n c.args.text.now) c.word_length-end.ensures.place

pub returns-clause-rest : goal.returns-clause-rest
unfolding rest_after_word first_word
returns-clause-rest c =
    let text = c.args.text.now in
    let end : ℕ = c.word_length-end.result in
    let word : take end text ≡ first_word text
    = ap (λ n. take n text) c.word_length-end.ensures.place in
    let e : end ≡ length (first_word text)
    = sym (length-take-le end text c.word_length-end.ensures.within) ∙ ap length word in
    c.trimmed.ensures ∙ ap trimmed (take_rest text end ∙ ap (λ n. drop n text) e)
