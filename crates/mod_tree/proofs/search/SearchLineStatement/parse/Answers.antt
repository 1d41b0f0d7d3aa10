use Rattle.std.proofs.Common.{◌≡◌, true, false, List, ℕ, sym, refl, ap, ◌∙◌}
use Rattle.std.specs.Prelude.{codes}
use Rattle.std.specs.Str.{bytes_eq}
use Rattle.km_names.specs.Space.{first_word, rest_after_word, words}
use Rattle.mod_tree.specs.Search.{search_line}
use Rattle.mod_tree.proofs.SearchSteps.{no_words, words-there, command-is}
use Rattle.mod_tree.proofs.search.SearchLineStatement.parse.Goals as goal

pub returns-then-ne : goal.returns-then-ne
unfolding search_line
returns-then-ne c =
    let text : List ℕ = c.args.text.now in
    let t : bytes_eq (first_word text) (codes "search") ≡ false
    = command-is false c.split_word.ensures.word c.as_slice.ensures c.ne.ensures c.if-ne.true in
    rw t refl

pub returns-then-is_empty : goal.returns-then-is_empty
unfolding search_line
returns-then-is_empty c =
    let text : List ℕ = c.args.text.now in
    let t : bytes_eq (first_word text) (codes "search") ≡ true
    = command-is true c.split_word.ensures.word c.as_slice.ensures c.ne.ensures c.if-ne.false in
    let list : c.in_ok-words.words ≡ words (rest_after_word text)
    = c.in_ok-words.ensures ∙ ap words c.split_word.ensures.rest in
    let none = no_words _ _ list (sym c.if-is_empty.true ∙ c.is_empty.ensures) in
    rw t none

pub returns : goal.returns
unfolding search_line
returns c =
    let text : List ℕ = c.args.text.now in
    let t : bytes_eq (first_word text) (codes "search") ≡ true
    = command-is true c.split_word.ensures.word c.as_slice.ensures c.ne.ensures c.if-ne.false in
    let list : c.in_ok-words.words ≡ words (rest_after_word text)
    = c.in_ok-words.ensures ∙ ap words c.split_word.ensures.rest in
    let some = words-there _ _ list (sym c.if-is_empty.false ∙ c.is_empty.ensures) in
    rw t some
