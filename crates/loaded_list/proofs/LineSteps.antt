-- The lines of a list, one after the other.
use Rattle.std.proofs.Common.{◌≡◌, ℕ, List, [], ◌∷◌, ◌++◌, length, refl, sym, ap, ◌∙◌, append_assoc}
use Rattle.std.proofs.Common.{append-nil, arith}
use Rattle.std.specs.List.{flat_map}
use Rattle.km_names.specs.Lines.{lines_of}
use Rattle.loaded_list.specs.Loaded.{name_if_any, loaded_of}

pub begins : (text : List ℕ) → flat_map name_if_any (lines_of text) ≡ loaded_of text
unfolding loaded_of
begins text = refl

-- an empty text has no line
pub no-lines : (text : List ℕ) → length text ≡ 0 → lines_of text ≡ []
unfolding lines_of
no-lines [] is = refl
no-lines (b ∷ bs) is = absurd (omega arith)

-- one line more
pub one-more : (done names : List (List ℕ)) (text line rest whole : List ℕ)
    → lines_of text ≡ line ∷ lines_of rest → names ≡ done ++ name_if_any line
    → done ++ flat_map name_if_any (lines_of text) ≡ loaded_of whole
    → names ++ flat_map name_if_any (lines_of rest) ≡ loaded_of whole
one-more done names text line rest whole cut more before =
    ap (λ ns. ns ++ flat_map name_if_any (lines_of rest)) more
    ∙ append_assoc done (name_if_any line) (flat_map name_if_any (lines_of rest))
    ∙ ap (λ ls. done ++ flat_map name_if_any ls) (sym cut)
    ∙ before

-- no line more
pub no-more : (names : List (List ℕ)) (text whole : List ℕ) → length text ≡ 0
    → names ++ flat_map name_if_any (lines_of text) ≡ loaded_of whole → names ≡ loaded_of whole
no-more names text whole over before =
    sym (append-nil names) ∙ ap (λ ls. names ++ flat_map name_if_any ls) (sym (no-lines text over))
    ∙ before
