-- The offsets of present children, put one after the other.
use Rattle.std.proofs.Common.{◌≡◌, sym, ap, ◌∙◌, ⊎_elim, ℕ, suc, ◌+◌, ◌<◌, List, [], ◌∷◌, ◌++◌}
use Rattle.std.proofs.Common.{length, take, arith, append_assoc}
use Rattle.std.proofs.Math.ListN.{set}
use Rattle.std.proofs.lemmas.Bool.{cases_eq}
use Rattle.std.proofs.lemmas.List.{take-set, take_more_set}
use Rattle.std.specs.List.{cons_option}
use Rattle.km_names.specs.Number.{be}
use Rattle.index_format.specs.Link.{place_of}
use Rattle.index_nodes.specs.Pending.{links_at}
use Rattle.index_nodes.proofs.ArrivalLemmas.{link_present, link_absent, links_next}

-- one child on: its offset counts if it is present
pub put_next : (b : List ℕ) (links : List ℕ) (filled next m link added : ℕ) → link ≡ be b next 4
    → filled < length links → (place_of link ≡ 0 → added ≡ 0)
    → ((place_of link ≡ 0 → ⊥) → added ≡ 1)
    → take (filled + added) (set links filled link) ++ links_at b (next + 4) m
    ≡ take filled links ++ links_at b next (suc m)
put_next b links filled next m link added e room absent present =
    let more = links_at b (next + 4) m in
    let one = links_next b next m link e in
    ⊎_elim
    (λ none.
    let same : filled + added ≡ filled = omega (arith, absent none) in
    ap (λ n. take n (set links filled link) ++ more) same
    ∙ ap (λ ls. ls ++ more) (take-set links filled link)
    ∙ sym (ap (λ ls. take filled links ++ ls)
    (one ∙ ap (λ o. cons_option o more) (link_absent link none))))
    (λ some.
    let next_one : filled + added ≡ filled + 1 = omega (arith, present some) in
    ap (λ n. take n (set links filled link) ++ more) next_one
    ∙ ap (λ ls. ls ++ more) (take_more_set links filled link room)
    ∙ append_assoc (take filled links) (link ∷ []) more
    ∙ sym (ap (λ ls. take filled links ++ ls)
    (one ∙ ap (λ o. cons_option o more) (link_present link some))))
    (cases_eq (place_of link) 0)
