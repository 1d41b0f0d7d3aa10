-- One candidate more.
use Rattle.std.proofs.Common.{◌≡◌, ℕ, ◌+◌, ◌<◌, ◌≤◌, true, false, cond, eqb, List, [], ◌∷◌, ◌++◌}
use Rattle.std.proofs.Common.{length, drop, get_or, Option, Some, None, sym, refl, ap, subst, ◌∙◌}
use Rattle.std.specs.Prelude.{map, All, option_copied}
use Rattle.std.specs.Borrow.{Bor}
use Rattle.std.specs.Option.{option_eq}
use Rattle.std.specs.Cmp.{IsTotalOrder, on_total, then_total, nat_cmp_total}
use Rattle.std.specs.Cmp.Lexicographic.{pointwise, nat_list_cmp_total}
use Rattle.std.specs.Ordering.{nat_cmp, ordering_then, is_lt}
use Rattle.std.specs.declared.cmp.Ordering.{Ordering}
use Rattle.std.specs.declared.cmp.Ordering.TheVariants.{Less, Equal, Greater}
use Rattle.std.specs.List.Sorted.{IsSorted, IsPermutation}
use Rattle.std.proofs.lemmas.List.{at_drop_more, at_drop_all, append_assoc, append-nil, map_push}
use Rattle.std.proofs.lemmas.List.Elements.{recursion_from_All, All-same}
use Rattle.std.proofs.lemmas.List.Sorted.{ranks_by, IsPermutation-map, All-permutation}
use Rattle.km_names.specs.Path.{module_name}
use Rattle.km_names.specs.Order.{by_bytes}
use Rattle.mod_tree.specs.Tree.{rank}
use Rattle.mod_tree.specs.Shown.{referents}
use Rattle.mod_tree.specs.declared.chosen.Candidate.{Candidate}
use Rattle.mod_tree.specs.Chosen.{IsCandidate, path_of, is_name, heads, HasChosen}
use Rattle.mod_tree.proofs.Ascending.{Ascends, ascends-sorted, ascends-map}
use Rattle.mod_tree.proofs.Heads.{full_cmp, heads-chosen}

pub previous-is : (prev : Option (Bor (List ℕ))) (name : Bor (List ℕ))
    → option_eq (λ (x y : Bor (List ℕ)). pointwise eqb x.now y.now) prev (Some name)
    ≡ is_name (option_copied prev) name.now
previous-is None name = refl
previous-is (Some m) name = refl

heads-more : (search : List (List ℕ)) (list : List Candidate) (i : ℕ) (c : Candidate)
    → All (IsCandidate search) list → i < length list → c ≡ get_or list i c
    → (prev : Option (List ℕ))
    → heads prev (map path_of (drop i list))
    ≡ cond (is_name prev c.name.items)
    (heads (Some c.name.items) (map path_of (drop (i + 1) list)))
    (c.path.now ∷ heads (Some c.name.items) (map path_of (drop (i + 1) list)))
heads-more words list i c all l is prev =
    let rest : List (List ℕ) = map path_of (drop (i + 1) list) in
    let mine : IsCandidate words c = subst (IsCandidate words) (sym is) (all i c l) in
    at_drop_more (λ (cs : List Candidate). heads prev (map path_of cs)) list i c l
    ∙ ap (λ (x : Candidate). heads prev (path_of x ∷ rest)) (sym is)
    ∙ ap (λ n. cond (is_name prev n) (heads (Some n) rest) (c.path.now ∷ heads (Some n) rest))
    (sym mine.name)

-- of a name that is the one before
pub head-skip : (search : List (List ℕ)) (done : List (Bor (List ℕ))) (list : List Candidate)
    (i : ℕ) (c : Candidate) (name : List ℕ) (prev : Option (List ℕ))
    → All (IsCandidate search) list → i < length list → c ≡ get_or list i c → name ≡ c.name.items
    → is_name prev name ≡ true
    → referents done ++ heads (Some name) (map path_of (drop (i + 1) list))
    ≡ referents done ++ heads prev (map path_of (drop i list))
head-skip words done list i c name prev all l is e same =
    let rest : List (List ℕ) = map path_of (drop (i + 1) list) in
    ap (λ hs. referents done ++ hs)
    (ap (λ n. heads (Some n) rest) e
    ∙ sym (heads-more words list i c all l is prev
    ∙ ap (λ b. cond b (heads (Some c.name.items) rest)
    (c.path.now ∷ heads (Some c.name.items) rest))
    (ap (is_name prev) (sym e) ∙ same)))

-- and of another
pub head-more : (search : List (List ℕ)) (done new : List (Bor (List ℕ))) (list : List Candidate)
    (i : ℕ) (c : Candidate) (name : List ℕ) (prev : Option (List ℕ))
    → All (IsCandidate search) list → i < length list → c ≡ get_or list i c → name ≡ c.name.items
    → is_name prev name ≡ false → new ≡ done ++ c.path ∷ []
    → referents new ++ heads (Some name) (map path_of (drop (i + 1) list))
    ≡ referents done ++ heads prev (map path_of (drop i list))
head-more words done new list i c name prev all l is e fresh pushed =
    let rest : List (List ℕ) = map path_of (drop (i + 1) list) in
    ap (λ (cs : List (Bor (List ℕ))). referents cs ++ heads (Some name) rest) pushed
    ∙ ap (λ cs. cs ++ heads (Some name) rest) (map_push (λ (r : Bor (List ℕ)). r.now) done c.path)
    ∙ append_assoc (referents done) (c.path.now ∷ []) (heads (Some name) rest)
    ∙ ap (λ hs. referents done ++ hs)
    (ap (λ n. c.path.now ∷ heads (Some n) rest) e
    ∙ sym (heads-more words list i c all l is prev
    ∙ ap (λ b. cond b (heads (Some c.name.items) rest)
    (c.path.now ∷ heads (Some c.name.items) rest))
    (ap (is_name prev) (sym e) ∙ fresh)))

pub head-all : (done : List (Bor (List ℕ))) (list : List Candidate) (i : ℕ) (prev : Option (List ℕ))
    → length list ≤ i → referents done ≡ referents done ++ heads prev (map path_of (drop i list))
head-all done list i prev l =
    sym (ap (λ hs. referents done ++ hs)
    (at_drop_all (λ (cs : List Candidate). heads prev (map path_of cs)) list i l)
    ∙ append-nil (referents done))

-- one path more that was made a candidate
pub path-more : (list : List Candidate) (modules : List (Bor (List ℕ))) (i : ℕ) (m : Bor (List ℕ))
    (c : Candidate)
    → i < length modules → m ≡ get_or modules i m → c.path.now ≡ m.now
    → map path_of (list ++ c ∷ []) ++ referents (drop (i + 1) modules)
    ≡ map path_of list ++ referents (drop i modules)
path-more list modules i m c l is same =
    ap (λ ps. ps ++ referents (drop (i + 1) modules)) (map_push path_of list c)
    ∙ append_assoc (map path_of list) (c.path.now ∷ []) (referents (drop (i + 1) modules))
    ∙ ap (λ ps. map path_of list ++ ps)
    (ap (λ p. p ∷ referents (drop (i + 1) modules)) same
    ∙ sym (at_drop_more referents modules i m l
    ∙ ap (λ (r : Bor (List ℕ)). r.now ∷ referents (drop (i + 1) modules)) (sym is)))

-- candidates as they are compared
abbrev pub candidate_cmp : Candidate → Candidate → Ordering
candidate_cmp c d =
    ordering_then (by_bytes c.name.items d.name.items)
    (ordering_then (nat_cmp c.rank d.rank) (by_bytes c.path.now d.path.now))

candidate_total : IsTotalOrder candidate_cmp
candidate_total =
    then_total (on_total (λ (c : Candidate). c.name.items) nat_list_cmp_total)
    (then_total (on_total (λ (c : Candidate). c.rank) nat_cmp_total)
    (on_total (λ (c : Candidate). c.path.now) nat_list_cmp_total))

-- three comparisons, the second and the third together or the first and the second
together : (a b c : Ordering)
    → ordering_then (ordering_then a b) c ≡ ordering_then a (ordering_then b c)
together Less b c = refl
together Equal b c = refl
together Greater b c = refl

same-order : (search : List (List ℕ)) (x y : Candidate) → IsCandidate search x
    → IsCandidate search y
    → is_lt (full_cmp search (path_of y) (path_of x)) ≡ is_lt (candidate_cmp y x)
same-order words x y a b =
    let z = by_bytes y.path.now x.path.now in
    sym (
    ap is_lt (sym (together (by_bytes y.name.items x.name.items) (nat_cmp y.rank x.rank) z))
    ∙ ap (λ n. is_lt
    (ordering_then (ordering_then (by_bytes n x.name.items) (nat_cmp y.rank x.rank)) z)) b.name
    ∙ ap (λ n. is_lt
    (ordering_then
    (ordering_then (by_bytes (module_name y.path.now) n) (nat_cmp y.rank x.rank)) z))
    a.name
    ∙ ap (λ r. is_lt
    (ordering_then
    (ordering_then (by_bytes (module_name y.path.now) (module_name x.path.now))
    (nat_cmp r x.rank)) z)) b.rank_is
    ∙ ap (λ r. is_lt
    (ordering_then
    (ordering_then (by_bytes (module_name y.path.now) (module_name x.path.now))
    (nat_cmp (rank words y.path.now) r)) z)) a.rank_is
    )

-- sorted candidates give the chosen paths
pub sorted-chosen : (search ms : List (List ℕ)) (made list : List Candidate) → map path_of made ≡ ms
    → All (IsCandidate search) made → IsPermutation made list → IsSorted candidate_cmp list
    → HasChosen search ms (heads None (map path_of list))
sorted-chosen words ms made list is all moved sorted =
    let each : All (IsCandidate words) list
    = All-permutation (IsCandidate words) made list moved all in
    let up : Ascends (λ x y. is_lt (candidate_cmp x y)) list
    = ascends-sorted (λ x y. is_lt (candidate_cmp x y))
    (ranks_by candidate_total (λ (c : Candidate). c)) list sorted in
    let paths : Ascends (λ x y. is_lt (full_cmp words x y)) (map path_of list)
    = ascends-map path_of (λ x y. is_lt (candidate_cmp x y)) (λ x y. is_lt (full_cmp words x y))
    (IsCandidate words) (same-order words) list
    (recursion_from_All (IsCandidate words) list each) up in
    heads-chosen words ms (map path_of list)
    (subst (λ ps. IsPermutation ps (map path_of list)) is
    (IsPermutation-map path_of made list moved)) paths

pub candidates-same : (search : List (List ℕ)) (made list slice : List Candidate) → slice ≡ list
    → All (IsCandidate search) made → IsPermutation made list → All (IsCandidate search) slice
candidates-same words made list slice is all moved =
    All-same (IsCandidate words) slice list is
    (All-permutation (IsCandidate words) made list moved all)
