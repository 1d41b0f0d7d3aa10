-- The chosen paths in the order of the tree.
use Rattle.std.proofs.Common.{◌≡◌, ℕ, ◌<◌, ◌≤◌, cond, List, [], ◌∷◌, ◌++◌, length, Some, None, Ok}
use Rattle.std.proofs.Common.{Err, sym, ap, subst, ◌∙◌, arith, Ordering}
use Rattle.std.specs.Prelude.{map, filter, All}
use Rattle.std.specs.Cmp.{IsTotalOrder, on_total, then_total, nat_cmp_total}
use Rattle.std.specs.Cmp.Lexicographic.{nat_list_cmp_total}
use Rattle.std.specs.Ordering.{nat_cmp, ordering_then, is_lt}
use Rattle.std.specs.declared.cmp.Ordering.TheVariants.{Less, Equal, Greater}
use Rattle.std.specs.FinMap.{IsAntisymmetric}
use Rattle.std.specs.List.{count_by, position_or_len}
use Rattle.std.specs.List.Sorted.{IsSorted, IsPermutation}
use Rattle.std.specs.Str.{bytes_eq}
use Rattle.std.proofs.lemmas.Bool.{lt-ltb, le-ltb}
use Rattle.std.proofs.lemmas.List.{append-nil}
use Rattle.std.proofs.lemmas.List.Elements.{recursion_from_All}
use Rattle.std.proofs.lemmas.List.Sorted.{ranks_by, IsPermutation-map, All-permutation}
use Rattle.std.proofs.lemmas.List.Sorted.{list_any-IsPermutation, sum_by-IsPermutation}
use Rattle.km_names.specs.Lines.{lines_of}
use Rattle.km_names.specs.Order.{by_bytes}
use Rattle.mod_tree.specs.Places.{IsPlacesOf}
use Rattle.mod_tree.specs.Tree.{listing_cmp, is_chosen, is_module_path, tree_paths, tree_of}
use Rattle.mod_tree.specs.Tree.{tree_unless, bad_path, name_count}
use Rattle.mod_tree.specs.declared.listing.Listing.{Listing}
use Rattle.mod_tree.specs.Listing.{IsListing, listed_path}
use Rattle.mod_tree.specs.Chosen.{HasChosen}
use Rattle.mod_tree.specs.declared.places.Places.{Places}
use Rattle.mod_tree.specs.declared.tree.TreeFault.TheVariants.{BadPath, TooManyModules}
use Rattle.mod_tree.proofs.Ascending.{Ascends, ascends-sorted, ascends-map, strict-once}
use Rattle.mod_tree.proofs.Ascending.{in_order-is, any-eq}
use Rattle.mod_tree.proofs.Heads.{bytes_same}

abbrev pub place_cmp : Listing → Listing → Ordering
place_cmp c d = ordering_then (nat_cmp c.place d.place) (by_bytes c.path.now d.path.now)

place_total : IsTotalOrder place_cmp
place_total =
    then_total (on_total (λ (c : Listing). c.place) nat_cmp_total)
    (on_total (λ (c : Listing). c.path.now) nat_list_cmp_total)

listing_total : (lines : List (List ℕ)) → IsTotalOrder (listing_cmp lines)
listing_total lines =
    then_total (on_total (λ p. position_or_len (bytes_eq p) lines) nat_cmp_total) nat_list_cmp_total

then-equal : (a b : Ordering) → ordering_then a b ≡ Equal → b ≡ Equal
then-equal Less b e = cc
then-equal Equal b e = e
then-equal Greater b e = cc

listing_same : (lines : List (List ℕ)) → IsAntisymmetric (listing_cmp lines)
listing_same lines p q e =
    bytes_same p q
    (then-equal
    (nat_cmp (position_or_len (bytes_eq p) lines) (position_or_len (bytes_eq q) lines))
    (by_bytes p q) e)

same-order : (lines : List (List ℕ)) (x y : Listing) → IsListing lines x → IsListing lines y
    → is_lt (listing_cmp lines (listed_path y) (listed_path x)) ≡ is_lt (place_cmp y x)
same-order lines x y a b =
    let z = by_bytes y.path.now x.path.now in
    sym (ap (λ n. is_lt (ordering_then (nat_cmp n x.place) z)) b.place
    ∙ ap (λ n. is_lt
    (ordering_then (nat_cmp (position_or_len (bytes_eq y.path.now) lines) n) z))
    a.place)

-- sorted listings of the chosen paths are the tree
pub sorted-tree : (lines search ms chosen : List (List ℕ)) (made list : List Listing)
    → HasChosen search ms chosen → map listed_path made ≡ chosen → All (IsListing lines) made
    → IsPermutation made list → IsSorted place_cmp list
    → map listed_path list ≡ tree_paths search lines ms
unfolding tree_paths
sorted-tree lines words ms chosen made list has is all moved sorted =
    let each : All (IsListing lines) list = All-permutation (IsListing lines) made list moved all in
    let up : Ascends (λ x y. is_lt (place_cmp x y)) list
    = ascends-sorted (λ x y. is_lt (place_cmp x y)) (ranks_by place_total (λ (c : Listing). c))
    list sorted in
    let paths : Ascends (λ x y. is_lt (listing_cmp lines x y)) (map listed_path list)
    = ascends-map listed_path (λ x y. is_lt (place_cmp x y))
    (λ x y. is_lt (listing_cmp lines x y)) (IsListing lines) (same-order lines) list
    (recursion_from_All (IsListing lines) list each) up in
    let moves : IsPermutation chosen (map listed_path list)
    = subst (λ ps. IsPermutation ps (map listed_path list)) is
    (IsPermutation-map listed_path made list moved) in
    let once : (q : List ℕ) → count_by (bytes_eq q) (map listed_path list) ≤ 1
    = λ q. omega (
      arith,
      has.once q,
      sum_by-IsPermutation (λ y. cond (bytes_eq q y) 1 0) chosen (map listed_path list) moves,
    )
    in
    sym (in_order-is (listing_total lines) (listing_same lines) (map listed_path list)
    (filter (is_chosen words ms) ms)
    (strict-once (listing_total lines) (listing_same lines) (map listed_path list) paths once)
    (λ q.
    any-eq (listing_total lines) (listing_same lines) q (map listed_path list)
    ∙ sym (list_any-IsPermutation (bytes_eq q) chosen (map listed_path list) moves)
    ∙ has.members q
    ∙ sym (any-eq (listing_total lines) (listing_same lines) q (filter (is_chosen words ms) ms))))

pub places-all : (items : List (List ℕ)) (places : Places) (rest text : List ℕ)
    → IsPlacesOf items places → items ++ lines_of rest ≡ lines_of text → length rest ≡ 0
    → IsPlacesOf (lines_of text) places
unfolding lines_of
places-all items places [] text was is none =
    subst (λ ls. IsPlacesOf ls places) (sym (append-nil items) ∙ is) was
places-all items places (b ∷ bs) text was is none = absurd (omega (arith, none))

-- the three answers
pub tree-bad : (listed ms : List (List ℕ)) (order : List ℕ) (search : List (List ℕ)) (path : List ℕ)
    → ms ≡ filter is_module_path listed → Some path ≡ bad_path ms
    → tree_of listed order search ≡ Err (BadPath path)
unfolding tree_of
tree-bad listed ms order words path is bad =
    ap (λ b. tree_unless b (name_count (filter is_module_path listed))
    (tree_paths words (lines_of order) (filter is_module_path listed)))
    (ap bad_path (sym is) ∙ sym bad)

pub tree-many : (listed ms : List (List ℕ)) (order : List ℕ) (search : List (List ℕ)) (count : ℕ)
    → ms ≡ filter is_module_path listed → None ≡ bad_path ms → count ≡ name_count ms → 10000 < count
    → tree_of listed order search ≡ Err (TooManyModules count)
unfolding tree_of
tree-many listed ms order words count is good many l =
    let paths : List (List ℕ) = filter is_module_path listed in
    let n : name_count paths ≡ count = ap name_count (sym is) ∙ sym many in
    ap (λ b. tree_unless b (name_count paths) (tree_paths words (lines_of order) paths))
    (ap bad_path (sym is) ∙ sym good)
    ∙ ap (λ m. tree_unless None m (tree_paths words (lines_of order) paths)) n
    ∙ ap (λ b. cond b (Err (TooManyModules count)) (Ok (tree_paths words (lines_of order) paths)))
    (lt-ltb 10000 count l)

pub tree-ok : (listed ms : List (List ℕ)) (order : List ℕ) (search : List (List ℕ)) (count : ℕ)
    (tree : List (List ℕ))
    → ms ≡ filter is_module_path listed → None ≡ bad_path ms → count ≡ name_count ms → count ≤ 10000
    → tree ≡ tree_paths search (lines_of order) ms → tree_of listed order search ≡ Ok tree
unfolding tree_of
tree-ok listed ms order words count tree is good many l made =
    let paths : List (List ℕ) = filter is_module_path listed in
    let n : name_count paths ≡ count = ap name_count (sym is) ∙ sym many in
    ap (λ b. tree_unless b (name_count paths) (tree_paths words (lines_of order) paths))
    (ap bad_path (sym is) ∙ sym good)
    ∙ ap (λ m. tree_unless None m (tree_paths words (lines_of order) paths)) n
    ∙ ap (λ b. cond b (Err (TooManyModules count)) (Ok (tree_paths words (lines_of order) paths)))
    (le-ltb 10000 count l)
    ∙ ap Ok (ap (tree_paths words (lines_of order)) (sym is) ∙ sym made)
