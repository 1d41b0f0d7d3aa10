-- The folders of a path, at its slashes, against the words that name them.
use Rattle.std.proofs.Common.{◌≡◌, ℕ, ◌+◌, ◌<◌, ◌≤◌, true, false, min, List, [], ◌∷◌, ◌++◌, length}
use Rattle.std.proofs.Common.{take, drop, get_or, sym, refl, ap, subst, ◌∙◌, inl, inr, arith}
use Rattle.std.specs.Prelude.{not, nat_eq, codes}
use Rattle.std.specs.List.{position_or_len, starts_with}
use Rattle.std.specs.Str.{bytes_eq}
use Rattle.std.proofs.lemmas.Bool.{cases_lt, true≢false, false_from_ne_true, and_parts, and_from}
use Rattle.std.proofs.lemmas.Bool.{not-true}
use Rattle.std.proofs.lemmas.Bool.Decides.{Decides-eqb}
use Rattle.std.proofs.lemmas.List.{append_assoc, length-append, length-take-le, take_more, take_at}
use Rattle.std.proofs.lemmas.List.{get_or_at}
use Rattle.std.proofs.lemmas.List.Sums.{position_or_len_is, passes_at_first, fails_before_first}
use Rattle.std.proofs.lemmas.Slice.Eq.{bytes_eq-Decides, starts_is}
use Rattle.mod_tree.specs.Tree.{is_folder_of}
use Rattle.mod_tree.proofs.Ascending.{bytes_eq-itself}

-- the least place among those of the folders that end before a place of the path
pub record FolderSoFar (search : List (List ℕ)) (path : List ℕ) (end least : ℕ) : Type 0 where
  pub within : least ≤ length search
  pub found : least < length search → is_folder_of path (get_or search least []) ≡ true
  pub before : (k : ℕ) → k < end → get_or path k 0 ≡ 47
      → bytes_eq (take k path) (codes "built-in") ≡ false
      → least ≤ position_or_len (bytes_eq (take k path)) search

-- at a slash, what stands before it is a folder
folder-at : (path : List ℕ) (end : ℕ) → end < length path → get_or path end 0 ≡ 47
    → starts_with nat_eq path (take end path ++ 47 ∷ []) ≡ true
folder-at path end l slash =
    let word : List ℕ = take end path ++ 47 ∷ [] in
    let n : length word ≡ end + 1
    = omega
    (arith, length-append (take end path) (47 ∷ []), length-take-le end path (omega arith))
    in
    let e : take (length word) path ≡ word
    = ap (λ m. take m path) n ∙ take_more path end 0 l
    ∙ ap (λ b. take end path ++ b ∷ []) slash in
    ap (bytes_eq word) e ∙ bytes_eq-itself word

-- a word that names a folder stands before a slash
slash-at : (path word : List ℕ) → starts_with nat_eq path (word ++ 47 ∷ []) ≡ true
    → (take (length word) path ≡ word) × (get_or path (length word) 0 ≡ 47)
    × (length word < length path)
slash-at path word e =
    let rest : List ℕ = drop (length (word ++ 47 ∷ [])) path in
    let s : path ≡ word ++ 47 ∷ [] ++ rest
    = (starts_is Decides-eqb path (word ++ 47 ∷ []) _ refl).0 e in
    let t : path ≡ word ++ 47 ∷ rest = s ∙ append_assoc word (47 ∷ []) rest in (
      ap (take (length word)) t ∙ take_at word (47 ∷ rest) (length word) refl,
      ap (λ p. get_or p (length word) 0) t ∙ get_or_at word 47 rest 0 (length word) refl,
      omega (arith, ap length t, length-append word (47 ∷ rest)),
    )

pub folder-none : (search : List (List ℕ)) (path : List ℕ)
    → FolderSoFar search path 0 (length search)
folder-none search path = record {
  within = omega arith;
  found = λ l. absurd (omega (arith, l));
  before = λ k l. absurd (omega (arith, l));
}

-- one place more that isn't the end of a folder
pub folder-skip : (words : List (List ℕ)) (path : List ℕ) (end least : ℕ)
    → FolderSoFar words path end least
    → ((get_or path end 0 ≡ 47) → bytes_eq (take end path) (codes "built-in") ≡ false → ⊥)
    → FolderSoFar words path (end + 1) least
folder-skip words path end least so none = record {
  within = so.within;
  found = so.found;
  before = λ k l slash other.
      elim (cases_lt k end) [
        | inl lt ↦ so.before k lt slash other
        | inr ge ↦ let e : k ≡ end
            = omega arith in absurd
            (none (subst (λ n. get_or path n 0 ≡ 47) e slash)
            (subst (λ n. bytes_eq (take n path) (codes "built-in") ≡ false) e other))
      ];
}

-- and one that is
pub folder-take : (words : List (List ℕ)) (path : List ℕ) (end least place : ℕ)
    → FolderSoFar words path end least → end < length path → get_or path end 0 ≡ 47
    → bytes_eq (take end path) (codes "built-in") ≡ false
    → place ≡ position_or_len (bytes_eq (take end path)) words
    → FolderSoFar words path (end + 1) (min least place)
folder-take words path end least place so l slash other is = record {
  within = omega (arith, so.within);
  found = λ m.
      elim (cases_lt place least) [
        | inl lt ↦
            let e : min least place ≡ place = omega arith in
            let there : get_or words place [] ≡ take end path
            = sym ((bytes_eq-Decides (take end path) (get_or words place [])).0
            (ap (λ n. bytes_eq (take end path) (get_or words n [])) is
            ∙ passes_at_first (bytes_eq (take end path)) words [] (omega (arith, is))))
            in
            ap (λ n. is_folder_of path (get_or words n [])) e ∙ ap (is_folder_of path) there
            ∙ and_from _ _ (ap not other) (folder-at path end l slash)
        | inr ge ↦
            let e : min least place ≡ least = omega arith in
            ap (λ n. is_folder_of path (get_or words n [])) e ∙ so.found (omega arith)
      ];
  before = λ k n at no_built_in.
      elim (cases_lt k end) [
        | inl lt ↦ omega (arith, so.before k lt at no_built_in)
        | inr ge ↦ let e : k ≡ end
            = omega arith in omega
            (arith, is, ap (λ j. position_or_len (bytes_eq (take j path)) words) e)
      ];
}

-- the least of all folders
pub folder-all : (words : List (List ℕ)) (path : List ℕ) (end least : ℕ)
    → FolderSoFar words path end least → length path ≤ end
    → least ≡ position_or_len (is_folder_of path) words
folder-all words path end least so l =
    sym (position_or_len_is (is_folder_of path) words least [] so.within
    (λ k m. false_from_ne_true (is_folder_of path (get_or words k []))
    (λ is. no_earlier k m is)) so.found)
  where
    no_earlier : (k : ℕ) → k < least → is_folder_of path (get_or words k []) ≡ true → ⊥
    no_earlier k m is =
        let word : List ℕ = get_or words k [] in
        let parts
        = and_parts (not (bytes_eq word (codes "built-in")))
        (starts_with nat_eq path (word ++ 47 ∷ [])) is in
        let at = slash-at path word parts.1 in
        let other : bytes_eq (take (length word) path) (codes "built-in") ≡ false
        = ap (λ w. bytes_eq w (codes "built-in")) at.0
        ∙ not-true (bytes_eq word (codes "built-in")) parts.0 in
        let low = so.before (length word) (omega (arith, at.2)) at.1 other in
        let same : position_or_len (bytes_eq (take (length word) path)) words
        ≡ position_or_len (bytes_eq word) words
        = ap (λ w. position_or_len (bytes_eq w) words) at.0 in
        elim (cases_lt k (position_or_len (bytes_eq word) words)) [
          | inl lt ↦ true≢false
              (sym (bytes_eq-itself word) ∙ fails_before_first (bytes_eq word) words k [] lt)
          | inr ge ↦ absurd (omega (arith, low, same))
        ]
