-- Trees whose modules are named by two letters for a number.
use Rattle.std.proofs.Common.{◌≡◌, ◌∷◌, ◌++◌, [], List, ℕ, ◌+◌, ◌/◌, ◌%◌, ◌<◌, ◌≤◌, get_or, length}
use Rattle.std.proofs.Common.{refl, not, All, IsTrue, ap, sym, subst, ◌∙◌, arith}
use Rattle.std.specs.Prelude.{◌==◌}
use Rattle.std.specs.List.{list_any}
use Rattle.std.proofs.lemmas.Bool.{and_from, le-leb, ne_eqb}
use Rattle.std.proofs.lemmas.List.{length-append}
use Rattle.std.proofs.lemmas.List.Elements.{All-push}
use Rattle.std.proofs.lemmas.List.Quantifiers.{all_pairs_push}
use Rattle.km_names.specs.Ascii.{is_graphic}
use Rattle.module_facts.specs.declared.facts.Facts.{Facts}
use Rattle.provider_rel.specs.Tree.{IsTree, IsTreeModule}

-- two letters for a number
abbrev pub letters : ℕ → List ℕ
letters n = (65 + n / 50) ∷ (65 + n % 50) ∷ []

pub letters-graphic : (n : ℕ) → n < 2500 → IsTrue (is_graphic (letters n))
unfolding is_graphic
letters-graphic n few =
    and_from _ _ (and_from _ _ (le-leb 33 (65 + n / 50) (omega arith))
    (le-leb (65 + n / 50) 126 (omega arith)))
    (and_from _ _ (and_from _ _ (le-leb 33 (65 + n % 50) (omega arith))
    (le-leb (65 + n % 50) 126 (omega arith))) refl)

pub letters-colon : (n : ℕ) → n < 2500 → IsTrue (not (list_any (λ b. b == 58) (letters n)))
letters-colon n few =
    rw (
      ne_eqb (65 + n / 50) 58 (λ e. omega (arith, e)),
      ne_eqb (65 + n % 50) 58 (λ e. omega (arith, e)),
    ) refl

pub letters-apart : (n m : ℕ) → letters n ≡ letters m → n ≡ m
letters-apart n m same =
    let first : 65 + n / 50 ≡ 65 + m / 50 = ap (λ l. get_or l 0 0) same in
    let second : 65 + n % 50 ≡ 65 + m % 50 = ap (λ l. get_or l 1 0) same in
    omega arith

-- what holds of the members of a list, and of one more
pub pushed : {A : Type 0} (P : A → Type 0) (xs ys : List A) (x : A) → All P xs → ys ≡ xs ++ x ∷ []
    → P x → All P ys
pushed P xs ys x all is one = subst (All P) (sym is) (All-push P xs x all one)

-- what holds of the only member of a list
pub alone : {A : Type 0} (P : A → Type 0) (xs ys : List A) (x : A) → xs ≡ [] → ys ≡ xs ++ x ∷ []
    → P x → All P ys
alone P xs ys x empty is one =
    pushed P xs ys x (subst (All P) (sym empty) (λ k d within. absurd (omega (arith, within)))) is
    one

pub graphic-as : (name : List ℕ) (n : ℕ) → name ≡ letters n → n < 2500 → IsTrue (is_graphic name)
graphic-as name n is few = subst (λ t. IsTrue (is_graphic t)) (sym is) (letters-graphic n few)

pub colon-as : (name : List ℕ) (n : ℕ) → name ≡ letters n → n < 2500
    → IsTrue (not (list_any (λ b. b == 58) name))
colon-as name n is few =
    subst (λ t. IsTrue (not (list_any (λ b. b == 58) t))) (sym is) (letters-colon n few)

-- No module of the tree has the name of this number or of a later one.
pub Fresh : ℕ → List Facts → Type 0
Fresh n tree = (m : ℕ) → n ≤ m → All (λ (f : Facts). f.name ≡ letters m → ⊥) tree

-- A tree of a module more.
pub one-more : (tree : List Facts) (f : Facts) (n : ℕ) → IsTree tree → length tree ≡ n → n < 2500
    → IsTreeModule f → f.name ≡ letters n → Fresh n tree → IsTree (tree ++ f ∷ [])
unfolding Fresh
one-more tree f n is long few good named fresh = record {
  few = omega (arith, long, few, length-append tree (f ∷ []));
  distinct
      = all_pairs_push (λ (a b : Facts). a.name ≡ b.name → ⊥) tree f is.distinct
      (λ k d within same. fresh n (omega arith) k d within (same ∙ named));
  modules = All-push IsTreeModule tree f is.modules good;
}

pub longer : (tree after : List Facts) (f : Facts) (n : ℕ) → length tree ≡ n
    → after ≡ tree ++ f ∷ [] → length after ≡ n + 1
longer tree after f n long is = ap length is ∙ length-append tree (f ∷ []) ∙ ap (λ k. k + 1) long

pub one-more-fresh : (tree : List Facts) (f : Facts) (n : ℕ) → f.name ≡ letters n → Fresh n tree
    → Fresh (n + 1) (tree ++ f ∷ [])
unfolding Fresh
one-more-fresh tree f n named fresh m later =
    All-push (λ (f : Facts). f.name ≡ letters m → ⊥) tree f (fresh m (omega arith))
    (λ same. absurd (omega (arith, letters-apart n m (sym named ∙ same))))

pub no-modules : (tree : List Facts) → tree ≡ [] → IsTree tree × (length tree ≡ 0) × Fresh 0 tree
unfolding Fresh
no-modules tree empty = subst (λ t. IsTree t × (length t ≡ 0) × Fresh 0 t) (sym empty) (
  record {
    few = omega arith;
    distinct = λ i j d l m. absurd (omega (arith, m));
    modules = λ k d within. absurd (omega (arith, within));
  },
  refl,
  λ m later k d within. absurd (omega (arith, within)),
)
