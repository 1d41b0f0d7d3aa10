-- The name of a module whose path ends with a `/`, the name and `.ko`.
use Rattle.std.proofs.Common.{◌≡◌, ℕ, ◌+◌, ◌-◌, ◌<◌, ◌≤◌, false, cond, List, length, take}
use Rattle.std.proofs.Common.{drop, get_or, eqb, refl, sym, ap, ◌∙◌, inl, inr, arith}
use Rattle.std.specs.Prelude.{◌==◌, ◌⊎◌}
use Rattle.std.specs.List.{after_last, before_first, position_or_len}
use Rattle.std.proofs.lemmas.Bool.{cases_lt, eq-eqb}
use Rattle.std.proofs.lemmas.List.{get_or-drop, get_or-map, get_or-take, length-drop, length-map}
use Rattle.std.proofs.lemmas.List.{length-take-le}
use Rattle.std.proofs.lemmas.List.Sums.{position_or_len_is}
use Rattle.km_names.specs.Path.{module_name, underscored}
use Rattle.dependency_lines.specs.GoodPaths.{StandsFor}
use Rattle.dependency_lines.proofs.Kept.{same-lists}
use Rattle.dependency_lines.proofs.Stems.{after-place}

-- A byte of a path stands for the byte of a name.
abbrev pub IsNamed : List ℕ → List ℕ → ℕ → ℕ → Type 0
IsNamed path name start k = StandsFor (get_or path (start + k) 0) (get_or name k 0)

module _ (path name : List ℕ) (start : ℕ) (some : 0 < start)
    (long : start + length name + 3 ≡ length path) (slash : get_or path (start - 1) 0 ≡ 47)
    (dot : get_or path (start + length name) 0 ≡ 46)
    (kay : get_or path (start + length name + 1) 0 ≡ 107)
    (oh : get_or path (start + length name + 2) 0 ≡ 111)
    (each : (k : ℕ) → k < length name → IsNamed path name start k) where
  abbrev size : ℕ
  size = length name

  no-slash : (j : ℕ) → start ≤ j → j < length path → eqb (get_or path j 0) 47 ≡ false
  no-slash j low high = go (cases_lt j (start + size)) (cases_lt j (start + size + 1))
      (cases_lt j (start + size + 2))
    where
      at : (n x : ℕ) → j ≡ n → get_or path n 0 ≡ x → eqb x 47 ≡ false
          → eqb (get_or path j 0) 47 ≡ false
      at n x is here other
          = ap (λ m. eqb (get_or path m 0) 47) is ∙ ap (λ b. eqb b 47) here ∙ other

      go : (j < start + size) ⊎ (start + size ≤ j)
          → (j < start + size + 1) ⊎ (start + size + 1 ≤ j)
          → (j < start + size + 2) ⊎ (start + size + 2 ≤ j) → eqb (get_or path j 0) 47 ≡ false
      go (inl inside) b c =
          let is : j ≡ start + (j - start) = omega (arith, low) in
          ap (λ m. eqb (get_or path m 0) 47) is
          ∙ (each (j - start) (omega (arith, low, inside))).no_slash
      go (inr past) (inl one) c = at (start + size) 46 (omega (arith, past, one)) dot refl
      go (inr past) (inr b) (inl two) = at (start + size + 1) 107 (omega (arith, b, two)) kay refl
      go (inr past) (inr b) (inr c)
          = at (start + size + 2) 111 (omega (arith, c, high, long)) oh refl

  file : drop start path ≡ after_last (λ b. b == 47) path
  file = after-place 47 path start (omega (arith, long)) no-slash (λ _. eq-eqb _ 47 slash)

  first : position_or_len (λ b. b == 46) (drop start path) ≡ size
  first =
      position_or_len_is (λ b. b == 46) (drop start path) size 0
      (omega (arith, length-drop start path, long))
      (λ k l. ap (λ b. eqb b 46) (get_or-drop start path k 0) ∙ (each k l).no_dot)
      (λ _. eq-eqb _ 46 (get_or-drop start path size 0 ∙ dot))

  stem-long : length (take size (drop start path)) ≡ size
  stem-long =
      length-take-le size (drop start path) (omega (arith, length-drop start path, long))

  named : underscored (take size (drop start path)) ≡ name
  named =
      let f = λ (b : ℕ). cond (b == 45) 95 b in
      let stem = take size (drop start path) in
      let all = length-map stem f in
      same-lists (underscored stem) name (omega (arith, all, stem-long))
      (λ k l.
      let m : k < size = omega (arith, l, all, stem-long) in
      get_or-map f stem k 0 0 (omega (arith, m, stem-long))
      ∙ ap f (get_or-take size (drop start path) k 0 m ∙ get_or-drop start path k 0)
      ∙ (each k m).same)

  pub name-is : module_name path ≡ name
  name-is =
      ap (λ xs. underscored (before_first (λ b. b == 46) xs)) (sym file)
      ∙ ap (λ n. underscored (take n (drop start path))) first
      ∙ named
