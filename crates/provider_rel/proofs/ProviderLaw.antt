-- Who provides a name, as the first item of the name.
use Rattle.std.proofs.Common.{◌≡◌, ℕ, Bool, true, false, List, [], ◌∷◌, map, cond, Option, Some}
use Rattle.std.proofs.Common.{None, option_map, option_and_then, find, refl, sym, ap, ◌∙◌}
use Rattle.std.specs.List.{flat_map}
use Rattle.std.specs.Option.{option_or, option_map_or}
use Rattle.std.specs.Str.{bytes_eq}
use Rattle.std.proofs.lemmas.List.Folds.{find-append}
use Rattle.km_names.specs.First.{first}
use Rattle.symbol_binding.specs.Symbols.{Export, Module, Kernel}
use Rattle.symbol_binding.specs.Provider.{Owner, ByKernel, ByModule, Provided, of_kernel, of_one}
use Rattle.symbol_binding.specs.Provider.{of_first, of_unknown, module_exports, provider}
use Rattle.symbol_binding.specs.Provider.{export_under, owning_module}
use Rattle.symbol_binding.specs.Unmet.{owner_path, provider_path}
use Rattle.provider_rel.specs.declared.provider.Provider.TheVariants.{Nobody, Kernel as TheKernel}
use Rattle.provider_rel.specs.Relation.{place, answer, owner_answer}
use Rattle.provider_rel.specs.Items.{Item, by_kernel, by_module, all_provided, item_of, items}
use Rattle.provider_rel.specs.Items.{is_named, seen_under, path_under, item_answer, place_of_owner}

find-map : {X Y : Type 0} (p : Y → Bool) (f : X → Y) (xs : List X)
    → find p (map f xs) ≡ option_map f (find (λ x. p (f x)) xs)
find-map p f [] = refl
find-map p f (x ∷ xs) =
    elim (p (f x)) as
    (λ b. cond b (Some (f x)) (find p (map f xs))
    ≡ option_map f (cond b (Some x) (find (λ x. p (f x)) xs))) [
      | true ↦ refl
      | false ↦ find-map p f xs
    ]

first-two : {X : Type 0} (a : Option X) (rest : List (Option X))
    → first (a ∷ rest) ≡ option_or a (first rest)
first-two None rest = refl
first-two (Some x) rest = refl

or-assoc : {X : Type 0} (a b c : Option X)
    → option_or (option_or a b) c ≡ option_or a (option_or b c)
or-assoc None b c = refl
or-assoc (Some x) b c = refl

or-none : {X : Type 0} (a : Option X) → option_or a None ≡ a
or-none None = refl
or-none (Some x) = refl

named : List ℕ → Provided Module → Bool
named x p = bytes_eq p.export.name x

of-module : (x : List ℕ) (m : Module) → of_one module_exports x m ≡ find (named x) (by_module m)
unfolding named
of-module x m =
    sym (find-map (named x) (λ (e : Export). record { owner = ByModule m; export = e })
    m.face.exports)

of-modules : (x : List ℕ) (ms : List Module)
    → of_first module_exports ms x ≡ find (named x) (flat_map by_module ms)
of-modules x [] = refl
of-modules x (m ∷ ms) =
    first-two (of_one module_exports x m) (map (of_one module_exports x) ms)
    ∙ ap (λ o. option_or o (of_first module_exports ms x)) (of-module x m)
    ∙ ap (option_or (find (named x) (by_module m))) (of-modules x ms)
    ∙ sym (find-append (named x) (by_module m) (flat_map by_module ms))

of-kernel : (x : List ℕ) (kernel : Kernel)
    → of_kernel kernel x ≡ find (named x) (map by_kernel kernel.exports)
unfolding named
of-kernel x kernel = sym (find-map (named x) by_kernel kernel.exports)

-- the first of all exports of a name provides it, else an unknown kernel
provider-first : (tree : List Module) (kernel : Kernel) (x : List ℕ)
    → provider tree kernel x
    ≡ option_or (find (named x) (all_provided tree kernel)) (of_unknown kernel x)
unfolding all_provided
provider-first tree kernel x =
    first-two (of_kernel kernel x) (of_first module_exports tree x ∷ of_unknown kernel x ∷ [])
    ∙ ap (option_or (of_kernel kernel x))
    (first-two (of_first module_exports tree x) (of_unknown kernel x ∷ [])
    ∙ ap (option_or (of_first module_exports tree x))
    (first-two (of_unknown kernel x) [] ∙ or-none (of_unknown kernel x)))
    ∙ sym (or-assoc (of_kernel kernel x) (of_first module_exports tree x) (of_unknown kernel x))
    ∙ ap (λ o. option_or o (of_unknown kernel x))
    (ap (λ o. option_or o (of_first module_exports tree x)) (of-kernel x kernel)
    ∙ ap (option_or (find (named x) (map by_kernel kernel.exports))) (of-modules x tree)
    ∙ sym (find-append (named x) (map by_kernel kernel.exports) (flat_map by_module tree)))

items-found : (tree : List Module) (kernel : Kernel) (x : List ℕ)
    → find (is_named x) (items tree kernel)
    ≡ option_map (item_of tree) (find (named x) (all_provided tree kernel))
unfolding items named
items-found tree kernel x = find-map (is_named x) (item_of tree) (all_provided tree kernel)

-- what is seen under a name, who provides it, by what path, and which module that is
module _ (tree : List Module) (kernel : Kernel) (x : List ℕ) where
  found : Option (Provided Module)
  found = find (named x) (all_provided tree kernel)

  seen-go : (known : Bool) (o : Option (Provided Module))
      → export_under (option_or o (of_unknown (record kernel { known = known }) x))
      ≡ seen_under known x (option_map (item_of tree) o)
  seen-go known (Some p) = refl
  seen-go true None = refl
  seen-go false None = refl

  pub seen-is : export_under (provider tree kernel x)
      ≡ seen_under kernel.known x (find (is_named x) (items tree kernel))
  unfolding found
  seen-is
      = ap export_under (provider-first tree kernel x) ∙ seen-go kernel.known found
      ∙ ap (seen_under kernel.known x) (sym (items-found tree kernel x))

  path-go : (known : Bool) (o : Option (Provided Module))
      → provider_path (option_or o (of_unknown (record kernel { known = known }) x))
      ≡ path_under known (option_map (item_of tree) o)
  path-go known (Some p) = refl
  path-go true None = refl
  path-go false None = refl

  pub path-is : provider_path (provider tree kernel x)
      ≡ path_under kernel.known (find (is_named x) (items tree kernel))
  unfolding found
  path-is
      = ap provider_path (provider-first tree kernel x) ∙ path-go kernel.known found
      ∙ ap (path_under kernel.known) (sym (items-found tree kernel x))

  owner-go : (known : Bool) (o : Option (Provided Module))
      → option_map (place tree)
      (option_and_then (λ (p : Provided Module). owning_module p.owner)
      (option_or o (of_unknown (record kernel { known = known }) x)))
      ≡ option_and_then (λ (i : Item). i.place) (option_map (item_of tree) o)
  owner-go known (Some p) = by p.owner
    where
      by : (o : Owner Module) → option_map (place tree) (owning_module o) ≡ place_of_owner tree o
      by ByKernel = refl
      by (ByModule m) = refl
  owner-go true None = refl
  owner-go false None = refl

  pub owner-is : option_map (place tree)
      (option_and_then (λ (p : Provided Module). owning_module p.owner)
      (provider tree kernel x))
      ≡ option_and_then (λ (i : Item). i.place) (find (is_named x) (items tree kernel))
  unfolding found
  owner-is =
      ap (λ o. option_map (place tree)
      (option_and_then (λ (p : Provided Module). owning_module p.owner) o))
      (provider-first tree kernel x)
      ∙ owner-go kernel.known found
      ∙ ap (option_and_then (λ (i : Item). i.place)) (sym (items-found tree kernel x))

  answer-go : (known : Bool) (o : Option (Provided Module))
      → answer tree (option_or o (of_unknown (record kernel { known = known }) x))
      ≡ option_map_or item_answer (option_map (item_of tree) o) (cond known Nobody TheKernel)
  answer-go known (Some p) = by p.owner
    where
      by : (o : Owner Module)
          → owner_answer tree o
          ≡ item_answer
          (record { place = place_of_owner tree o; path = owner_path o; export = p.export })
      by ByKernel = refl
      by (ByModule m) = refl
  answer-go true None = refl
  answer-go false None = refl

  pub answer-is : answer tree (provider tree kernel x)
      ≡ option_map_or item_answer (find (is_named x) (items tree kernel))
      (cond kernel.known Nobody TheKernel)
  unfolding found
  answer-is
      = ap (answer tree) (provider-first tree kernel x) ∙ answer-go kernel.known found
      ∙ ap (λ o. option_map_or item_answer o (cond kernel.known Nobody TheKernel))
      (sym (items-found tree kernel x))
