-- The double lines of a tree, a module at a time.
use Rattle.std.proofs.Common.{◌≡◌, ◌+◌, List, [], ◌∷◌, ◌++◌, length, take, refl, sym, ap, ◌∙◌}
use Rattle.std.proofs.Common.{append_assoc, arith}
use Rattle.std.specs.Prelude.{slice_get, flat_map, Some}
use Rattle.std.specs.List.{range_with_len}
use Rattle.std.specs.Option.{option_map_or}
use Rattle.symbol_binding.specs.Symbols.{Module, Kernel}
use Rattle.symbol_binding.specs.Unmet.{doubles_of, doubles_at, doubles}
use Rattle.symbol_binding.specs.declared.unbound.Unbound.{Unbound}

-- The double lines of the modules of a list that has others before it.
abbrev pub doubles_after : Kernel → List Module → List Module → List Unbound
doubles_after kernel earlier [] = []
doubles_after kernel earlier (m ∷ ms) =
    doubles_of kernel earlier m ++ doubles_after kernel (earlier ++ m ∷ []) ms

-- what stands in the middle, and before it
at-middle : (front : List Module) (m : Module) (back : List Module)
    → slice_get (front ++ m ∷ back) (length front) ≡ Some m
at-middle [] m back = refl
at-middle (x ∷ xs) m back = at-middle xs m back

front-of : (front back : List Module) → take (length front) (front ++ back) ≡ front
front-of [] back = refl
front-of (x ∷ xs) back = ap (λ l. x ∷ l) (front-of xs back)

one-more : (front : List Module) (m : Module) → length (front ++ m ∷ []) ≡ length front + 1
one-more [] m = refl
one-more (x ∷ xs) m = let e = one-more xs m in omega (arith, e)

-- those of a list in a tree
pub doubles-from : (kernel : Kernel) (front back : List Module)
    → flat_map (doubles_at kernel (front ++ back)) (range_with_len (length front) (length back))
    ≡ doubles_after kernel front back
doubles-from kernel front [] = refl
doubles-from kernel front (m ∷ ms) =
    ap (λ o. option_map_or (doubles_of kernel (take (length front) (front ++ m ∷ ms))) o []
    ++ flat_map (doubles_at kernel (front ++ m ∷ ms))
    (range_with_len (length front + 1) (length ms))) (at-middle front m ms)
    ∙ ap (λ l. doubles_of kernel l m
    ++ flat_map (doubles_at kernel (front ++ m ∷ ms))
    (range_with_len (length front + 1) (length ms))) (front-of front (m ∷ ms))
    ∙ ap (λ n. doubles_of kernel front m
    ++ flat_map (doubles_at kernel (front ++ m ∷ ms)) (range_with_len n (length ms)))
    (sym (one-more front m))
    ∙ ap (λ l. doubles_of kernel front m
    ++ flat_map (doubles_at kernel l) (range_with_len (length (front ++ m ∷ [])) (length ms)))
    (sym (append_assoc front (m ∷ []) ms))
    ∙ ap (λ l. doubles_of kernel front m ++ l) (doubles-from kernel (front ++ m ∷ []) ms)

-- those of a tree
pub doubles-are : (kernel : Kernel) (tree : List Module)
    → doubles kernel tree ≡ doubles_after kernel [] tree
doubles-are kernel tree = doubles-from kernel [] tree
