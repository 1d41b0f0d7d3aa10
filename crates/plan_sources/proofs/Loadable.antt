-- Where modules.unmet has no line, each module can be loaded.
use Rattle.std.proofs.Common.{◌≡◌, ℕ, Bool, true, false, cond, List, [], ◌∷◌, length, filter, refl}
use Rattle.std.proofs.Common.{ap, ◌∙◌, arith}
use Rattle.std.specs.Prelude.{◌||◌, ◌&&◌, not}
use Rattle.std.specs.List.{list_any}
use Rattle.index_format.specs.Listing.{KeyValue}
use Rattle.symbol_binding.specs.declared.unbound.Unbound.{Unbound}
use Rattle.dependency_lines.specs.Modules.{path_at, line_places}
use Rattle.plan_sources.specs.Sources.{is_troubled, is_available}

none-troubled : (unmet : List Unbound) → length unmet ≡ 0 → (path : List ℕ)
    → is_troubled unmet path ≡ false
none-troubled [] none path = refl
none-troubled (line ∷ lines) none path = absurd (omega (arith, none))

any-none : (p : ℕ → Bool) → ((x : ℕ) → p x ≡ false) → (xs : List ℕ) → list_any p xs ≡ false
any-none p none [] = refl
any-none p none (x ∷ xs) = λ i. none x i || any-none p none xs i

can-load : (ms : List KeyValue) (unmet : List Unbound) → length unmet ≡ 0 → (x : ℕ)
    → is_available ms unmet x ≡ true
can-load ms unmet none x =
    λ i. not (none-troubled unmet none (path_at ms x) i)
    && not (any-none (λ y. is_troubled unmet (path_at ms y))
    (λ y. none-troubled unmet none (path_at ms y)) (line_places ms x) i)

keeps-all : (p : ℕ → Bool) → ((x : ℕ) → p x ≡ true) → (xs : List ℕ) → filter p xs ≡ xs
keeps-all p all [] = refl
keeps-all p all (x ∷ xs) =
    ap (λ b. cond b (x ∷ filter p xs) (filter p xs)) (all x)
    ∙ ap (λ ys. x ∷ ys) (keeps-all p all xs)

pub all-loadable : (ms : List KeyValue) (unmet : List Unbound) (xs : List ℕ) → length unmet ≡ 0
    → filter (is_available ms unmet) xs ≡ xs
all-loadable ms unmet xs none = keeps-all (is_available ms unmet) (can-load ms unmet none) xs
