-- The first bad line, if lines that begin well come before one that doesn't.
use Rattle.std.proofs.Common.{◌≡◌, ℕ, Bool, false, List, ◌∷◌, ◌++◌, Option, Some, None, cond, refl}
use Rattle.std.proofs.Common.{ap, ◌∙◌}
use Rattle.std.specs.Prelude.{◌&&◌, ◌==◌, not}
use Rattle.std.specs.List.{after_first, find}
use Rattle.std.specs.Option.{option_map}
use Rattle.index_format.specs.Listing.{KeyValue}
use Rattle.dependency_lines.specs.GoodPaths.{are_good_needs, begins_line}
use Rattle.dependency_lines.specs.Modules.{bad_among, is_line_of}
use Rattle.dependency_lines.proofs.Finds.{before-others, behind-none, option-none}
use Rattle.dependency_lines.proofs.Lines.{line-begins}

module _ (has : List ℕ → Bool) where
  abbrev is_bad : KeyValue → Bool
  is_bad m = not (is_line_of has m.0 m.1.1)

  abbrev name_of : KeyValue → List ℕ
  name_of m = m.0

  -- a bad line before
  pub bad-before : {F : Type 0} (f : List ℕ → F) (ms more : List KeyValue) (fault : F)
      → option_map f (bad_among has ms) ≡ Some fault
      → option_map f (bad_among has (ms ++ more)) ≡ Some fault
  bad-before {F} f ms more fault e = go (find is_bad ms) refl e
    where
      go : (o : Option KeyValue) → find is_bad ms ≡ o
          → option_map f (option_map name_of o) ≡ Some fault
          → option_map f (bad_among has (ms ++ more)) ≡ Some fault
      go None is e = absurd (let bad = e in cc)
      go (Some m) is e
          = ap (λ o. option_map f (option_map name_of o)) (before-others is_bad ms more m is) ∙ e

  -- or else the one that doesn't begin well
  pub bad-here : (ms more : List KeyValue) (m : KeyValue) → bad_among has ms ≡ None
      → begins_line m.0 m.1.1 ≡ false → bad_among has (ms ++ m ∷ more) ≡ Some m.0
  bad-here ms more m none begins =
      ap (option_map name_of)
      (behind-none is_bad ms (m ∷ more) (option-none name_of (find is_bad ms) none))
      ∙ ap (λ b. option_map name_of (cond (not b) (Some m) (find is_bad more)))
      (line-begins has m.0 m.1.1
      ∙ ap (λ b. b && are_good_needs has (after_first (λ b. b == 58) m.1.1)) begins)
