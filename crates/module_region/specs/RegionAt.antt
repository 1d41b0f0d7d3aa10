-- The region of a base and a size.
use Rattle.std.proofs.Common.{refl, arith}
use Rattle.std.proofs.lemmas.Bool.Decides.{nat_tests}
use Rattle.std.specs.Prelude.{◌≡◌, ℕ, Bool, true, false, Option, Some, None}
use Rattle.module_region.specs.declared.region.Region.{Region}
use Rattle.module_region.specs.Regions.{IsRegion, is_region}

-- what passes the test is a region
pub region-by : (base size : ℕ) → is_region base size ≡ true → IsRegion base size
region-by base size is = record {
  begins = grind (arith, nat_tests);
  whole = grind (arith, nat_tests);
  some = grind (arith, nat_tests);
  ends = grind (arith, nat_tests);
}

-- the region of a base and a size for which the test answers this
abbrev pub region_when : (base size : ℕ) (answer : Bool) → is_region base size ≡ answer
    → Option Region
region_when base size true is =
    Some (record { base = base; size = size; pages = region-by base size is })
region_when base size false is = None

-- The region of a base and a size, if there is one.
unfoldable pub region_at : ℕ → ℕ → Option Region
region_at base size = region_when base size (is_region base size) refl
