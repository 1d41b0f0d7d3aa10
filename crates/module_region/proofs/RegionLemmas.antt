-- Regions that are made, by their base and size.
use Rattle.std.proofs.Common.{◌≡◌, ℕ, Bool, true, false, refl, ap}
use Rattle.std.proofs.Props.{props}
use Rattle.std.specs.Prelude.{Some, None}
use Rattle.module_region.specs.declared.region.Region.{Region}
use Rattle.module_region.specs.Regions.{IsRegion, is_region}
use Rattle.module_region.specs.RegionAt.{region-by, region_at, region_when}

-- regions of one base and one size are the same
pub IsRegion-prop : (base size : ℕ) → IsProp (IsRegion base size)
IsRegion-prop base size = Prim.hlevel props

pub with_pages : (base size : ℕ) → IsRegion base size → Region
with_pages base size pages = record { base = base; size = size; pages = pages }

made : (base size : ℕ) (answer : Bool) (is : is_region base size ≡ answer) → answer ≡ true
    → (pages : IsRegion base size)
    → region_when base size answer is ≡ Some (with_pages base size pages)
unfolding with_pages
made base size true is same pages =
    ap (λ p. Some (with_pages base size p)) (IsRegion-prop base size (region-by base size is) pages)
made base size false is same pages = cc

unmade : (base size : ℕ) (answer : Bool) (is : is_region base size ≡ answer) → answer ≡ false
    → region_when base size answer is ≡ None
unmade base size true is same = cc
unmade base size false is same = refl

-- what passes the test makes a region
pub region-made : (base size : ℕ) → is_region base size ≡ true → (pages : IsRegion base size)
    → region_at base size ≡ Some (record { base = base; size = size; pages = pages })
unfolding region_at with_pages
region-made base size is pages = made base size (is_region base size) refl is pages

-- and what fails it makes none
pub region-unmade : (base size : ℕ) → is_region base size ≡ false → region_at base size ≡ None
unfolding region_at
region-unmade base size is = unmade base size (is_region base size) refl is
