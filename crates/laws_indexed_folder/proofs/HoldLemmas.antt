-- The file of a map stands for the map.
use Rattle.std.proofs.Common.{◌+◌, ◌<◌, ◌≤◌, ◌^◌, ℕ, List, [], ◌∷◌, length, refl, subst, inl, inr}
use Rattle.std.proofs.Common.{arith, lit<}
use Rattle.std.specs.Prelude.{All}
use Rattle.std.specs.List.{AllByRecursion}
use Rattle.index_format.specs.Listing.{KeyValue}
use Rattle.index_format.specs.File.{file}
use Rattle.index_format.specs.Holds.{Holds}
use Rattle.index_write.proofs.StorableMaps.{Fits, map-holds}
use Rattle.index_write.proofs.VisibleWords.{graphic-key}
use Rattle.module_facts.specs.declared.facts.Facts.{Facts}
use Rattle.provider_rel.specs.Tree.{IsTree, IsTreeModule}
use Rattle.stated_texts.specs.Maps.{map_of}
use Rattle.depmod_core.specs.Dependencies.{dep_map}
use Rattle.depmod_core.proofs.LineSteps.{line-text}
use Rattle.laws_closed_plans.specs.Members.{Member}
use Rattle.laws_closed_plans.proofs.UnmetLemmas.{all-member}
use Rattle.laws_indexed_folder.proofs.MapLemmas.{numbered}

-- values each of which a file can have, with its key
all-fit : (ps : List KeyValue) → ((p : KeyValue) → Member p ps → Fits p) → AllByRecursion Fits ps
all-fit [] fit = tt
all-fit (p ∷ ps) fit = (fit p (inl refl), all-fit ps (λ q in'. fit q (inr in')))

pub members-hold : (ps : List KeyValue) → ((p : KeyValue) → Member p ps → Fits p)
    → length (file (map_of ps)) ≤ 2 ^ 26 → Holds (file (map_of ps)) (map_of ps)
members-hold ps fit low = map-holds ps (all-fit ps fit) low

-- the dependency lines of a tree are such values
lines-fit : (tree : List Facts) (n : ℕ) (ms : List Facts) (cs : List (List ℕ))
    → All IsTreeModule tree → ((f : Facts) → Member f ms → IsTreeModule f) → n + length ms ≤ 2 ^ 32
    → (p : KeyValue) → Member p (numbered tree n ms cs) → Fits p
lines-fit tree n [] cs all each few p in' = absurd in'
lines-fit tree n (f ∷ ms) [] all each few p in' = absurd in'
lines-fit tree n (f ∷ ms) (c ∷ cs) all each few p (inl is) =
    let good = each f (inl refl) in
    subst Fits is (graphic-key f.name good.name, (omega (arith, few), line-text tree f c all good))
lines-fit tree n (f ∷ ms) (c ∷ cs) all each few p (inr later) =
    lines-fit tree (n + 1) ms cs all (λ g in'. each g (inr in')) (omega (arith, few)) p later

pub dep-holds : (tree : List Facts) (closures : List (List ℕ)) → IsTree tree
    → length (file (dep_map tree closures)) ≤ 2 ^ 26
    → Holds (file (dep_map tree closures)) (dep_map tree closures)
unfolding dep_map
dep-holds tree closures is_tree low =
    let few : length tree ≤ 10000 = is_tree.few in
    let small : 10000 < 2 ^ 32 = lit< tt in
    members-hold (numbered tree 0 tree closures)
    (lines-fit tree 0 tree closures is_tree.modules
    (λ f in'. all-member IsTreeModule f tree is_tree.modules in')
    (omega (arith, few, small))) low
