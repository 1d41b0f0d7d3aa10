use Rattle.std.proofs.Common.{◌≡◌, ◌<◌, ◌-◌, ◌++◌, ◌∷◌, ℕ, List, length, map, slice_index_or}
use Rattle.symbol_binding.specs.declared.unbound.Unbound.TheVariants.{Double}
use Rattle.provider_rel.specs.Sharing.{IsChain, last_of}
use Rattle.provider_rel.proofs.doubles.push_chain.Given as goal

abbrev pub invariant-chain : goal.invariant-chain
invariant-chain l =
    let line
    = λ (j : ℕ). Double l.item.export.name (slice_index_or l.items j l.item).path l.item.path in
    record {
      inside : l.at < length l.items;
      left : (js : List ℕ) → IsChain l.next l.from js
          → (rest : List ℕ) × IsChain l.next l.at rest × (last_of l.from js ≡ last_of l.at rest)
          × (l.lines ++ map line (l.at ∷ rest) ≡ l.initial.lines ++ map line (l.from ∷ js));
    }

abbrev pub decreases-chain : goal.decreases-chain
decreases-chain l = length l.items - l.at
