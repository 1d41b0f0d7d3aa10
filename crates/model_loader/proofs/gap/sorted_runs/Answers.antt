use Rattle.std.proofs.Common.{rules}
use Rattle.std.proofs.lemmas.List.Sorted.{IsNonDecreasingBy-from_sort_by_key}
use Rattle.model_loader.specs.declared.gap.Run.{Run}
use Rattle.model_loader.proofs.gap.sorted_runs.Goals as goal

pub returns-clause-sorted : goal.returns-clause-sorted
returns-clause-sorted c =
    IsNonDecreasingBy-from_sort_by_key (λ (r : Run). r.base) _ c.sort_unstable_by_key.ensures.sorted
    (λ a r q k. search rules)
