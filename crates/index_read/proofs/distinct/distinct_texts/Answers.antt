use Rattle.std.proofs.Common.{◌≡◌, refl, sym, ap, subst, ◌∙◌, map, rules, arith, ℕ, List, [], ◌∷◌}
use Rattle.std.proofs.Common.{length}
use Rattle.std.specs.Prelude.{IfOk}
use Rattle.std.specs.FinMap.{entries}
use Rattle.std.specs.List.Sorted.{IsSortedByKey, IsStableByKey}
use Rattle.std.specs.Ordering.{nat_cmp}
use Rattle.std.proofs.lemmas.Fn.{always_returns_same}
use Rattle.std.proofs.lemmas.List.{nil_from_length}
use Rattle.std.proofs.lemmas.List.Sorted.{length_permutation}
use Rattle.index_format.specs.Map.{Value}
use Rattle.index_format.specs.Listing.{IsByPriority}
use Rattle.name_table.specs.FirstSeen.{first_seen}
use Rattle.index_read.specs.Contents.{contents, values_matching, wild_values}
use Rattle.index_read.specs.Contents.{by_priority as by_rising}
use Rattle.index_read.specs.declared.met.MetValue.{MetValue}
use Rattle.index_read.specs.Met.{met_values}
use Rattle.index_read.proofs.MetLemmas.{stand_names}
use Rattle.index_read.proofs.PriorityLemmas.{by_priority-is}
use Rattle.index_read.proofs.SortLemmas.{by_priority}
use Rattle.index_read.proofs.distinct.distinct_texts.Goals as goal

-- A value with another priority.
abbrev with_priority : MetValue → ℕ → MetValue
with_priority m n = record { priority = n; text = m.text }

ordered : (before after : List MetValue) → length after ≡ length before
    → IsSortedByKey (λ (m : MetValue). m.priority) nat_cmp after
    → IsStableByKey (λ (m : MetValue). m.priority) nat_cmp before after
    → IsByPriority (met_values before) (met_values after)
ordered [] after size up still =
    subst (λ vs. IsByPriority [] (met_values vs)) (sym (nil_from_length after size))
    (record { rises = λ k d low high. absurd (omega (arith, high)); stable = λ x. refl })
ordered (m ∷ ms) after size up still =
    by_priority (λ (m : MetValue). (m.priority, m.text.now)) (with_priority m) (λ n. refl) (m ∷ ms)
    after up still

pub returns : goal.returns
unfolding wild_values
returns c =
    let met = c.in_ok-met.met.found.items in
    let sorted = c.sort_by_key.new.self.items in
    let all = values_matching (entries (contents c.args.index.now.nodes)) c.args.text.now in
    let rising : met_values sorted ≡ by_rising (met_values met)
    = by_priority-is (met_values met) (met_values sorted)
    (ordered met sorted (length_permutation met sorted c.in_ok-sort_by_key.ensures.permutation)
    (c.in_ok-sort_by_key.ensures.sorted (λ (m : MetValue). m.priority)
    (always_returns_same _ _ _ (λ a r q k. search rules)))
    (c.in_ok-sort_by_key.ensures.stable (λ (m : MetValue). m.priority)
    (always_returns_same _ _ _ (λ a r q k. search rules)))) in
    subst (λ names. IfOk c.set_of.result (λ set. set ≡ names))
    (ap (λ vs. first_seen (map (λ (v : Value). v.1) (met_values vs))) c.deref.ensures.value
    ∙ ap (λ vs. first_seen (map (λ (v : Value). v.1) vs)) rising
    ∙ stand_names (met_values met) all c.in_ok-met.ensures) c.set_of.ensures
