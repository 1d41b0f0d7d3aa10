use Rattle.std.proofs.Common.{refl, sym, ap, ◌∙◌, subst, rules, ℕ, []}
use Rattle.std.proofs.lemmas.Fn.{always_returns_same}
use Rattle.index_format.specs.Map.{values_of}
use Rattle.index_format.specs.Node.{root}
use Rattle.index_format.specs.Walk.{at}
use Rattle.index_read.specs.Contents.{wild_values, by_priority as by_rising_priority}
use Rattle.index_read.proofs.PriorityLemmas.{by_priority-is}
use Rattle.index_read.specs.declared.value.Value.{Value}
use Rattle.index_read.specs.Values.{value_of, found_values, IsWild}
use Rattle.index_read.proofs.SelectLemmas.{matching_same}
use Rattle.index_read.proofs.SortLemmas.{by_priority}
use Rattle.index_read.proofs.index.Index.wild.Goals as goal

-- a value with this priority
abbrev with_priority : ℕ → Value
with_priority n = record { priority = n; text = [] }

pub returns-clause-wild : goal.returns-clause-wild
returns-clause-wild g c =
    subst (λ fs. IsWild (at c.args.self.now.nodes (root c.args.self.now.nodes)) c.args.text.now
    (found_values fs)) (sym c.from_vec.ensures)
    (record {
      unordered = found_values c.in_ok-found.found.items;
      matching = c.in_ok-found.ensures.matching;
      ordered = by_priority value_of with_priority (λ n. refl) c.in_ok-found.found.items
          c.sort_by_key.new.self.items
          (c.in_ok-sort_by_key.ensures.sorted (λ v. v.priority)
          (always_returns_same _ _ _ (λ a r q k. search rules)))
          (c.in_ok-sort_by_key.ensures.stable (λ v. v.priority)
          (always_returns_same _ _ _ (λ a r q k. search rules)));
    })

pub returns-clause-map : goal.returns-clause-map
returns-clause-map g c =
    λ m h.
    subst (λ fs. IsWild (values_of m) c.args.text.now (found_values fs)) (sym c.from_vec.ensures)
    (record {
      unordered = found_values c.in_ok-found.found.items;
      matching
          = matching_same (at c.args.self.now.nodes (root c.args.self.now.nodes)) (values_of m)
          c.args.text.now (found_values c.in_ok-found.found.items) h.values
          c.in_ok-found.ensures.matching;
      ordered = by_priority value_of with_priority (λ n. refl) c.in_ok-found.found.items
          c.sort_by_key.new.self.items
          (c.in_ok-sort_by_key.ensures.sorted (λ v. v.priority)
          (always_returns_same _ _ _ (λ a r q k. search rules)))
          (c.in_ok-sort_by_key.ensures.stable (λ v. v.priority)
          (always_returns_same _ _ _ (λ a r q k. search rules)));
    })

pub returns-clause-exact : goal.returns-clause-exact
unfolding wild_values
returns-clause-exact g c =
    let found = c.in_ok-found.found.items in
    let ordered = c.sort_by_key.new.self.items in
    ap found_values c.from_vec.ensures
    ∙ by_priority-is (found_values found) (found_values ordered)
    (by_priority value_of with_priority (λ n. refl) found ordered
    (c.in_ok-sort_by_key.ensures.sorted (λ v. v.priority)
    (always_returns_same _ _ _ (λ a r q k. search rules)))
    (c.in_ok-sort_by_key.ensures.stable (λ v. v.priority)
    (always_returns_same _ _ _ (λ a r q k. search rules))))
    ∙ ap by_rising_priority c.in_ok-found.ensures.exact
