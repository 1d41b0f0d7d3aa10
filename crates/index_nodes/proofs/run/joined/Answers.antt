use Rattle.std.proofs.Common.{rules, ◌≡◌, sym, ap, ◌∙◌, ◌++◌, ◌+◌, arith, drop, ◌&&◌}
use Rattle.index_format.specs.Node.{values_in}
use Rattle.index_format.specs.Check.{whole_values}
use Rattle.index_nodes.specs.Runs.{after_values, run_values}
use Rattle.index_nodes.proofs.RunLemmas.{values_parts, after_parts, whole_parts}
use Rattle.index_nodes.proofs.run.joined.Goals as goal

pub returns-clause-run : goal.returns-clause-run
returns-clause-run c =
    let b = c.args.bytes.now in
    let first = c.args.first.now in
    let second = c.args.second.now in
    let start = drop first.start b in
    let sum : c.in_ok-count.count ≡ first.count + second.count = search rules in
    let next : drop second.start b ≡ after_values first.count start
    = ap (λ k. drop k b) c.if-second-first.false ∙ c.requires.first.end in
    record {
      some = omega (arith, sum, c.requires.first.some);
      whole
          = whole_parts first.count second.count c.in_ok-count.count start sum
          ∙ ap (λ bytes. whole_values first.count start && whole_values second.count bytes)
          (sym next)
          ∙ (λ i. c.requires.first.whole i && c.requires.second.whole i);
      within = c.requires.second.within;
      end
          = c.requires.second.end
          ∙ ap (after_values second.count) next
          ∙ sym (after_parts first.count second.count c.in_ok-count.count start sum);
    }

pub returns-clause-values : goal.returns-clause-values
returns-clause-values c =
    let b = c.args.bytes.now in
    let first = c.args.first.now in
    let second = c.args.second.now in
    let start = drop first.start b in
    let sum : c.in_ok-count.count ≡ first.count + second.count = search rules in
    let next : drop second.start b ≡ after_values first.count start
    = ap (λ k. drop k b) c.if-second-first.false ∙ c.requires.first.end in
    values_parts first.count second.count c.in_ok-count.count start sum
    ∙ ap (λ bytes. run_values b first ++ values_in second.count bytes) (sym next)
