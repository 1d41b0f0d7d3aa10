use Rattle.std.proofs.Common.{rules, ◌≡◌, sym, ap, ◌∙◌, ◌+◌, ◌-◌, [], ◌∷◌, arith, drop, length}
use Rattle.std.proofs.lemmas.Bool.{and_parts}
use Rattle.index_format.specs.Node.{text, values_in}
use Rattle.index_format.proofs.BigEndian.{be-at}
use Rattle.index_nodes.proofs.ReadLemmas.{place_parts, after_value, values-step}
use Rattle.index_nodes.specs.Runs.{after_values}
use Rattle.index_nodes.proofs.RunLemmas.{whole_parts}
use Rattle.index_nodes.proofs.run.run_at.Goals as goal

pub overflow_add-result : goal.overflow_add-result
overflow_add-result c =
    let four = (place_parts c.args.bytes.now c.args.at.now c.requires).four in search rules

pub returns-clause-run : goal.returns-clause-run
unfolding after_values
returns-clause-run c =
    let b = c.args.bytes.now in
    let at = c.args.at.now in
    let sum : at.left ≡ 1 + (at.left - 1) = omega (arith, c.requires.place.some) in
    record {
      some = omega arith;
      whole
          = (and_parts _ _
          (sym (whole_parts 1 (at.left - 1) at.left (drop at.start b) sum)
          ∙ c.requires.place.whole)).0;
      within = c.text_at.ensures.within;
      end
          = ap (λ n. drop (at.start + 4 + n + 1) b) (ap length c.text_at.ensures.text)
          ∙ sym (after_value b at.start);
    }

pub returns-clause-values : goal.returns-clause-values
unfolding values_in
returns-clause-values c =
    let b = c.args.bytes.now in
    let at = c.args.at.now in
    values-step b at.start 0
    ∙ ap (λ n. (n, text (drop (at.start + 4) b)) ∷ [])
    (be-at b at.start 4 ∙ sym c.requires.priority)
