use Rattle.std.proofs.Common.{◌≡◌, sym, ap, subst, ◌∙◌, ◌++◌, ◌∷◌, [], nat_eq}
use Rattle.std.specs.Prelude.{All}
use Rattle.std.specs.List.{IsAmong}
use Rattle.std.specs.HashMap as hash
use Rattle.std.proofs.lemmas.List.{map-append}
use Rattle.std.proofs.lemmas.Map.Views.{All-values-PutsEntry}
use Rattle.index_nodes.specs.Places.{value_at}
use Rattle.index_read.specs.declared.met.MetValue.{MetValue}
use Rattle.index_read.specs.Met.{IsMetRun, kept, met_values}
use Rattle.index_read.proofs.MetLemmas.{runs-more, last_among}
use Rattle.index_read.proofs.met.MetValues.take.Goals as goal

pub returns-clause-runs : goal.returns-clause-runs
returns-clause-runs c =
    let b = c.args.nodes.now in
    let old = kept c.args.self.now in
    let v = value_at b c.args.at.now in
    let is : met_values c.push.new.self.items ≡ old ++ v ∷ []
    = ap met_values c.in_ok-push.ensures.items
    ∙ map-append (λ (m : MetValue). (m.priority, m.text.now)) c.args.self.now.found.items _
    ∙ (λ i. old ++ (c.priority.ensures i, c.text.ensures i) ∷ []) in
    subst (λ vs. All (IsMetRun b vs) (hash.values c.insert.new.self)) (sym is)
    (All-values-PutsEntry nat_eq (IsMetRun b (old ++ v ∷ [])) c.args.self.now.runs
    c.insert.new.self c.start.result c.run-run.result c.in_ok-insert.field-0
    c.in_ok-insert.ensures.entries
    (runs-more b old (v ∷ []) (hash.values c.args.self.now.runs) c.requires.runs)
    (record {
      run = c.run-run.ensures.run;
      among
          = subst (All (IsAmong (old ++ v ∷ []))) (sym c.run-run.ensures.values) (last_among old v);
    }))
