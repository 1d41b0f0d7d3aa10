use Rattle.std.proofs.Common.{sym, subst, nat_eq}
use Rattle.std.specs.Prelude.{All}
use Rattle.std.specs.List.{IsAmong}
use Rattle.std.proofs.lemmas.List.Elements.{All-append}
use Rattle.std.proofs.lemmas.Map.Views.{All-values-PutsEntry}
use Rattle.index_nodes.specs.Runs.{run_values}
use Rattle.index_read.specs.Met.{IsMetRun, kept}
use Rattle.index_read.proofs.met.MetValues.run_from.Goals as goal

pub returns-clause-run : goal.returns-clause-run
returns-clause-run c =
    let b = c.args.nodes.now in
    let vs = kept c.args.self.now in
    let first = c.in-Some.ensures.run b c.requires.runs in
    let second = c.in-Some-met.ensures.run b c.requires.runs in
    record {
      run = c.in-Some-join.ensures.run;
      among
          = subst (All (IsAmong vs)) (sym c.in-Some-join.ensures.values)
          (All-append (IsAmong vs) (run_values b c.in-Some.run') (run_values b c.in-Some-met.next)
          first.among second.among);
    }

pub returns-clause-runs : goal.returns-clause-runs
returns-clause-runs c =
    let b = c.args.nodes.now in
    let vs = kept c.args.self.now in
    let first = c.in-Some.ensures.run b c.requires.runs in
    let second = c.in-Some-met.ensures.run b c.requires.runs in
    All-values-PutsEntry nat_eq (IsMetRun b vs) c.args.self.now.runs c.insert.new.self
    c.start-2.result c.in-Some-join.both c.in_ok-insert.field-0 c.in_ok-insert.ensures.entries
    c.requires.runs
    (record {
      run = c.in-Some-join.ensures.run;
      among
          = subst (All (IsAmong vs)) (sym c.in-Some-join.ensures.values)
          (All-append (IsAmong vs) (run_values b c.in-Some.run') (run_values b c.in-Some-met.next)
          first.among second.among);
    })
