use Rattle.std.proofs.Common.{◌++◌, ◌+◌, drop, sym, ap, ◌∙◌, arith}
use Rattle.std.specs.Prelude.{map}
use Rattle.std.proofs.lemmas.List.Elements.{All-push, All-same}
use Rattle.km_names.specs.Path.{module_name}
use Rattle.mod_tree.specs.Shown.{referents}
use Rattle.mod_tree.specs.declared.chosen.Candidate.{Candidate}
use Rattle.mod_tree.specs.Chosen.{IsCandidate, path_of}
use Rattle.mod_tree.proofs.ChosenSteps.{path-more}
use Rattle.mod_tree.proofs.chosen.candidates.Goals as goal

pub loop-path-preserved : goal.loop-path-preserved
loop-path-preserved c =
    let l = c.loop-path in
    let words = c.args.search.now in
    let modules = c.args.modules.now in
    let path = c.path-item.result in
    let made : Candidate
    = record
    { name = c.in_ok-name.name; rank = c.rank.result; path = c.as_bytes-bytes.result }
    in
    let is : IsCandidate words made
    = record {
      name
          = c.in_ok-name.ensures ∙ c.in_ok-module_name.ensures
          ∙ ap module_name (sym c.as_bytes-bytes.ensures);
      rank_is = c.rank.ensures words c.in_ok-places.ensures;
    } in (
      ap (λ cs. map path_of cs ++ referents (drop (l.path-index + 1) modules))
          c.in_ok-push.ensures.items
          ∙ path-more l.list.items modules l.path-index path made (omega arith) c.path-item.is
          c.as_bytes-bytes.ensures
          ∙ l.invariant.0,
      All-same (IsCandidate words) c.push.new.self.items _ c.in_ok-push.ensures.items
          (All-push (IsCandidate words) l.list.items made l.invariant.1 is),
    )
