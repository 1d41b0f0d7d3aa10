use Rattle.std.proofs.Common.{◌≡◌, ◌+◌, ◌∙◌, [], Some, None, ap, arith, get_or, subst}
use Rattle.std.proofs.Common.{sym}
use Rattle.std.specs.Prelude.{slice_get}
use Rattle.std.proofs.lemmas.Option.{slice_get-get_or}
use Rattle.image_layout.proofs.LaidLemmas.{map-more}
use Rattle.name_table.specs.NameTable.{IsTableOf}
use Rattle.param_apply.specs.Naming.{kept_name, parameters_of}
use Rattle.param_apply.specs.Words.{Parameter}
use Rattle.param_apply.proofs.words.params_of_names.Goals as goal

pub loop-k-preserved : goal.loop-k-preserved
loop-k-preserved c =
    let ps = parameters_of c.args.params.now in
    let k = c.loop-k.k in
    let none : Parameter = record { name = []; at = 0; kind = None } in
    let at : slice_get ps k ≡ Some (get_or ps k none)
    = slice_get-get_or ps k none (omega (arith, c.count-k-end.ensures.count)) in
    record {
      table = λ words are.
          subst (IsTableOf c.push_param.new.table)
          (sym (map-more (kept_name words) ps k (get_or ps k none) at))
          (c.in_ok-push_param.ensures.table words _ (get_or ps k none) are at
          (c.loop-k.invariant.table words are));
      count = c.in_ok-push_param.ensures.count ∙ ap (λ n. n + 1) c.loop-k.invariant.count;
    }
