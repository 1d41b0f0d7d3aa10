use Rattle.std.proofs.Common.{◌∙◌, List, sym, subst, arith}
use Rattle.model_loader.specs.declared.entry.Entry.{Entry}
use Rattle.model_loader.specs.Kept.{IsKept}
use Rattle.model_loader.specs.Machine.{table}
use Rattle.model_loader.proofs.SoundLemmas.{exports-new, names-new}
use Rattle.model_loader.proofs.StepLemmas.{first-alone}
use Rattle.model_loader.proofs.machine.Machine.new.Goals as goal

pub invariant_of-result : goal.invariant_of-result
unfolding table
invariant_of-result c =
    subst (λ (es : List Entry). IsKept
    (record { kernel = c.args.kernel; region = c.args.region; entries = es })
    c.in_ok-table.table) (sym c.new.ensures.items)
    (record {
      keeps = record { at = λ x. c.in_ok-table.ensures.table x ∙ sym (first-alone _) };
      names = names-new c.args.kernel c.args.region;
      exports = exports-new c.args.kernel c.args.region;
      placed = λ k d less. absurd (omega arith);
    })
