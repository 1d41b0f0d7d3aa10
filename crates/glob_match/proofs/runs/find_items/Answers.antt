use Rattle.std.proofs.Common.{sym, subst}
use Rattle.std.specs.List.{AllByRecursion}
use Rattle.glob_match.specs.Runs.{AreItems}
use Rattle.glob_match.proofs.runs.find_items.Goals as goal

pub loop-at-init : goal.loop-at-init
loop-at-init c =
    let b = c.args.bytes.now in
    record {
      next_is = c.none-next.ensures.items b;
      next_start = c.none-next.ensures.start;
      second_is = c.none-second.ensures.items b;
      second_start = c.none-second.ensures.start;
      third_is = c.none-third.ensures.items b;
      third_start = c.none-third.ensures.start;
      all = subst (AllByRecursion (AreItems b)) (sym c.in_ok-reserve.ensures.items) c.requires;
    }
