use Rattle.std.proofs.Common.{◌∙◌, sym}
use Rattle.module_region.proofs.RegionLemmas.{region-unmade}
use Rattle.module_region.proofs.region.Region.new.Goals as goal

pub returns-else-is_region : goal.returns-else-is_region
returns-else-is_region c =
    sym (region-unmade c.args.base c.args.size (sym c.is_region.ensures ∙ c.if-is_region.false))
