use Rattle.module_region.proofs.RegionLemmas.{region-made}
use Rattle.module_region.proofs.region.Region.of_pages.Goals as goal

pub returns : goal.returns
returns c = region-made c.args.base c.args.size c.requires.pages _
