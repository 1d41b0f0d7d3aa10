use Rattle.export_table.proofs.TableLemmas.{forgot}
use Rattle.export_table.proofs.standing.ExportTable.forget.Goals as goal

pub returns : goal.returns
returns c =
    λ x. forgot c.args.self.now.standings.entries c.swap_remove.new.self.entries c.args.name.now x
    c.swap_remove.ensures.updates.0
