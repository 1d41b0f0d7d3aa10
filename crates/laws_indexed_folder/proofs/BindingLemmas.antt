-- Plans that are closed over the files of depmod.
use Rattle.std.proofs.Common.{◌∙◌}
use Rattle.provider_rel.specs.Faces.{kernel_of}
use Rattle.laws_closed_plans.proofs.BindingLemmas.{closed-plans-bind}
use Rattle.laws_indexed_folder.specs.Index.{HasLines, lines_of_map}
use Rattle.laws_indexed_folder.specs.Binding.{IndexedPlansBind}
use Rattle.laws_indexed_folder.proofs.IndexLemmas.{maps-have-lines}
use Rattle.laws_indexed_folder.proofs.MapLemmas.{files-have-lines}

pub indexed-plans-bind : IndexedPlansBind
indexed-plans-bind tree kernel dep addressed region listed plan indexed planned =
    let made : HasLines tree (kernel_of kernel) dep =
    λ i f at. indexed.map f.name ∙ files-have-lines tree (kernel_of kernel) indexed.names i f at in
    closed-plans-bind tree kernel (lines_of_map dep) addressed region listed plan
    (record {
      known = indexed.known;
      names = indexed.names;
      acyclic = indexed.acyclic;
      lines = maps-have-lines tree (kernel_of kernel) dep indexed.paths made;
    })
    planned
