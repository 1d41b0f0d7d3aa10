use Rattle.std.proofs.Common.{◌≡◌, ◌⊎◌, Ok, Err, Some, ap, sym, subst, ◌∙◌, arith}
use Rattle.symbol_binding.specs.Symbols.{Kernel}
use Rattle.index_format.specs.Holds.{Holds}
use Rattle.unmet_file.specs.Unmet.{file_text, unmet_of}
use Rattle.provider_rel.specs.Faces.{modules_of}
use Rattle.provider_rel.specs.Seen.{IsRelation, closures_by, obstacles_by}
use Rattle.stated_texts.specs.Stated.{alias_map, symbols_map}
use Rattle.depmod_core.specs.declared.file.OutputFile.TheVariants.{Dep}
use Rattle.depmod_core.specs.declared.fault.OutputFault.TheVariants.{Memory}
use Rattle.depmod_core.specs.declared.files.OutputFiles.{OutputFiles}
use Rattle.depmod_core.specs.BuiltIn.{built_in_map}
use Rattle.depmod_core.specs.Dependencies.{dep_map}
use Rattle.depmod_core.specs.Files.{files_by, output_fault, outputs_of, StandFor}
use Rattle.depmod_core.proofs.UnmetSteps.{unmet-back}
use Rattle.depmod_core.proofs.FileSteps.{and-ok, and-err, closures_long, refused, made-all}
use Rattle.depmod_core.proofs.MakingSteps.{all-bytes, all-passed}
use Rattle.depmod_core.proofs.files.outputs.Goals as goal

pub make_each-requires : goal.make_each-requires
make_each-requires c = record {
  tree = c.requires.tree;
  stated = c.in_ok-stated.ensures;
  long = closures_long c.args.tree.now c.args.relation.now c.requires.relation;
}

pub returns-clause-ok : goal.returns-clause-ok
returns-clause-ok c =
    let tree = c.args.tree.now in
    let relation = c.args.relation.now in
    let builtin = c.args.builtin.now in
    let made = c.make_each.new.made in
    and-ok c.make_each.result made c.and.result _
    (λ files. (kernel : Kernel) → IsRelation (modules_of tree) kernel relation
    → outputs_of tree kernel builtin ≡ Ok files)
    c.and.ensures c.make_each.ensures.ok
    (λ are. made-all tree relation builtin made (all-passed are) (all-bytes are))

pub returns-clause-err : goal.returns-clause-err
unfolding output_fault
returns-clause-err c =
    let tree = c.args.tree.now in
    let relation = c.args.relation.now in
    let builtin = c.args.builtin.now in
    let by = files_by tree (closures_by relation) (obstacles_by relation) builtin in
    and-err c.make_each.result c.make_each.new.made c.and.result
    (λ fault. (fault ≡ Memory) ⊎ (output_fault by ≡ Some fault))
    (λ fault. (fault ≡ Memory)
    ⊎ ((kernel : Kernel) → IsRelation (modules_of tree) kernel relation
    → outputs_of tree kernel builtin ≡ Err fault))
    c.and.ensures c.make_each.ensures.err
    (λ fault. refused tree relation builtin fault (output_fault by ≡ Some fault) (λ is. is))

pub returns-clause-decode : goal.returns-clause-decode
unfolding files_by
returns-clause-decode c =
    let tree = c.args.tree.now in
    let relation = c.args.relation.now in
    let builtin = c.args.builtin.now in
    let made = c.make_each.new.made in
    and-ok c.make_each.result made c.and.result _
    (λ files. (kernel : Kernel) → IsRelation (modules_of tree) kernel relation
    → StandFor tree kernel builtin files)
    c.and.ensures c.make_each.ensures.ok
    (λ are kernel over.
    let is = all-bytes are in
    record {
      dep
          = subst (Holds made.dep_bin) (ap (dep_map tree) over.closures)
          (subst (λ b. Holds b (dep_map tree (closures_by relation)))
          (ap (λ (fs : OutputFiles). fs.dep_bin) (sym is)) (are.stand 1 Dep (omega arith)));
      alias
          = subst (λ b. Holds b (alias_map tree))
          (ap (λ (fs : OutputFiles). fs.alias_bin) (sym is)) (are.stand 3 Dep (omega arith));
      symbols
          = subst (λ b. Holds b (symbols_map tree))
          (ap (λ (fs : OutputFiles). fs.symbols_bin) (sym is)) (are.stand 6 Dep (omega arith));
      built_in
          = subst (λ b. Holds b (built_in_map builtin))
          (ap (λ (fs : OutputFiles). fs.builtin_bin) (sym is)) (are.stand 7 Dep (omega arith));
      lines
          = λ path. ap (λ (files : OutputFiles). unmet_of path files.unmet) is
          ∙ ap (λ lines. unmet_of path (file_text lines)) over.obstacles
          ∙ unmet-back tree kernel c.requires.tree path;
    })
