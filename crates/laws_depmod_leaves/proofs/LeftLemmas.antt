-- A depmod that puts all files of an index into the folder of its modules leaves that folder as it
-- indexed it.
use Rattle.std.proofs.Common.{◌≡◌, ◌∙◌, None, sym, ap, subst}
use Rattle.outside_calls.specs.Contents.{Contents}
use Rattle.kmod_words.specs.declared.depmod.DepmodWords.{DepmodWords}
use Rattle.symbol_binding.specs.Symbols.{Kernel as SeenKernel}
use Rattle.kernel_exports.specs.declared.kernel.Kernel.{Kernel}
use Rattle.provider_rel.specs.Faces.{kernel_of, modules_of}
use Rattle.provider_rel.specs.Relation.{relation_fault}
use Rattle.depmod_core.specs.Files.{files, output_fault}
use Rattle.stages_files.specs.KernelTable.{seen_kernel, table_of}
use Rattle.stages_loads.specs.Tables.{kernel_with}
use Rattle.command_depmod.specs.Depmod.{modules_of_request, target_of_request}
use Rattle.command_depmod.specs.declared.files.DepmodFiles.{DepmodFiles}
use Rattle.command_depmod.specs.Files.{all_files}
use Rattle.laws_indexed_folder.specs.Indexed.{AreIn, IsModuleFile}
use Rattle.laws_depmod_leaves.specs.Comes.{made_of}
use Rattle.laws_depmod_leaves.specs.Left.{DepmodLeavesIndexed, with_files}
use Rattle.laws_depmod_leaves.proofs.ReadLemmas.{kernel-came, kernel_with-known, paths-came}
use Rattle.laws_depmod_leaves.proofs.ReadLemmas.{table-same, valid-tree}
use Rattle.laws_depmod_leaves.proofs.PutLemmas.{all-there, still-module}

pub left-indexed : DepmodLeavesIndexed
left-indexed held asked i place is =
    let folder = modules_of_request asked in
    let target = target_of_request asked in
    let found = is.read.found in
    let fs : DepmodFiles = made_of i in
    let all = all_files asked.extra in
    let paths = paths-came held folder found.search is.read.paths found.chosen in
    let named = kernel-came held asked.filesyms asked.symvers i.table place.table found.kernel in
    let same : i.table ≡ table_of (kernel_with i.table) = table-same i.table named.1 in
    let over : seen_kernel i.table ≡ kernel_of (kernel_with i.table) = ap seen_kernel same in
    record {
      kernel = kernel_with i.table;
      table = same;
      indexed = record {
        is_tree = valid-tree held folder is.read.paths i.tree paths.0 is.read.modules;
        modules = λ f in'.
            subst (λ into. IsModuleFile (with_files into fs all held) folder f) (sym place.folder)
            (still-module folder asked.extra fs held f (is.read.modules.valid f in'));
        known = kernel_with-known i.table ∙ named.0;
        related = subst (λ k. relation_fault (modules_of i.tree) k ≡ None) over is.related;
        small = subst (λ k. output_fault (files i.tree k i.builtin) ≡ None) over is.small;
        made =
            subst (λ k. AreIn (with_files target fs all held) folder (files i.tree k i.builtin))
            over
            (subst (λ into. AreIn (with_files into fs all held) folder fs.usual) (sym place.folder)
            (all-there folder asked.extra fs held));
      };
    }
