-- The files that `depmod` leaves: which there are, in which order, and what they have. depmod(8),
-- modules.dep(5).
use Rattle.std.specs.Prelude.{ℕ, Bool, List, [], ◌∷◌, codes, if◌then◌else◌}
use Rattle.std.specs.Option.{option_map_or}
use Rattle.depmod_core.specs.declared.file.OutputFile.TheVariants.{Dep, DepBin, Alias, AliasBin}
use Rattle.depmod_core.specs.declared.file.OutputFile.TheVariants.{Softdep, Symbols, SymbolsBin}
use Rattle.depmod_core.specs.declared.file.OutputFile.TheVariants.{BuiltinBin, Unmet}
use Rattle.depmod_core.specs.Files.{content as usual_content, file_name as usual_name}
use Rattle.command_depmod.specs.declared.files.DepmodFile.{DepmodFile}
use Rattle.command_depmod.specs.declared.files.DepmodFile.TheVariants.{Usual, BuiltinAliasBin}
use Rattle.command_depmod.specs.declared.files.DepmodFile.TheVariants.{Devname}
use Rattle.command_depmod.specs.declared.files.DepmodFiles.{DepmodFiles}
use Rattle.command_depmod.specs.declared.files.ExtraFiles.{ExtraFiles}

-- All files, in the order in which they are replaced: nine, and two more with `--extra`.
abbrev pub all_files : Bool → List DepmodFile
all_files extra =
    Usual Dep ∷ Usual DepBin ∷ Usual Alias ∷ Usual AliasBin ∷ Usual Softdep ∷ Usual Symbols
    ∷ Usual SymbolsBin ∷ Usual BuiltinBin ∷ Usual Unmet
    ∷ (if extra then BuiltinAliasBin ∷ Devname ∷ [] else [])

-- Those that are text, in that order.
abbrev pub text_files : Bool → List DepmodFile
text_files extra =
    Usual Dep ∷ Usual Alias ∷ Usual Softdep ∷ Usual Symbols ∷ Usual Unmet
    ∷ (if extra then Devname ∷ [] else [])

-- The name of a file, below the folder of the kernel's modules.
abbrev pub file_name : DepmodFile → List ℕ
file_name (Usual file) = usual_name file
file_name BuiltinAliasBin = codes "modules.builtin.alias.bin"
file_name Devname = codes "modules.devname"

-- The bytes of one of the files.
abbrev pub content : DepmodFiles → DepmodFile → List ℕ
content made (Usual file) = usual_content made.usual file
content made BuiltinAliasBin = option_map_or (λ (e : ExtraFiles). e.builtin_alias_bin) made.extra []
content made Devname = option_map_or (λ (e : ExtraFiles). e.devname) made.extra []
