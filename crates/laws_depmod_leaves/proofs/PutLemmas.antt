-- What is in a folder after depmod's files were put there.
use Rattle.std.proofs.Common.{◌≡◌, ◌∙◌, ◌-◌, ℕ, Bool, true, false, cond, List, [], ◌∷◌, ◌++◌}
use Rattle.std.proofs.Common.{length, take, drop, refl, sym, ap, arith}
use Rattle.std.specs.Prelude.{Some}
use Rattle.std.specs.FinMap.{get, insert, get-insert}
use Rattle.std.specs.List.{list_any}
use Rattle.std.specs.Str.{bytes_eq}
use Rattle.std.proofs.lemmas.Bool.{or_from, or_parts}
use Rattle.std.proofs.lemmas.Cmp.{nat_list_cmp_total}
use Rattle.std.proofs.lemmas.Map.Text.{is_eq-slice_cmp}
use Rattle.std.proofs.lemmas.Slice.Eq.{bytes_eq-Decides}
use Rattle.km_names.specs.Path.{is_compressed, path_below, without_end_slashes}
use Rattle.outside_calls.specs.Contents.{Contents}
use Rattle.mod_tree.specs.Tree.{is_module_path}
use Rattle.module_facts.specs.declared.facts.Facts.{Facts}
use Rattle.depmod_core.specs.declared.file.OutputFile.TheVariants.{Dep, DepBin, Alias, AliasBin}
use Rattle.depmod_core.specs.declared.file.OutputFile.TheVariants.{Softdep, Symbols, SymbolsBin}
use Rattle.depmod_core.specs.declared.file.OutputFile.TheVariants.{BuiltinBin, Unmet}
use Rattle.command_depmod.specs.declared.files.DepmodFile.{DepmodFile}
use Rattle.command_depmod.specs.declared.files.DepmodFile.TheVariants.{Usual, BuiltinAliasBin}
use Rattle.command_depmod.specs.declared.files.DepmodFile.TheVariants.{Devname}
use Rattle.command_depmod.specs.declared.files.DepmodFiles.{DepmodFiles}
use Rattle.command_depmod.specs.Files.{all_files, content, file_name}
use Rattle.laws_indexed_folder.specs.Indexed.{AreIn, HasFile, IsModuleFile}
use Rattle.laws_depmod_leaves.specs.Left.{with_files}
use Rattle.laws_planned_loads.proofs.FileLemmas.{ends-ko, false-unless, last-ko, last_of}
use Rattle.laws_planned_loads.proofs.FileLemmas.{other-file, plain-path}

-- ---- names below a folder

cancel : (front a b : List ℕ) → front ++ a ≡ front ++ b → a ≡ b
cancel [] a b is = is
cancel (x ∷ front) a b is = cancel front a b (let same : front ++ a ≡ front ++ b = cc in same)

next-same : (x : ℕ) (a b : List ℕ) → x ∷ a ≡ x ∷ b → a ≡ b
next-same x a b is = cc

below-same : (folder a b : List ℕ) → path_below folder a ≡ path_below folder b → a ≡ b
below-same folder a b is =
    next-same 47 a b (cancel (without_end_slashes folder) (47 ∷ a) (47 ∷ b) is)

true-false : (b : Bool) → b ≡ true → b ≡ false → ⊥
true-false b holds fails = let wrong : true ≡ false = sym holds ∙ fails in cc

-- the name is that of none of the files
abbrev IsNone : List ℕ → List DepmodFile → Type 0
IsNone name files = list_any (λ file. bytes_eq name (file_name file)) files ≡ false

none-parts : (name : List ℕ) (file : DepmodFile) (files : List DepmodFile)
    → IsNone name (file ∷ files) → (bytes_eq name (file_name file) ≡ false) × IsNone name files
none-parts name file files none =
    or_parts (bytes_eq name (file_name file))
    (list_any (λ other. bytes_eq name (file_name other)) files) none

other-path : (folder name : List ℕ) (file : DepmodFile) → bytes_eq name (file_name file) ≡ false
    → path_below folder name ≡ path_below folder (file_name file) → ⊥
other-path folder name file other is =
    true-false (bytes_eq name (file_name file))
    ((bytes_eq-Decides name (file_name file)).1 (below-same folder name (file_name file) is))
    other

-- ---- files that are put

-- what is there below another name stays as it was
kept : (folder : List ℕ) (made : DepmodFiles) (files : List DepmodFile) (held : Contents)
    (name : List ℕ)
    → IsNone name files
    → get (with_files folder made files held) (path_below folder name)
    ≡ get held (path_below folder name)
kept folder made [] held name none = refl
kept folder made (file ∷ files) held name none =
    let apart = none-parts name file files none in
    kept folder made files (insert held (path_below folder (file_name file)) (content made file))
    name apart.1
    ∙ other-file held (path_below folder name) (path_below folder (file_name file))
    (content made file) (other-path folder name file apart.0)

own-file : (held : Contents) (path bytes : List ℕ) → get (insert held path bytes) path ≡ Some bytes
own-file held path bytes =
    get-insert nat_list_cmp_total held path bytes path
    ∙ ap (λ b. cond b (Some bytes) (get held path))
    (is_eq-slice_cmp path path ∙ (bytes_eq-Decides path path).1 refl)

-- a file that was put is there, where none of the later ones has its name
put-there : (folder : List ℕ) (made : DepmodFiles) (before : List DepmodFile) (file : DepmodFile)
    (later : List DepmodFile) (held : Contents)
    → IsNone (file_name file) later
    → HasFile (with_files folder made (before ++ file ∷ later) held)
    (path_below folder (file_name file)) (content made file)
put-there folder made [] file later held none =
    let path = path_below folder (file_name file) in
    kept folder made later (insert held path (content made file)) (file_name file) none
    ∙ own-file held path (content made file)
put-there folder made (first ∷ before) file later held none =
    put-there folder made before file later
    (insert held (path_below folder (file_name first)) (content made first)) none

-- so all that modprobe reads are there
pub all-there : (folder : List ℕ) (extra : Bool) (made : DepmodFiles) (held : Contents)
    → AreIn (with_files folder made (all_files extra) held) folder made.usual
all-there folder true made held = record {
  dep
      = put-there folder made (take 1 (all_files true)) (Usual DepBin) (drop 2 (all_files true))
      held refl;
  alias
      = put-there folder made (take 3 (all_files true)) (Usual AliasBin) (drop 4 (all_files true))
      held refl;
  softdep
      = put-there folder made (take 4 (all_files true)) (Usual Softdep) (drop 5 (all_files true))
      held refl;
  symbols
      = put-there folder made (take 6 (all_files true)) (Usual SymbolsBin) (drop 7 (all_files true))
      held refl;
  built_in
      = put-there folder made (take 7 (all_files true)) (Usual BuiltinBin) (drop 8 (all_files true))
      held refl;
  unmet
      = put-there folder made (take 8 (all_files true)) (Usual Unmet) (drop 9 (all_files true)) held
      refl;
}
all-there folder false made held = record {
  dep
      = put-there folder made (take 1 (all_files false)) (Usual DepBin) (drop 2 (all_files false))
      held refl;
  alias
      = put-there folder made (take 3 (all_files false)) (Usual AliasBin) (drop 4 (all_files false))
      held refl;
  softdep
      = put-there folder made (take 4 (all_files false)) (Usual Softdep) (drop 5 (all_files false))
      held refl;
  symbols
      = put-there folder made (take 6 (all_files false)) (Usual SymbolsBin)
      (drop 7 (all_files false)) held refl;
  built_in
      = put-there folder made (take 7 (all_files false)) (Usual BuiltinBin)
      (drop 8 (all_files false)) held refl;
  unmet
      = put-there folder made (take 8 (all_files false)) (Usual Unmet) (drop 9 (all_files false))
      held refl;
}

-- and so are the two of `--extra`
pub aliases-there : (folder : List ℕ) (made : DepmodFiles) (held : Contents)
    → HasFile (with_files folder made (all_files true) held)
    (path_below folder (file_name BuiltinAliasBin)) (content made BuiltinAliasBin)
aliases-there folder made held =
    put-there folder made (take 9 (all_files true)) BuiltinAliasBin (Devname ∷ []) held refl

pub nodes-there : (folder : List ℕ) (made : DepmodFiles) (held : Contents)
    → HasFile (with_files folder made (all_files true) held) (path_below folder (file_name Devname))
    (content made Devname)
nodes-there folder made held = put-there folder made (take 10 (all_files true)) Devname [] held refl

-- ---- modules

-- the name of no such file ends as the path of a module does
last-other : (file : DepmodFile) → last_of (file_name file) ≡ 111 → ⊥
last-other (Usual Dep) is = absurd (omega (arith, is))
last-other (Usual DepBin) is = absurd (omega (arith, is))
last-other (Usual Alias) is = absurd (omega (arith, is))
last-other (Usual AliasBin) is = absurd (omega (arith, is))
last-other (Usual Softdep) is = absurd (omega (arith, is))
last-other (Usual Symbols) is = absurd (omega (arith, is))
last-other (Usual SymbolsBin) is = absurd (omega (arith, is))
last-other (Usual BuiltinBin) is = absurd (omega (arith, is))
last-other (Usual Unmet) is = absurd (omega (arith, is))
last-other BuiltinAliasBin is = absurd (omega (arith, is))
last-other Devname is = absurd (omega (arith, is))

module-last : (path : List ℕ) → is_module_path path ≡ true → is_compressed path ≡ false
    → last_of path ≡ 111
module-last path kind plain =
    ap last_of (ends-ko path kind plain) ∙ last-ko (take (length path - 3) path)

module-none : (path : List ℕ) (files : List DepmodFile) → last_of path ≡ 111 → IsNone path files
module-none path [] last = refl
module-none path (file ∷ files) last =
    or_from (bytes_eq path (file_name file))
    (list_any (λ other. bytes_eq path (file_name other)) files)
    (false-unless (bytes_eq path (file_name file))
    (λ is. last-other file
    (ap last_of (sym ((bytes_eq-Decides path (file_name file)).0 is)) ∙ last)))
    (module-none path files last)

-- the file of a module stays as it was
pub still-module : (folder : List ℕ) (extra : Bool) (made : DepmodFiles) (held : Contents)
    (f : Facts)
    → IsModuleFile held folder f
    → IsModuleFile (with_files folder made (all_files extra) held) folder f
still-module folder extra made held f is =
    let none
    = module-none f.path (all_files extra)
    (module-last f.path is.kind (plain-path f.path is.bytes is.passed)) in
    record {
      kind = is.kind;
      bytes = is.bytes;
      there = kept folder made (all_files extra) held f.path none ∙ is.there;
      small = is.small;
      passed = is.passed;
      facts = is.facts;
    }
