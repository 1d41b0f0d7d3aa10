-- The files of depmod stand for what they are made of.
use Rattle.std.proofs.Common.{◌≡◌, ◌+◌, ◌<◌, ◌≤◌, ◌^◌, ℕ, Bool, true, false, cond, List, [], ◌∷◌}
use Rattle.std.proofs.Common.{◌++◌, codes, length, map, filter, flat_map, Option, Some, None}
use Rattle.std.proofs.Common.{option_map, is_some, refl, subst, inl, inr, arith, lit<}
use Rattle.std.specs.List.{cons_option, enumerate_from, filter_map, list_all}
use Rattle.std.proofs.lemmas.List.Elements.{All-nil}
use Rattle.km_names.specs.Ascii.{is_graphic}
use Rattle.km_names.specs.AliasForm.{normal_alias}
use Rattle.km_names.specs.Lines.{lines_of}
use Rattle.km_names.specs.Path.{module_name}
use Rattle.index_format.specs.Map.{IsText}
use Rattle.index_format.specs.Listing.{KeyValue}
use Rattle.index_format.specs.File.{file}
use Rattle.index_format.specs.Holds.{Holds}
use Rattle.index_write.proofs.StorableMaps.{Fits}
use Rattle.index_write.proofs.VisibleWords.{both, characters, graphic-key, graphic-text, key-of}
use Rattle.index_write.proofs.VisibleWords.{normal-key}
use Rattle.module_symbols.specs.declared.exports.Export.{Export}
use Rattle.module_facts.specs.declared.facts.Facts.{Facts}
use Rattle.provider_rel.specs.Faces.{modules_of}
use Rattle.provider_rel.specs.Relation.{dependencies}
use Rattle.provider_rel.specs.Tree.{IsTree, IsTreeModule}
use Rattle.stated_texts.specs.Stated.{alias_map, alias_values, is_usable_alias, symbol_values}
use Rattle.stated_texts.specs.Stated.{symbols_map}
use Rattle.depmod_core.specs.declared.file.OutputFile.{OutputFile}
use Rattle.depmod_core.specs.declared.file.OutputFile.TheVariants.{Dep, DepBin, Alias, AliasBin}
use Rattle.depmod_core.specs.declared.file.OutputFile.TheVariants.{Softdep, Symbols, SymbolsBin}
use Rattle.depmod_core.specs.declared.file.OutputFile.TheVariants.{BuiltinBin, Unmet}
use Rattle.depmod_core.specs.declared.files.OutputFiles.{OutputFiles}
use Rattle.depmod_core.specs.BuiltIn.{built_in_map, built_in_names}
use Rattle.depmod_core.specs.Files.{content, files, files_by, output_fault, size_fault}
use Rattle.depmod_core.proofs.KeySteps.{kept-passes, seen-passes}
use Rattle.depmod_core.proofs.UnmetSteps.{unmet-back}
use Rattle.laws_closed_plans.specs.Members.{Member}
use Rattle.laws_closed_plans.proofs.ListLemmas.{Member-cases, each-first}
use Rattle.laws_closed_plans.proofs.UnmetLemmas.{all-member}
use Rattle.laws_indexed_folder.specs.Standing.{FilesStand}
use Rattle.laws_indexed_folder.proofs.HoldLemmas.{dep-holds, members-hold}
use Rattle.laws_indexed_folder.proofs.IndexedLemmas.{size-passed}

-- ---- no file is too large

abbrev all_files : List OutputFile
all_files =
    Dep ∷ DepBin ∷ Alias ∷ AliasBin ∷ Softdep ∷ Symbols ∷ SymbolsBin ∷ BuiltinBin ∷ Unmet ∷ []

is-file : (name : OutputFile) → Member name all_files
is-file Dep = inl refl
is-file DepBin = inr (inl refl)
is-file Alias = inr (inr (inl refl))
is-file AliasBin = inr (inr (inr (inl refl)))
is-file Softdep = inr (inr (inr (inr (inl refl))))
is-file Symbols = inr (inr (inr (inr (inr (inl refl)))))
is-file SymbolsBin = inr (inr (inr (inr (inr (inr (inl refl))))))
is-file BuiltinBin = inr (inr (inr (inr (inr (inr (inr (inl refl)))))))
is-file Unmet = inr (inr (inr (inr (inr (inr (inr (inr (inl refl))))))))

pub file-within : (made : OutputFiles) → output_fault made ≡ None → (name : OutputFile)
    → length (content made name) ≤ 2 ^ 26
unfolding output_fault
file-within made none name =
    size-passed name (content made name)
    (each-first (λ (other : OutputFile). size_fault other (content made other)) name all_files
    none (is-file name))

-- ---- what modules state

-- the values of a tree, where those of each module are such
all-fit : (values : ℕ × Facts → List KeyValue)
    → ((n : ℕ) (f : Facts) → n < 2 ^ 32 → IsTreeModule f → (p : KeyValue) → Member p (values (n, f))
    → Fits p)
    → (n : ℕ) (ms : List Facts) → ((f : Facts) → Member f ms → IsTreeModule f)
    → n + length ms ≤ 2 ^ 32 → (p : KeyValue) → Member p (flat_map values (enumerate_from n ms))
    → Fits p
all-fit values fit n [] each few p in' = absurd in'
all-fit values fit n (f ∷ ms) each few p in' =
    elim (Member-cases p (values (n, f)) (flat_map values (enumerate_from (n + 1) ms)) in') [
      | inl here ↦ fit n f (omega (arith, few)) (each f (inl refl)) p here
      | inr there ↦ all-fit values fit (n + 1) ms (λ g in''. each g (inr in'')) (omega (arith, few))
          p there
    ]

tree-few : (tree : List Facts) → IsTree tree → 0 + length tree ≤ 2 ^ 32
tree-few tree is_tree =
    let few : length tree ≤ 10000 = is_tree.few in
    let small : 10000 < 2 ^ 32 = lit< tt in
    omega (arith, few, small)

tree-fit : (values : ℕ × Facts → List KeyValue)
    → ((n : ℕ) (f : Facts) → n < 2 ^ 32 → IsTreeModule f → (p : KeyValue) → Member p (values (n, f))
    → Fits p)
    → (tree : List Facts) → IsTree tree → (p : KeyValue)
    → Member p (flat_map values (enumerate_from 0 tree)) → Fits p
tree-fit values fit tree is_tree =
    all-fit values fit 0 tree (λ f in'. all-member IsTreeModule f tree is_tree.modules in')
    (tree-few tree is_tree)

-- the value of a module under an alias that has a normal form
abbrev under_normal : ℕ → List ℕ → List ℕ → Option KeyValue
under_normal place name alias = option_map (λ key. (key, (place, name))) (normal_alias alias)

usable-word : (alias : List ℕ) → is_usable_alias alias ≡ true → is_graphic alias ≡ true
unfolding is_usable_alias
usable-word alias usable = (both (is_graphic alias) (is_some (normal_alias alias)) usable).0

-- the values of a module under those of some aliases that can be used
abbrev usable_values : ℕ → List ℕ → List (List ℕ) → List KeyValue
usable_values place name aliases =
    filter_map (under_normal place name) (filter is_usable_alias aliases)

form-fit : (place : ℕ) (name alias : List ℕ) (later : List KeyValue) → place < 2 ^ 32 → IsText name
    → (p : KeyValue) → (o : Option (List ℕ)) → normal_alias alias ≡ o → is_graphic alias ≡ true
    → Member p (cons_option (option_map (λ key. (key, (place, name))) o) later)
    → (Member p later → Fits p) → Fits p
form-fit place name alias later low word p None is graphic in' rest = rest in'
form-fit place name alias later low word p (Some key) is graphic (inl same) rest =
    subst Fits same (normal-key alias key graphic is, (low, word))
form-fit place name alias later low word p (Some key) is graphic (inr there) rest = rest there

use-fit : (place : ℕ) (name alias : List ℕ) (aliases : List (List ℕ)) → place < 2 ^ 32 → IsText name
    → (p : KeyValue) → (v : Bool) → is_usable_alias alias ≡ v
    → Member p (filter_map (under_normal place name)
    (cond v (alias ∷ filter is_usable_alias aliases) (filter is_usable_alias aliases)))
    → (Member p (usable_values place name aliases) → Fits p) → Fits p
use-fit place name alias aliases low word p true usable in' rest =
    form-fit place name alias (usable_values place name aliases) low word p (normal_alias alias)
    refl (usable-word alias usable) in' rest
use-fit place name alias aliases low word p false usable in' rest = rest in'

aliases-fit : (place : ℕ) (name : List ℕ) (aliases : List (List ℕ)) → place < 2 ^ 32 → IsText name
    → (p : KeyValue) → Member p (usable_values place name aliases) → Fits p
aliases-fit place name [] low word p in' = absurd in'
aliases-fit place name (alias ∷ aliases) low word p in' =
    use-fit place name alias aliases low word p (is_usable_alias alias) refl in'
    (aliases-fit place name aliases low word p)

alias-fit : (n : ℕ) (f : Facts) → n < 2 ^ 32 → IsTreeModule f → (p : KeyValue)
    → Member p (alias_values (n, f)) → Fits p
alias-fit n f low good = aliases-fit n f.name f.aliases low (graphic-text f.name good.name)

exports-fit : (place : ℕ) (name : List ℕ) (exports : List Export) → place < 2 ^ 32 → IsText name
    → ((e : Export) → Member e exports → is_graphic e.name ≡ true) → (p : KeyValue)
    → Member p (map (λ symbol. (codes "symbol:" ++ symbol, (place, name)))
    (map (λ (e : Export). e.name) exports))
    → Fits p
exports-fit place name [] low word each p in' = absurd in'
exports-fit place name (e ∷ exports) low word each p (inl is) =
    subst Fits is
    (key-of (codes "symbol:" ++ e.name) (characters e.name (each e (inl refl))), (low, word))
exports-fit place name (e ∷ exports) low word each p (inr later) =
    exports-fit place name exports low word (λ d in'. each d (inr in')) p later

symbol-fit : (n : ℕ) (f : Facts) → n < 2 ^ 32 → IsTreeModule f → (p : KeyValue)
    → Member p (symbol_values (n, f)) → Fits p
symbol-fit n f low good =
    exports-fit n f.name f.exports low (graphic-text f.name good.name)
    (λ e in'. all-member (λ (d : Export). is_graphic d.name ≡ true) e f.exports good.exports
    in')

alias-holds : (tree : List Facts) → IsTree tree → length (file (alias_map tree)) ≤ 2 ^ 26
    → Holds (file (alias_map tree)) (alias_map tree)
unfolding alias_map
alias-holds tree is_tree low =
    members-hold (flat_map alias_values (enumerate_from 0 tree))
    (tree-fit alias_values alias-fit tree is_tree) low

symbols-holds : (tree : List Facts) → IsTree tree → length (file (symbols_map tree)) ≤ 2 ^ 26
    → Holds (file (symbols_map tree)) (symbols_map tree)
unfolding symbols_map
symbols-holds tree is_tree low =
    members-hold (flat_map symbol_values (enumerate_from 0 tree))
    (tree-fit symbol_values symbol-fit tree is_tree) low

-- ---- built-in modules

abbrev built_in_value : List ℕ → KeyValue
built_in_value name = (name, (0, []))

names-fit : (names : List (List ℕ)) → list_all is_graphic names ≡ true → (p : KeyValue)
    → Member p (map built_in_value names) → Fits p
names-fit [] words p in' = absurd in'
names-fit (name ∷ names) words p (inl is) =
    let low : 0 < 2 ^ 32 = lit< tt in
    subst Fits is (
      graphic-key name (both (is_graphic name) (list_all is_graphic names) words).0,
      (low, All-nil (λ (b : ℕ). 0 < b)),
    )
names-fit (name ∷ names) words p (inr later) =
    names-fit names (both (is_graphic name) (list_all is_graphic names) words).1 p later

built-in-words : (builtin : List ℕ) → list_all is_graphic (built_in_names builtin) ≡ true
unfolding built_in_names
built-in-words builtin =
    let names = map module_name (lines_of builtin) in
    seen-passes is_graphic (filter is_graphic names) (kept-passes is_graphic names)

built-in-holds : (builtin : List ℕ) → length (file (built_in_map builtin)) ≤ 2 ^ 26
    → Holds (file (built_in_map builtin)) (built_in_map builtin)
unfolding built_in_map
built-in-holds builtin low =
    members-hold (map built_in_value (built_in_names builtin))
    (names-fit (built_in_names builtin) (built-in-words builtin)) low

-- ---- the files

pub files-stand : FilesStand
unfolding files files_by
files-stand tree kernel builtin is_tree none =
    let within = file-within (files tree kernel builtin) none in
    record {
      dep = dep-holds tree (dependencies (modules_of tree) kernel) is_tree (within DepBin);
      alias = alias-holds tree is_tree (within AliasBin);
      symbols = symbols-holds tree is_tree (within SymbolsBin);
      built_in = built-in-holds builtin (within BuiltinBin);
      lines = λ path. unmet-back tree kernel is_tree path;
    }
