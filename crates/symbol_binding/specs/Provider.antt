-- Who provides a name, among a kernel and the modules of a tree, and which modules a module uses.
-- Two rules are this project's choice, since depmod(8) leaves them open. The first exporting module
-- in the order of the tree provides a name. A weak need with a module as provider is a dependency.
use Rattle.std.specs.Prelude.{ℕ, false, List, [], ◌∷◌, map, find, filter_map, Option, Some, None}
use Rattle.std.specs.Prelude.{option_map, option_and_then, if◌then◌else◌}
use Rattle.std.specs.Str.{bytes_eq}
use Rattle.km_names.specs.First.{first}
use Rattle.symbol_binding.specs.Symbols.{Export, Face, Module, Kernel}

-- The owner of an export, among modules of some kind.
pub data Owner (M : Type 0) : Type 0 where
  ByKernel : Owner M
  ByModule : M → Owner M

-- An export with its owner.
pub record Provided (M : Type 0) : Type 0 where
  pub owner : Owner M
  pub export : Export

-- The export of what is provided.
abbrev pub export_under : {M : Type 0} → Option (Provided M) → Option Export
export_under found = option_map (λ p. p.export) found

-- What this owner provides for a name, from its exports.
abbrev pub provided_by : {M : Type 0} → Owner M → List Export → List ℕ → Option (Provided M)
provided_by owner exports x =
    option_map (λ e. record { owner = owner; export = e }) (find (λ e. bytes_eq e.name x) exports)

-- What the kernel provides for a name.
abbrev pub of_kernel : {M : Type 0} → Kernel → List ℕ → Option (Provided M)
of_kernel kernel x = provided_by ByKernel kernel.exports x

-- What a module provides for a name.
abbrev pub of_one : {M : Type 0} → (M → List Export) → List ℕ → M → Option (Provided M)
of_one exports x m = provided_by (ByModule m) (exports m) x

-- What the first exporting module of a list provides for a name.
abbrev pub of_first : {M : Type 0} → (M → List Export) → List M → List ℕ → Option (Provided M)
of_first exports ms x = first (map (of_one exports x) ms)

-- The exports of a face, and of a module of a tree.
abbrev pub face_exports : Face → List Export
face_exports f = f.exports

abbrev pub module_exports : Module → List Export
module_exports m = m.face.exports

-- What a kernel that isn't known provides: any name, without a version, for all modules, in no
-- namespace.
abbrev pub of_unknown : Kernel → List ℕ → Option (Provided Module)
of_unknown kernel x =
    if kernel.known then None
    else Some (record
    { owner = ByKernel; export = record { name = x; crc = None; gpl = false; space = [] } })

-- The provider of a name: the kernel if it exports the name, else the first exporting module of the
-- tree, else the kernel if it isn't known, else nobody.
abbrev pub provider : List Module → Kernel → List ℕ → Option (Provided Module)
provider tree kernel x =
    first (of_kernel kernel x ∷ of_first module_exports tree x ∷ of_unknown kernel x ∷ [])

-- The module that owns what is provided, if one does.
abbrev pub owning_module : {M : Type 0} → Owner M → Option M
owning_module ByKernel = None
owning_module (ByModule m) = Some m

-- The modules that a module uses: the ones that provide one of its needs, weak or strong.
abbrev pub uses : List Module → Kernel → Module → List Module
uses tree kernel m =
    filter_map (λ n. option_and_then (λ p. owning_module p.owner) (provider tree kernel n.name))
    m.face.needs
