-- The lines of modules.unmet: the obstacles to loading modules of a tree. This file of depmod is
-- this project's own. depmod(8) warns of missing symbols and other versions with `-e`.
use Rattle.std.specs.Prelude.{ℕ, ◌&&◌, ◌||◌, Bool, false, List, [], ◌∷◌, ◌++◌, length, take}
use Rattle.std.specs.Prelude.{slice_get, map, filter, flat_map, codes, Option, is_some}
use Rattle.std.specs.Prelude.{if◌then◌else◌}
use Rattle.std.specs.List.{range_with_len}
use Rattle.std.specs.Option.{option_map_or}
use Rattle.std.specs.Str.{bytes_eq}
use Rattle.symbol_binding.specs.Symbols.{Module, Kernel}
use Rattle.symbol_binding.specs.Provider.{Owner, ByKernel, ByModule, Provided, export_under}
use Rattle.symbol_binding.specs.Provider.{of_kernel, of_one, module_exports, provider}
use Rattle.symbol_binding.specs.Needs.{NeedTest, is_missing, is_hidden, is_other_version, is_barred}
use Rattle.symbol_binding.specs.declared.unbound.Unbound.{Unbound}
use Rattle.symbol_binding.specs.declared.unbound.Unbound.TheVariants.{Missing, Gpl, Version}
use Rattle.symbol_binding.specs.declared.unbound.Unbound.TheVariants.{Namespace, Double}

-- The kernel's path in a line.
abbrev pub vmlinux : List ℕ
vmlinux = codes "vmlinux"

-- The path of an owner in a line.
abbrev pub owner_path : Owner Module → List ℕ
owner_path ByKernel = vmlinux
owner_path (ByModule m) = m.path

-- The path of the provider, which is empty if there is none.
abbrev pub provider_path : Option (Provided Module) → List ℕ
provider_path found = option_map_or (λ p. owner_path p.owner) found []

-- The lines of one kind of one module: one for each need that the test finds, in order.
abbrev pub lines_of : NeedTest → (List ℕ → List ℕ → List ℕ → Unbound) → List Module → Kernel
    → Module → List Unbound
lines_of test line tree kernel m =
    map (λ n. line m.path n.name (provider_path (provider tree kernel n.name)))
    (filter (λ n. test (export_under (provider tree kernel n.name)) m.face n) m.face.needs)

-- The lines of one kind: module by module in tree order.
abbrev pub lines : NeedTest → (List ℕ → List ℕ → List ℕ → Unbound) → List Module → Kernel
    → List Unbound
lines test line tree kernel = flat_map (lines_of test line tree kernel) tree

-- The paths of the exporters of a name before a module: the kernel, then modules.
abbrev pub exporters : Kernel → List Module → List ℕ → List (List ℕ)
exporters kernel earlier x =
    (if is_some (of_kernel {M = Module} kernel x) then vmlinux ∷ [] else [])
    ++ map (λ p. p.path) (filter (λ p. is_some (of_one module_exports x p)) earlier)

-- The double lines of a module over these earlier exporters: export by export, in order.
abbrev pub doubles_of : Kernel → List Module → Module → List Unbound
doubles_of kernel earlier m =
    flat_map (λ e. map (λ path. Double e.name path m.path) (exporters kernel earlier e.name))
    m.face.exports

-- The double lines of the module at a place of a tree.
abbrev pub doubles_at : Kernel → List Module → ℕ → List Unbound
doubles_at kernel tree i = option_map_or (doubles_of kernel (take i tree)) (slice_get tree i) []

-- The double lines of a tree: module by module in tree order.
abbrev pub doubles : Kernel → List Module → List Unbound
doubles kernel tree = flat_map (doubles_at kernel tree) (range_with_len 0 (length tree))

-- All lines of a tree over a kernel: five kinds, one after the other.
unfoldable pub unmet : List Module → Kernel → List Unbound
unmet tree kernel =
    lines is_missing (λ m x by. Missing m x) tree kernel
    ++ lines is_hidden Gpl tree kernel
    ++ lines is_other_version Version tree kernel
    ++ lines is_barred Namespace tree kernel
    ++ doubles kernel tree

-- Whether the line is about a need of the module at this path.
abbrev pub belongs : List ℕ → Unbound → Bool
belongs path (Missing m x) = bytes_eq m path
belongs path (Gpl m x by) = bytes_eq m path
belongs path (Version m x by) = bytes_eq m path
belongs path (Namespace m x by) = bytes_eq m path
belongs path (Double x a b) = false

-- Whether a double line is an obstacle to a plan: one of its paths is planned, and both are there.
abbrev pub collides : (List ℕ → Bool) → (List ℕ → Bool) → Unbound → Bool
collides there planned (Double x a b) = (planned a || planned b) && there a && there b
collides there planned line = false
