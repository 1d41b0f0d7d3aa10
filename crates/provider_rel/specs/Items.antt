-- All exports, as the code lists them: the kernel's, and then each module's in the order of the
-- tree.
use Rattle.std.specs.Prelude.{ℕ, Bool, false, List, [], ◌∷◌, ◌++◌, map, filter, slice_get, Option}
use Rattle.std.specs.Prelude.{Some, None, unwrap_or, option_map, option_and_then, codes}
use Rattle.std.specs.Prelude.{if◌then◌else◌}
use Rattle.std.specs.List.{filter_map, flat_map}
use Rattle.std.specs.Option.{option_or, option_map_or}
use Rattle.std.specs.Str.{bytes_eq}
use Rattle.symbol_binding.specs.Symbols.{Export, Module, Kernel}
use Rattle.symbol_binding.specs.Provider.{Owner, ByKernel, ByModule, Provided}
use Rattle.symbol_binding.specs.Unmet.{owner_path}
use Rattle.symbol_binding.specs.declared.unbound.Unbound.{Unbound}
use Rattle.symbol_binding.specs.declared.unbound.Unbound.TheVariants.{Double}
use Rattle.name_table.specs.NameTable.{Table, place_of}
use Rattle.module_symbols.specs.declared.exports.Export.{Export as StatedExport}
use Rattle.module_symbols.specs.declared.needs.Need.{Need as StatedNeed}
use Rattle.kernel_exports.specs.declared.kernel.KernelExport.{KernelExport}
use Rattle.provider_rel.specs.declared.provider.Provider.{Provider}
use Rattle.provider_rel.specs.declared.provider.Provider.TheVariants.{Nobody, Kernel as TheKernel}
use Rattle.provider_rel.specs.declared.provider.Provider.TheVariants.{Module as TheModule}
use Rattle.provider_rel.specs.Faces.{export_of_facts, seen_export}
use Rattle.provider_rel.specs.Relation.{place}

-- All exports with their owners.
abbrev pub by_kernel : Export → Provided Module
by_kernel e = record { owner = ByKernel; export = e }

abbrev pub by_module : Module → List (Provided Module)
by_module m = map (λ e. record { owner = ByModule m; export = e }) m.face.exports

unfoldable pub all_provided : List Module → Kernel → List (Provided Module)
all_provided tree kernel = map by_kernel kernel.exports ++ flat_map by_module tree

-- An export with its owner's place, which is None for the kernel, and its owner's path.
pub record Item : Type 0 where
  pub place : Option ℕ
  pub path : List ℕ
  pub export : Export

abbrev pub place_of_owner : List Module → Owner Module → Option ℕ
place_of_owner tree ByKernel = None
place_of_owner tree (ByModule m) = Some (place tree m)

abbrev pub item_of : List Module → Provided Module → Item
item_of tree p =
    record { place = place_of_owner tree p.owner; path = owner_path p.owner; export = p.export }

-- The items of a tree over a kernel.
unfoldable pub items : List Module → Kernel → List Item
items tree kernel = map (item_of tree) (all_provided tree kernel)

-- Whether an item exports this name.
abbrev pub is_named : List ℕ → Item → Bool
is_named x i = bytes_eq i.export.name x

-- What an item states for the table of names.
abbrev pub item_name : Item → Option (List ℕ)
item_name i = Some i.export.name

-- The export that is seen under a name if this was found. A kernel that isn't known exports every
-- name.
abbrev pub seen_under : Bool → List ℕ → Option Item → Option Export
seen_under known x found =
    option_or (option_map (λ i. i.export) found)
    (if known then None else Some (record { name = x; crc = None; gpl = false; space = [] }))

-- The path of the provider.
abbrev pub path_under : Bool → Option Item → List ℕ
path_under known found = option_map_or (λ i. i.path) found (if known then [] else codes "vmlinux")

-- The double lines of items: of each item with the earlier ones that have its name.
abbrev pub doubles_with : List Item → Item → List Unbound
doubles_with before i =
    map (λ b. Double i.export.name b.path i.path) (filter (is_named i.export.name) before)

abbrev pub item_doubles : List Item → List Item → List Unbound
item_doubles before [] = []
item_doubles before (i ∷ is) = doubles_with before i ++ item_doubles (before ++ i ∷ []) is

-- The items of a kernel's export, and of an export of the module at a place and a path.
abbrev pub kernel_item : KernelExport → Item
kernel_item e = record { place = None; path = codes "vmlinux"; export = seen_export e }

abbrev pub module_item : ℕ → List ℕ → StatedExport → Item
module_item at path e = record { place = Some at; path = path; export = export_of_facts e }

-- The place that a table of names has for each need.
abbrev pub bound_of : Table → List StatedNeed → List (Option ℕ)
bound_of names needs = map (λ (n : StatedNeed). place_of names n.name) needs

-- The item at a place, if there is one.
abbrev pub item_under : List Item → Option ℕ → Option Item
item_under is at = option_and_then (slice_get is) at

-- The place of the module that owns the item at a place, if a module does.
abbrev pub owner_under : List Item → Option ℕ → Option ℕ
owner_under is at = option_and_then (λ (i : Item). i.place) (item_under is at)

-- The places of the modules among the items that needs are bound to.
abbrev pub used_places : List Item → List (Option ℕ) → List ℕ
used_places is bound = filter_map (owner_under is) bound

-- The answer at a place of the owners of all items.
abbrev pub answer_at : Bool → List Provider → Option ℕ → Provider
answer_at known owners at =
    unwrap_or (option_and_then (slice_get owners) at) (if known then Nobody else TheKernel)

-- An item's owner as an answer.
abbrev pub item_answer : Item → Provider
item_answer i = option_map_or (λ at. TheModule (record { 0 = at })) i.place TheKernel
