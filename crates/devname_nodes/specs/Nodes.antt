-- The device nodes that modules ask for, by their aliases. kmod's depmod, "devname"; the kernel's
-- MODULE_ALIAS_MISCDEV, MODULE_ALIAS_CHARDEV and MODULE_ALIAS_BLOCKDEV, include/linux/miscdevice.h,
-- include/linux/fs.h.
use Rattle.std.specs.Prelude.{ℕ, ◌==◌, ◌&&◌, Bool, true, false, List, map, length}
use Rattle.std.specs.Prelude.{nat_lt, Option, Some, None, option_map, option_and_then, is_some}
use Rattle.std.specs.Prelude.{if◌then◌else◌, codes, slice_index}
use Rattle.std.specs.List.{filter_map}
use Rattle.km_names.specs.Ascii.{is_graphic}
use Rattle.km_names.specs.First.{first}
use Rattle.km_names.specs.Prefix.{rest_after}
use Rattle.module_facts.specs.declared.facts.Facts.{Facts}
use Rattle.devname_nodes.specs.declared.alias.DeviceNumber.{DeviceNumber}
use Rattle.devname_nodes.specs.declared.node.Node.{Node}
use Rattle.devname_nodes.specs.Numbers.{numbers}

-- A word of visible characters, or none.
abbrev pub word : List ℕ → Option (List ℕ)
word text = if is_graphic text then Some text else None

-- The device that an alias names: the text after `devname:`, if it is a word of visible characters.
abbrev pub device_of : List ℕ → Option (List ℕ)
device_of alias = option_and_then word (rest_after (codes "devname:") alias)

-- The device number that an alias states as `char-major-M-N` or as `block-major-M-N`.
abbrev pub numbered : Bool → Option (List ℕ) → Option DeviceNumber
numbered block text =
    option_map (λ n. record { block = block; major = n.0; minor = n.1 })
    (option_and_then numbers text)

abbrev pub number_of : List ℕ → Option DeviceNumber
number_of alias =
    if is_some (rest_after (codes "char-major-") alias)
    then numbered false (rest_after (codes "char-major-") alias)
    else numbered true (rest_after (codes "block-major-") alias)

-- Whether a text begins as a comment.
abbrev pub is_comment : List ℕ → Bool
is_comment text = nat_lt 0 (length text) && slice_index text 0 == 35

-- The node of a module of this name, by its device and its number.
abbrev pub node_by : List ℕ → Option (List ℕ) → Option DeviceNumber → Option Node
node_by name device number =
    option_and_then
    (λ d. option_map
    (λ n. record
    { «module» = name; device = d; block = n.block; major = n.major; minor = n.minor })
    number) device

-- The node of a module: the first device that its aliases name, and the first number that they
-- state. A module whose name begins as a comment has none.
unfoldable pub node_of : Facts → Option Node
node_of f =
    if is_comment f.name then None
    else node_by f.name (first (map device_of f.aliases)) (first (map number_of f.aliases))

-- The nodes of the modules of a tree, in its order.
unfoldable pub nodes_of : List Facts → List Node
nodes_of tree = filter_map node_of tree
