-- The words of the commands inside a trial. They are this project's own.
use Rattle.std.specs.Prelude.{ℕ, List, [], ◌∷◌, ◌++◌, map, codes}
use Rattle.std.specs.List.{range_with_len}
use Rattle.tree_gen.specs.Trial.{name_of}

-- The words after `depmod` that index the made tree, with the versions of the kernel's exports.
unfoldable pub depmod_words : List (List ℕ)
depmod_words = codes "-b" ∷ codes "/t" ∷ codes "-E" ∷ codes "/t/Module.symvers" ∷ codes "trial" ∷ []

-- The options of the `modprobe` that loads the modules of the made tree and puts their images into
-- a folder.
unfoldable pub modprobe_options : List (List ℕ)
modprobe_options =
    codes "-a" ∷ codes "-d" ∷ codes "/t" ∷ codes "-S" ∷ codes "trial"
    ∷ codes "--system-map" ∷ codes "/t/System.map" ∷ codes "--symvers" ∷ codes "/t/Module.symvers"
    ∷ codes "--image" ∷ codes "/t/img" ∷ []

-- The words after `modprobe`: the options, and the names of this many modules in their order.
unfoldable pub modprobe_words : ℕ → List (List ℕ)
modprobe_words count = modprobe_options ++ map name_of (range_with_len 0 count)
