-- The generated tree of a trial: files in memory, drawn from a seed. The tree is this project's
-- own.
use Rattle.std.specs.Prelude.{ℕ, ◌+◌, ◌-◌, ◌*◌, ◌/◌, ◌%◌, ◌^◌, ◌==◌, if◌then◌else◌, zero, suc}
use Rattle.std.specs.Prelude.{false, pos, List, [], ◌∷◌, ◌++◌, map, fold, codes, Some}
use Rattle.std.specs.List.{range_with_len}
use Rattle.std.specs.FinMap.{empty, insert}
use Rattle.elf_format.specs.declared.relocation.TheConstants.{R_X86_64_64}
use Rattle.outside_calls.specs.Contents.{Contents}
use Rattle.outside_calls.specs.MemFilesSeen.{MemFilesSeen, no_files}
use Rattle.sheet_object.specs.declared.sheet.Sheet.{Sheet}
use Rattle.sheet_object.specs.declared.sheet.SheetExport.{SheetExport}
use Rattle.sheet_object.specs.declared.sheet.SheetNeed.{SheetNeed}
use Rattle.sheet_object.specs.declared.sheet.SheetPlace.{SheetPlace}
use Rattle.sheet_object.specs.declared.sheet.SheetVersion.{SheetVersion}
use Rattle.sheet_object.specs.Object.{object_of}

-- The number after x in the sequence of draws: the linear congruential generator of Knuth's MMIX.
-- Knuth, The Art of Computer Programming, volume 2, section 3.3.4.
unfoldable pub next : ℕ → ℕ
next x = (x * 6364136223846793005 + 1442695040888963407) % 2 ^ 64

-- The number n steps after x.
abbrev pub after : ℕ → ℕ → ℕ
after zero x = x
after (suc n) x = next (after n x)

-- The number below `end` that x gives. The low bits of x repeat soon and are left out.
abbrev pub draw : ℕ → ℕ → ℕ
draw end x = (x / 2 ^ 33) % end

-- One of two equal numbers, and otherwise both.
abbrev pub without_twin : ℕ → ℕ → List ℕ
without_twin a b = if a == b then a ∷ [] else a ∷ b ∷ []

-- The modules before module i that it draws: none for the first module, and otherwise the modules
-- of the two numbers after x.
unfoldable pub drawn : ℕ → ℕ → List ℕ
drawn i x = if i == 0 then [] else without_twin (draw i (after 1 x)) (draw i (after 2 x))

-- The number that module i draws after: each module from 1 on before it has drawn twice from the
-- seed on.
abbrev pub start_of : ℕ → ℕ → ℕ
start_of seed i = after (2 * (i - 1)) seed

-- The draws of this many modules from the seed, from module 0 on.
abbrev pub drawn_from : ℕ → ℕ → List (List ℕ)
drawn_from seed count = map (λ i. drawn i (start_of seed i)) (range_with_len 0 count)

-- The last decimal digit of a number, in ASCII.
abbrev pub digit : ℕ → ℕ
digit n = 48 + n % 10

-- A number below 10,000 in four decimal digits, in ASCII.
abbrev pub four_digits : ℕ → List ℕ
four_digits n = digit (n / 1000) ∷ digit (n / 100) ∷ digit (n / 10) ∷ digit n ∷ []

-- The name of module i.
abbrev pub name_of : ℕ → List ℕ
name_of i = codes "m" ++ four_digits i

-- The name of the symbol that module i exports.
unfoldable pub symbol_name : ℕ → List ℕ
symbol_name i = codes "s" ++ four_digits i

-- The symbol that module i exports, with its version.
abbrev pub exported : ℕ → SheetVersion
exported i = record { name = symbol_name i; crc = 0x20000000 + i }

-- The symbol of the kernel that each module needs, with its version.
abbrev pub printk : SheetVersion
printk = record { name = codes "printk"; crc = 0x11111111 }

-- The symbols that a module needs, with their exporters' versions: the kernel's, and the ones of
-- the modules that it draws.
abbrev pub needed : List ℕ → List SheetVersion
needed modules = printk ∷ map exported modules

-- An export that states its version.
abbrev pub stated : SheetVersion → SheetExport
stated v = record { name = v.name; crc = Some v.crc }

-- A need that isn't weak.
abbrev pub strong : SheetVersion → SheetNeed
strong v = record { name = v.name; weak = false }

-- A word that holds the address of the symbol.
abbrev pub address : SheetVersion → SheetPlace
address v = record { kind = R_X86_64_64; symbol = v.name; addend = pos 0 }

-- The texts of module i: its license, and an alias of its own.
abbrev pub texts : ℕ → List (List ℕ)
texts i = codes "license=GPL" ∷ (codes "alias=trial:" ++ name_of i) ∷ []

-- Module i, which draws these modules: it exports one symbol, and each that it needs has a version
-- and a word.
unfoldable pub module_sheet : ℕ → List ℕ → Sheet
module_sheet i modules = record {
  texts = texts i;
  versions = needed modules;
  exports = stated (exported i) ∷ [];
  needs = map strong (needed modules);
  places = map address (needed modules);
}

-- The path of module i.
unfoldable pub module_path : ℕ → List ℕ
module_path i = codes "/t/lib/modules/trial/kernel/" ++ name_of i ++ codes ".ko"

-- The object file of module i, from the sheet with its draws from the seed.
unfoldable pub module_file : ℕ → ℕ → List ℕ
module_file seed i = object_of (module_sheet i (drawn i (start_of seed i)))

-- The kernel's exports with their versions, one line of a Module.symvers.
abbrev pub kernel_symvers : List ℕ
kernel_symvers =
    codes "0x11111111" ++ 9 ∷ codes "printk" ++ 9 ∷ codes "vmlinux" ++ 9 ∷ codes "EXPORT_SYMBOL"
    ++ 10 ∷ []

-- The kernel's addresses, one line of a System.map.
abbrev pub kernel_map : List ℕ
kernel_map = codes "ffffffff81000000 T printk" ++ 10 ∷ []

-- The two files of the kernel.
unfoldable pub kernel_contents : Contents
kernel_contents =
    insert (insert empty (codes "/t/Module.symvers") kernel_symvers) (codes "/t/System.map")
    kernel_map

-- The files with module i's.
abbrev pub with_module : ℕ → Contents → ℕ → Contents
with_module seed files i = insert files (module_path i) (module_file seed i)

-- The tree of a seed and a count: the files of the kernel, and of this many modules, from module 0
-- on.
unfoldable pub trial_contents : ℕ → ℕ → Contents
trial_contents seed count = fold (with_module seed) kernel_contents (range_with_len 0 count)

-- Files in memory with these contents: no call was made, and none is to fail.
abbrev pub unused : Contents → MemFilesSeen
unused contents = record no_files { contents = contents }

-- The tree as files in memory.
abbrev pub trial_files : ℕ → ℕ → MemFilesSeen
trial_files seed count = unused (trial_contents seed count)
