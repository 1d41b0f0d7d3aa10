-- The texts of refused loads, as they follow the name of the module in a line on standard error.
use Rattle.std.specs.Prelude.{ℕ, List, ◌++◌, codes}
use Rattle.std.specs.Fmt.{decimal}
use Rattle.image_layout.specs.declared.fault.LayFault.{LayFault}
use Rattle.image_layout.specs.declared.fault.LayFault.TheVariants.{Overflow as TooWide}
use Rattle.image_layout.specs.declared.fault.LayFault.TheVariants.{Memory as NoMemory}
use Rattle.load_fault.specs.declared.fault.LoadFault.{LoadFault}
use Rattle.load_fault.specs.declared.fault.LoadFault.TheVariants.{AlreadyLoaded, MissingSymbol}
use Rattle.load_fault.specs.declared.fault.LoadFault.TheVariants.{GplOnly, VersionDiffers}
use Rattle.load_fault.specs.declared.fault.LoadFault.TheVariants.{NotImported, ExportTaken}
use Rattle.load_fault.specs.declared.fault.LoadFault.TheVariants.{RegionFull, Overflow, Memory}

-- The text of a refused load.
abbrev pub load_fault_text : LoadFault → List ℕ
load_fault_text AlreadyLoaded = codes "already loaded"
load_fault_text (MissingSymbol name) = codes "missing symbol " ++ name
load_fault_text (GplOnly name) = name ++ codes " is GPL-only"
load_fault_text (VersionDiffers name) = codes "version of " ++ name ++ codes " differs"
load_fault_text (NotImported name) = codes "namespace of " ++ name ++ codes " not imported"
load_fault_text (ExportTaken name owner) = name ++ codes " is taken by " ++ owner
load_fault_text (RegionFull pages) = codes "region full, " ++ (decimal pages ++ codes " pages")
load_fault_text (Overflow section entry) =
    codes "overflow at section " ++ (decimal section ++ (codes " entry " ++ decimal entry))
load_fault_text Memory = codes "out of memory"

-- A fault of an image as one of a load.
abbrev pub load_fault_from : LayFault → LoadFault
load_fault_from (TooWide overflow) = Overflow overflow.section overflow.entry
load_fault_from NoMemory = Memory
