-- The headline is met: a depmod of a folder with two modules, and a load of the one that uses the
-- other. depmod(8), modprobe(8); gABI 4, "Relocation".
use Rattle.std.proofs.Common.{refl}
use Rattle.std.specs.Prelude.{◌≡◌, true, false, List, [], ◌∷◌, map, codes, Some, None, Ok}
use Rattle.km_names.specs.Number.{le}
use Rattle.outside_calls.specs.Contents.{Contents}
use Rattle.kmod_words.specs.declared.depmod.DepmodWords.{DepmodWords}
use Rattle.kmod_words.specs.declared.modprobe.Mode.TheVariants.{Load}
use Rattle.kmod_words.specs.declared.modprobe.ModprobeWords.{ModprobeWords}
use Rattle.module_facts.specs.declared.module.Module.{Module}
use Rattle.module_region.specs.RegionAt.{region-by}
use Rattle.model_loader.specs.declared.entry.Entry.{Entry}
use Rattle.model_loader.specs.Machine.{Machine}
use Rattle.command_depmod.specs.Depmod.{target_of_request}
use Rattle.command_depmod.specs.Files.{all_files}
use Rattle.laws_closed_plans.specs.Loads.{load_all}
use Rattle.laws_planned_loads.specs.Courses.{Loading}
use Rattle.laws_depmod_leaves.specs.Comes.{IndexedTree, IsIndexed, made_of}
use Rattle.laws_depmod_leaves.specs.Left.{with_files}
use Rattle.laws_planned_loads.specs.Files.{AreFileModules}
use Rattle.stages_loads.specs.Loads.{paths_of}
use Rattle.kmod_cli.specs.Headline.{IsIndexedLoad, folder_asked}
use Rattle.laws_headline.specs.Objects.{found, giver_facts, taker_facts}

-- ---- what is asked for

-- A depmod of that folder, by the System.map.
abbrev pub depmod_asked : DepmodWords
depmod_asked = record {
  dry_run = false;
  errsyms = false;
  extra = false;
  basedir = [];
  outdir = [];
  config = None;
  filesyms = Some (codes "/S");
  symvers = None;
  version = codes "1";
}

-- What it indexes.
abbrev pub indexed : IndexedTree
indexed = record {
  tree = taker_facts ∷ giver_facts ∷ [];
  table = record { known = true; exports = [] };
  builtin = [];
  info = None;
}

-- What it leaves.
abbrev pub left : Contents
left = with_files (target_of_request depmod_asked) (made_of indexed) (all_files false) found

-- A modprobe of the module that uses the other, by the same System.map, into a region of 16 pages
-- from 65536 on.
abbrev pub load_asked : ModprobeWords
load_asked = record {
  mode = Load;
  all = false;
  use_blacklist = false;
  ignore_install = false;
  dirname = [];
  version = codes "1";
  config = None;
  loaded = None;
  system_map = Some (codes "/S");
  symvers = None;
  region_base = 65536;
  region_size = 65536;
  image = None;
  params = false;
  words = codes "m" ∷ [];
  pages = region-by 65536 65536 refl;
  fits = tt;
}

-- ---- the result

-- The premises of the headline hold for this load: it has a plan of both modules. In its machine
-- the module with the export is at the region's base, and the 8 bytes of data of the other are the
-- address of the export.
pub record IsMet (l : Loading) : Type 0 where
  pub stands : IsIndexedLoad left load_asked l
  pub plan : List Module
  pub files : AreFileModules left (folder_asked load_asked) (paths_of l.inserts) plan
  pub paths : paths_of l.inserts ≡ codes "p.ko" ∷ codes "m.ko" ∷ []
  pub machine : Machine
  pub loads : load_all l.listed plan ≡ Ok machine
  pub words : map (λ (e : Entry). le e.image 0 8) machine.entries ≡ 0 ∷ 65536 ∷ []

-- The headline is met.
abbrev pub HeadlineIsMet : Type 0
HeadlineIsMet = IsIndexed found depmod_asked indexed × (l : Loading) × IsMet l
