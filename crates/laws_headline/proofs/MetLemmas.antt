-- A depmod of the folder of two modules indexes it.
use Rattle.std.proofs.Common.{◌≡◌, [], None, refl, subst, inl, inr}
use Rattle.km_course.specs.Course.Outcome.{value}
use Rattle.module_facts.specs.declared.facts.Facts.{Facts}
use Rattle.stages_files.specs.KernelTable.{seen_kernel}
use Rattle.laws_closed_plans.specs.Members.{Member}
use Rattle.laws_indexed_folder.specs.Indexed.{IsModuleFile}
use Rattle.laws_indexed_folder.proofs.StandingLemmas.{files-stand}
use Rattle.laws_depmod_leaves.specs.Comes.{AreValid, HasTree, IsIndexed, built_in_info}
use Rattle.laws_depmod_leaves.proofs.ReadLemmas.{outcome-given, paths-came, valid-tree}
use Rattle.laws_headline.specs.Objects.{folder_found, found, giver_facts, giver_file, taker_facts}
use Rattle.laws_headline.specs.Objects.{taker_file}
use Rattle.laws_headline.specs.Met.{depmod_asked, indexed}
use Rattle.laws_headline.proofs.MetFiles.{made-small, related}
use Rattle.laws_headline.proofs.MetMachine.{giver-passes, giver-small, giver-states, taker-passes}
use Rattle.laws_headline.proofs.MetMachine.{taker-small, taker-states}
use Rattle.laws_headline.proofs.MetReads.{chosen, found-get, none-built_in, searched, tabled}
use Rattle.laws_headline.proofs.MetReads.{two_paths, words_of_search}

giver-is : IsModuleFile found folder_found giver_facts
giver-is =
    record {
      kind = refl;
      bytes = giver_file;
      there = found-get _;
      small = giver-small;
      passed = giver-passes;
      facts = giver-states;
    }

taker-is : IsModuleFile found folder_found taker_facts
taker-is =
    record {
      kind = refl;
      bytes = taker_file;
      there = found-get _;
      small = taker-small;
      passed = taker-passes;
      facts = taker-states;
    }

has-tree : HasTree found depmod_asked two_paths indexed.table
has-tree =
    record { search = words_of_search; searched = searched; chosen = chosen; kernel = tabled }

are-valid : AreValid found folder_found two_paths indexed.tree []
are-valid = record { split = refl; valid = valid }
  where
    valid : (f : Facts) → Member f indexed.tree → IsModuleFile found folder_found f
    valid f (inl is) = subst (IsModuleFile found folder_found) is taker-is
    valid f (inr (inl is)) = subst (IsModuleFile found folder_found) is giver-is
    valid f (inr (inr in')) = absurd in'

-- without `--extra` modules.builtin.modinfo isn't read
none-asked : built_in_info found depmod_asked ≡ value None
none-asked = outcome-given (value None) found

pub is-indexed : IsIndexed found depmod_asked indexed
is-indexed = record {
  read = record { paths = two_paths; found = has-tree; modules = are-valid };
  related = related;
  builtin = none-built_in;
  info = none-asked;
  small = made-small;
  small_extra = refl;
  stand = files-stand indexed.tree (seen_kernel indexed.table) []
      (valid-tree found folder_found two_paths indexed.tree
      (paths-came found folder_found words_of_search two_paths chosen).0 are-valid)
      made-small;
  stand_extra = λ info is. absurd (cc);
}
