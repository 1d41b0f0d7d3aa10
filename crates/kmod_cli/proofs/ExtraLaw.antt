-- What a depmod with `--extra` that is done left, by depmod's half of the headline.
use Rattle.std.proofs.Common.{◌≡◌, ◌∙◌, ◌≤◌, ℕ, Bool, true, false, List, [], ◌∷◌, length, refl, sym}
use Rattle.std.proofs.Common.{ap, subst, inl, inr, arith}
use Rattle.std.specs.Prelude.{Option, Some, None, codes, if◌then◌else◌}
use Rattle.km_names.specs.Limit.{file_limit}
use Rattle.km_names.specs.Path.{path_below}
use Rattle.outside_calls.specs.Contents.{Contents}
use Rattle.km_course.specs.Course.{Outcome, ◌>>=◌, reads_any, gives}
use Rattle.km_course.specs.Course.Outcome.{value, end}
use Rattle.km_course.specs.World.{World, Shown, Tells}
use Rattle.kmod_words.specs.declared.depmod.DepmodWords.{DepmodWords}
use Rattle.command_depmod.specs.declared.files.DepmodFile.TheVariants.{BuiltinAliasBin, Devname}
use Rattle.command_depmod.specs.declared.files.DepmodFiles.{DepmodFiles}
use Rattle.command_depmod.specs.declared.files.ExtraFiles.{ExtraFiles}
use Rattle.command_depmod.specs.Depmod.{modules_of_request, target_of_request}
use Rattle.command_depmod.specs.Extra.{extra_files, extra_made, extra_refusal, reads_info}
use Rattle.command_depmod.specs.Files.{all_files}
use Rattle.command_depmod.proofs.ExtraSteps.{info_given}
use Rattle.laws_indexed_folder.specs.Indexed.{HasFile}
use Rattle.laws_planned_loads.proofs.KnownLemmas.{given-came}
use Rattle.laws_planned_loads.proofs.RunLemmas.{reads-file, reads-on}
use Rattle.laws_depmod_leaves.specs.Comes.{IndexedTree, IsIndexed, built_in_info, made_of}
use Rattle.laws_depmod_leaves.specs.Left.{with_files}
use Rattle.laws_depmod_leaves.proofs.ExtraLemmas.{both-small}
use Rattle.laws_depmod_leaves.proofs.PutLemmas.{aliases-there, nodes-there}
use Rattle.kmod_cli.specs.Extra.{Extra, LeavesExtra}
use Rattle.kmod_cli.specs.Indexes.{Indexes, IsIndexing}
use Rattle.kmod_cli.proofs.HalvesLaw.{IsDone, was-done}

-- the bytes of modules.builtin.modinfo that were found
info-found : (folder : List ℕ) (files : Contents) (info : Option (List ℕ))
    → ((reads_info true folder).run files).outcome ≡ value info
    → (bytes : List ℕ)
    × (((reads_any (path_below folder (codes "modules.builtin.modinfo"))).run files).outcome
    ≡ value bytes)
    × (info ≡ Some bytes)
info-found folder files info came =
    let path = path_below folder (codes "modules.builtin.modinfo") in
    let h = reads-on (reads_any path) info_given files info (reads-file (value []) path) came in
    (h.0, h.1, same-info h.0 info (given-came (value (Some h.0)) info files h.2))
  where
    same-info : (bytes : List ℕ) (info : Option (List ℕ))
        → ◌≡◌ {A = Outcome (Option (List ℕ))} (value (Some bytes)) (value info) → info ≡ Some bytes
    same-info bytes info is = cc

leaves-extra : (asked : DepmodWords) (held : Contents) (i : IndexedTree) → asked.extra ≡ true
    → IsIndexed held asked i
    → LeavesExtra asked held
    (with_files (target_of_request asked) (made_of i) (all_files asked.extra) held)
leaves-extra asked held i extra is =
    let target = target_of_request asked in
    let found
    = info-found (modules_of_request asked) held i.info
    (subst
    (λ e. ((reads_info e (modules_of_request asked)).run held).outcome ≡ value i.info)
    extra is.info) in
    let info : List ℕ = found.0 in
    let e : ExtraFiles = extra_files i.tree info in
    let stand = is.stand_extra info found.2 in
    let made : extra_made i.tree i.info ≡ Some e = ap (extra_made i.tree) found.2 in
    let small = both-small e (subst (λ o. extra_refusal o ≡ None) made is.small_extra) in
    let fs : DepmodFiles = record { usual = (made_of i).usual; extra = Some e } in
    let same : fs ≡ made_of i
    = ap (λ o. record { usual = (made_of i).usual; extra = o }) (sym made) in
    subst (λ left. LeavesExtra asked held left)
    (ap (λ f. with_files target f (all_files true) held) same
    ∙ ap (λ x. with_files target (made_of i) (all_files x) held) (sym extra))
    (record {
      info = info;
      found = found.1;
      aliases
          = record {
            bytes = e.builtin_alias_bin;
            there = aliases-there target fs held;
            small = small.0;
            holds = stand.aliases;
          };
      tree = i.tree;
      table = i.table;
      read = is.read;
      nodes
          = record {
            bytes = e.devname;
            there = nodes-there target fs held;
            small = small.1;
            reads = stand.nodes;
          };
    })

pub extra-law : (words : List (List ℕ)) (old new : World) (status : ℕ)
    → Indexes words old new status → Extra words old new status
extra-law words old new status indexes = λ shown tells asked is extra wet done.
    let h : IsIndexing asked shown old new 0
    = (subst (Indexes words old new) done indexes).understood shown tells asked is in
    let d : IsDone asked shown new = was-done asked shown old new wet h.outcome h.comes h.call in (
      with_files (target_of_request asked) (made_of d.index) (all_files asked.extra) shown.files,
      d.files,
      leaves-extra asked shown.files d.index extra d.is,
    )
