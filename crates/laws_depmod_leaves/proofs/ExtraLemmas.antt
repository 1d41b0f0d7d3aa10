-- What the two files of `depmod --extra` stand for.
use Rattle.std.proofs.Common.{◌≡◌, ◌≤◌, ℕ, Bool, true, false, cond, List, [], ◌∷◌, length, refl}
use Rattle.std.proofs.Common.{subst, arith}
use Rattle.std.specs.Prelude.{Option, Some, None, nat_lt, codes}
use Rattle.std.specs.FinMap.{get}
use Rattle.std.proofs.lemmas.Bool.{ltb-false}
use Rattle.std.proofs.lemmas.List.Elements.{All-weaker}
use Rattle.km_names.specs.Ascii.{is_graphic}
use Rattle.km_names.specs.Limit.{file_limit}
use Rattle.km_names.specs.Path.{path_below}
use Rattle.outside_calls.specs.Contents.{Contents}
use Rattle.km_course.specs.Course.{Outcome, read_outcome, reads_any}
use Rattle.km_course.specs.Course.Outcome.{value, end}
use Rattle.km_course.specs.declared.end.End.TheVariants.{TooLarge}
use Rattle.km_course.specs.declared.refusal.Refusal.{Refusal}
use Rattle.km_course.specs.declared.refusal.Refusal.TheVariants.{OutputTooLarge}
use Rattle.kmod_words.specs.declared.depmod.DepmodWords.{DepmodWords}
use Rattle.module_facts.specs.declared.facts.Facts.{Facts}
use Rattle.provider_rel.specs.Tree.{IsTree, IsTreeModule}
use Rattle.builtin_index.proofs.Held.{held as held-file}
use Rattle.devname_nodes.proofs.WrittenSteps.{read-back}
use Rattle.command_depmod.specs.declared.files.DepmodFile.{DepmodFile}
use Rattle.command_depmod.specs.declared.files.DepmodFile.TheVariants.{BuiltinAliasBin, Devname}
use Rattle.command_depmod.specs.declared.files.ExtraFiles.{ExtraFiles}
use Rattle.command_depmod.specs.Depmod.{modules_of_request}
use Rattle.command_depmod.specs.Extra.{extra_files, extra_made, extra_refusal, reads_info}
use Rattle.command_depmod.specs.Extra.{size_refusal}
use Rattle.command_depmod.specs.Files.{file_name}
use Rattle.command_depmod.proofs.ExtraSteps.{info_given}
use Rattle.laws_closed_plans.proofs.ListLemmas.{first-none}
use Rattle.laws_planned_loads.proofs.KnownLemmas.{given-came, read-came}
use Rattle.laws_planned_loads.proofs.RunLemmas.{reads-file, reads-on}
use Rattle.laws_depmod_leaves.specs.Comes.{ExtraStand, built_in_info}

-- a file that was read, or counts as empty, is no longer than files may be
read-small : (path bytes : List ℕ) (found : Option (List ℕ))
    → read_outcome (value []) path found ≡ value bytes → length bytes ≤ file_limit
read-small path bytes None came =
    let same : [] ≡ bytes = cc in subst (λ b. length b ≤ file_limit) same (omega arith)
read-small path bytes (Some there) came = by_size (nat_lt file_limit (length there)) refl came
  where
    by_size : (b : Bool) → nat_lt file_limit (length there) ≡ b
        → cond b (end (TooLarge path)) (value there) ≡ value bytes → length bytes ≤ file_limit
    by_size true large is = cc
    by_size false small is =
        let same : there ≡ bytes = cc in
        subst (λ bs. length bs ≤ file_limit) same (ltb-false file_limit (length there) small)

some-same : (a b : List ℕ) → ◌≡◌ {A = Outcome (Option (List ℕ))} (value (Some a)) (value (Some b))
    → a ≡ b
some-same a b is = cc

info-small : (extra : Bool) (folder : List ℕ) (files : Contents) (bytes : List ℕ)
    → ((reads_info extra folder).run files).outcome ≡ value (Some bytes) → length bytes ≤ file_limit
info-small true folder files bytes came =
    let path = path_below folder (codes "modules.builtin.modinfo") in
    let h
    = reads-on (reads_any path) info_given files (Some bytes) (reads-file (value []) path) came
    in
    let small = read-small path h.0 (get files path) (read-came (value []) path files h.0 h.1) in
    subst (λ b. length b ≤ file_limit)
    (some-same h.0 bytes (given-came (value (Some h.0)) (Some bytes) files h.2)) small
info-small false folder files bytes came =
    let none : ◌≡◌ {A = Outcome (Option (List ℕ))} (value None) (value (Some bytes))
    = given-came (value None) (Some bytes) files came in
    absurd (cc)

sized : (file : DepmodFile) (bytes : List ℕ) → size_refusal file bytes ≡ None
    → length bytes ≤ file_limit
sized file bytes passed = by_size (nat_lt file_limit (length bytes)) refl passed
  where
    by_size : (b : Bool) → nat_lt file_limit (length bytes) ≡ b
        → cond b (Some (OutputTooLarge (file_name file))) None ≡ None → length bytes ≤ file_limit
    by_size true large is = absurd (cc)
    by_size false small is = ltb-false file_limit (length bytes) small

-- neither of the two is longer than files may be
pub both-small : (made : ExtraFiles) → extra_refusal (Some made) ≡ None
    → (length made.builtin_alias_bin ≤ file_limit) × (length made.devname ≤ file_limit)
both-small made passed =
    let first
    = first-none (size_refusal BuiltinAliasBin made.builtin_alias_bin)
    (size_refusal Devname made.devname ∷ []) passed in
    let second = first-none (size_refusal Devname made.devname) [] first.1 in
    (sized BuiltinAliasBin made.builtin_alias_bin first.0, sized Devname made.devname second.0)

pub extra-stand : (held : Contents) (asked : DepmodWords) (tree : List Facts)
    (info : Option (List ℕ)) (bytes : List ℕ)
    → IsTree tree → built_in_info held asked ≡ value info
    → extra_refusal (extra_made tree info) ≡ None → info ≡ Some bytes
    → ExtraStand tree bytes (extra_files tree bytes)
extra-stand held asked tree info bytes known came passed is =
    let made : ExtraFiles = extra_files tree bytes in
    let small : extra_refusal (Some made) ≡ None
    = subst (λ o. extra_refusal (extra_made tree o) ≡ None) is passed in
    let read
    = info-small asked.extra (modules_of_request asked) held bytes
    (subst (λ o. built_in_info held asked ≡ value o) is came) in
    record {
      aliases = held-file bytes read (both-small made small).0;
      nodes
          = λ path. read-back path tree
          (All-weaker IsTreeModule (λ (f : Facts). is_graphic f.name ≡ true) (λ f m. m.name)
          tree known.modules);
    }
