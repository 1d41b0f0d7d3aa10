-- The course of each depmod, by how far it comes.
use Rattle.std.proofs.Common.{◌≡◌, ◌∙◌, ℕ, Bool, true, false, List, [], ◌∷◌, ◌++◌, flat_map, None}
use Rattle.std.proofs.Common.{refl, sym, ap, subst, append_assoc, append-nil, inl, inr}
use Rattle.std.specs.Prelude.{Option, Some, ◌⊎◌, codes, is_some, if◌then◌else◌, ⊤}
use Rattle.km_names.specs.Path.{path_below}
use Rattle.outside_calls.specs.Contents.{Contents}
use Rattle.km_course.specs.Course.{Act, Outcome, Run, Stage, after, continued, ◌>>=◌, act_with}
use Rattle.km_course.specs.Course.{each_from, given, gives, puts, reads_any, says_any}
use Rattle.km_course.specs.Course.Act.{put, warn}
use Rattle.km_course.specs.Course.Outcome.{value, end}
use Rattle.km_course.specs.declared.end.End.{End}
use Rattle.km_course.specs.declared.end.End.TheVariants.{Refused}
use Rattle.km_course.specs.declared.refusal.Refusal.{Refusal}
use Rattle.kmod_words.specs.declared.depmod.DepmodWords.{DepmodWords}
use Rattle.module_facts.specs.declared.facts.Facts.{Facts}
use Rattle.symbol_binding.specs.Unmet.{unmet}
use Rattle.symbol_binding.specs.declared.unbound.Unbound.{Unbound}
use Rattle.provider_rel.specs.Faces.{modules_of}
use Rattle.provider_rel.specs.Relation.{relation_fault}
use Rattle.depmod_core.specs.declared.files.OutputFiles.{OutputFiles}
use Rattle.depmod_core.specs.Files.{files, output_fault}
use Rattle.stages_files.specs.KernelTable.{Table, seen_kernel}
use Rattle.command_depmod.specs.Depmod.{indexes, indexes_tree, modules_of_request, reads_related}
use Rattle.command_depmod.specs.Depmod.{target_of_request, wanted_of, warns_of_tree}
use Rattle.command_depmod.specs.declared.files.DepmodFile.{DepmodFile}
use Rattle.command_depmod.specs.declared.files.DepmodFiles.{DepmodFiles}
use Rattle.command_depmod.specs.Extra.{extra_made, extra_outcome, extra_refusal, reads_info}
use Rattle.km_course.specs.Course.{value_unless}
use Rattle.command_depmod.specs.Files.{all_files, content, file_name, text_files}
use Rattle.command_depmod.specs.Outputs.{hands_out, makes_files, outputs_outcome, puts_each}
use Rattle.command_depmod.specs.Outputs.{says_each, usual_refusal}
use Rattle.command_depmod.specs.Relation.{KernelTree}
use Rattle.command_depmod.specs.Warnings.{warning_line, warns_any, warns_each, warns_unmet}
use Rattle.command_depmod.proofs.IndexSteps.{indexed, made, warned as warned_then}
use Rattle.command_depmod.proofs.ExtraSteps.{info_given}
use Rattle.command_depmod.proofs.OutputSteps.{all_made, builtin_read, info_read, no-fault}
use Rattle.command_depmod.proofs.OutputSteps.{say_others, usual_made}
use Rattle.command_depmod.proofs.WarningSteps.{warns_others}
use Rattle.laws_indexed_folder.proofs.StandingLemmas.{files-stand}
use Rattle.laws_planned_loads.specs.Acts.{said}
use Rattle.laws_planned_loads.proofs.RunLemmas.{OnlyReads, both-read, joined, read-leaves}
use Rattle.laws_planned_loads.proofs.RunLemmas.{reads-file, reads-given, reads-then, reads-when}
use Rattle.laws_planned_loads.proofs.RunLemmas.{run-given, run-then, run_of}
use Rattle.laws_planned_loads.proofs.WholeLemmas.{lines-said}
use Rattle.laws_depmod_leaves.specs.Comes.{IndexedTree, IsEnded, IsIndexed, IsRead, built_in}
use Rattle.laws_depmod_leaves.specs.Comes.{built_in_info, extra_too_large, made_of, no_builtin}
use Rattle.laws_depmod_leaves.specs.Comes.{no_info, too_large}
use Rattle.laws_depmod_leaves.specs.Course.{CoursesIndex, IsIndexingCourse, closes, index_acts}
use Rattle.laws_depmod_leaves.specs.Course.{put_acts, say_acts, warn_acts, warned, writes}
use Rattle.laws_depmod_leaves.proofs.ExtraLemmas.{extra-stand}
use Rattle.laws_depmod_leaves.proofs.ReadLemmas.{IsRelated, RelatedCome, by-first, only-related}
use Rattle.laws_depmod_leaves.proofs.ReadLemmas.{outcome-given, paths-came, related-comes}
use Rattle.laws_depmod_leaves.proofs.ReadLemmas.{valid-tree}

-- ---- what is written

warn-leaves : (line : Option (List ℕ)) (files : Contents) → after (warned line) files ≡ files
warn-leaves None files = refl
warn-leaves (Some text) files = refl

line-warned : (line : Option (List ℕ)) (files : Contents)
    → (warns_any line).run files ≡ run_of (warned line) (value tt)
unfolding given act_with
line-warned None files = refl
line-warned (Some text) files = refl

warns-run : (versions : Bool) (obstacles : List Unbound) (files : Contents)
    → (warns_each versions obstacles).run files ≡ run_of (warn_acts versions obstacles) (value tt)
warns-run versions [] files = run-given (value tt) files
warns-run versions (o ∷ os) files =
    let line = warning_line versions o in
    run-then (warns_any line) (warns_others versions os) files (warned line) tt
    (line-warned line files)
    ∙ ap (λ fs. joined (warned line) ((warns_each versions os).run fs)) (warn-leaves line files)
    ∙ ap (joined (warned line)) (warns-run versions os files)

warns-leave : (versions : Bool) (obstacles : List Unbound) (files : Contents)
    → after (warn_acts versions obstacles) files ≡ files
warns-leave versions [] files = refl
warns-leave versions (o ∷ os) files =
    by_line (warning_line versions o) (warns-leave versions os files)
  where
    by_line : (line : Option (List ℕ)) → after (warn_acts versions os) files ≡ files
        → after (warned line ++ warn_acts versions os) files ≡ files
    by_line None rest = rest
    by_line (Some text) rest = rest

-- the warnings, where they are wanted
abbrev wanted_warnings : Bool → Bool → List Unbound → List Act
wanted_warnings errsyms versions obstacles = if errsyms then warn_acts versions obstacles else []

unmet-warned : (errsyms versions : Bool) (obstacles : List Unbound) (files : Contents)
    → (warns_unmet errsyms versions obstacles).run files
    ≡ run_of (wanted_warnings errsyms versions obstacles) (value tt)
unmet-warned true versions obstacles files = warns-run versions obstacles files
unmet-warned false versions obstacles files = run-given (value tt) files

wanted-leave : (errsyms versions : Bool) (obstacles : List Unbound) (files : Contents)
    → after (wanted_warnings errsyms versions obstacles) files ≡ files
wanted-leave true versions obstacles files = warns-leave versions obstacles files
wanted-leave false versions obstacles files = refl

said-leaves : (bytes : List ℕ) (files : Contents) → after (said bytes) files ≡ files
said-leaves [] files = refl
said-leaves (byte ∷ bytes) files = refl

says-run : (fs : DepmodFiles) (names : List DepmodFile) (held : Contents)
    → (says_each fs names).run held ≡ run_of (say_acts fs names) (value tt)
says-run fs [] held = run-given (value tt) held
says-run fs (name ∷ names) held =
    let bytes = content fs name in
    run-then (says_any bytes) (say_others fs names) held (said bytes) tt (lines-said bytes held)
    ∙ ap (λ fs'. joined (said bytes) ((says_each fs names).run fs')) (said-leaves bytes held)
    ∙ ap (joined (said bytes)) (says-run fs names held)

puts-run : (folder : List ℕ) (fs : DepmodFiles) (names : List DepmodFile) (held : Contents)
    → (puts_each folder fs names).run held ≡ run_of (put_acts folder fs names) (value tt)
unfolding ◌>>=◌ continued given act_with
puts-run folder fs [] held = refl
puts-run folder fs (name ∷ names) held =
    let act = put (path_below folder (file_name name)) (content fs name) in
    ap (λ (run : Run ⊤). run_of (act ∷ run.acts) run.outcome)
    (puts-run folder fs names (after (act ∷ []) held))

handed-out : (extra dry_run : Bool) (folder : List ℕ) (fs : DepmodFiles) (held : Contents)
    → (hands_out extra dry_run folder fs).run held
    ≡ run_of (if dry_run
    then say_acts fs (text_files extra)
    else put_acts folder fs (all_files extra)) (value tt)
handed-out extra true folder fs held = says-run fs (text_files extra) held
handed-out extra false folder fs held = puts-run folder fs (all_files extra) held

-- ---- the files

-- what the files of a tree come to
record AreMade (held : Contents) (asked : DepmodWords) (tree : List Facts) (table : Table)
    (fs : DepmodFiles) : Type 0 where
  builtin : List ℕ
  there : built_in held asked ≡ value builtin
  info : Option (List ℕ)
  informed : built_in_info held asked ≡ value info
  small : output_fault (files tree (seen_kernel table) builtin) ≡ None
  small_extra : extra_refusal (extra_made tree info) ≡ None
  are : made_of (record { tree = tree; table = table; builtin = builtin; info = info }) ≡ fs

abbrev FilesCome : Contents → DepmodWords → List Facts → Table → Outcome DepmodFiles → Type 0
FilesCome held asked tree table (value fs) = AreMade held asked tree table fs
FilesCome held asked tree table (end e) = IsEnded held asked e

abbrev tree_over : List Facts → Table → KernelTree
tree_over tree table = record { facts = tree; kernel = seen_kernel table }

only-info : (extra : Bool) (folder : List ℕ) → OnlyReads (reads_info extra folder)
only-info extra folder =
    let path = path_below folder (codes "modules.builtin.modinfo") in
    reads-when extra (reads_any path >>= info_given) (gives None)
    (reads-then (reads_any path) info_given (reads-file (value []) path) (λ bytes. reads-given _))
    (reads-given _)

module _ (held : Contents) (asked : DepmodWords) (tree : List Facts) (table : Table)
    (read : IsRead held asked tree table)
    (related : relation_fault (modules_of tree) (seen_kernel table) ≡ None) (builtin : List ℕ)
    (there : built_in held asked ≡ value builtin) (info : Option (List ℕ))
    (informed : built_in_info held asked ≡ value info) where
  abbrev seen : IndexedTree
  seen = record { tree = tree; table = table; builtin = builtin; info = info }

  abbrev nine : OutputFiles
  nine = files tree (seen_kernel table) builtin

  by_extra : output_fault nine ≡ None → (o : Option Refusal)
      → extra_refusal (extra_made tree info) ≡ o
      → FilesCome held asked tree table
      ((given (value_unless (λ refusal. refusal) o
      (extra_made tree info)) >>= all_made nine).run held).outcome
  unfolding given ◌>>=◌ continued
  by_extra small None passed
      = record {
        builtin = builtin;
        there = there;
        info = info;
        informed = informed;
        small = small;
        small_extra = passed;
        are = refl;
      }
  by_extra small (Some refusal) large
      = extra_too_large seen read related there informed small refusal large

  after_usual : output_fault nine ≡ None
      → FilesCome held asked tree table
      ((usual_made (tree_over tree table) info nine).run held).outcome
  unfolding extra_outcome
  after_usual small = by_extra small (extra_refusal (extra_made tree info)) refl

  by_size : (o : Option Refusal) → usual_refusal nine ≡ o
      → FilesCome held asked tree table
      ((given (value_unless (λ refusal. refusal) o nine) >>= usual_made
      (tree_over tree table) info).run
      held).outcome
  unfolding given ◌>>=◌ continued
  by_size None small = after_usual (no-fault nine small)
  by_size (Some refusal) large = too_large seen read related there informed refusal large

  files-sized : FilesCome held asked tree table
      ((info_read (tree_over tree table) builtin info).run held).outcome
  unfolding outputs_outcome
  files-sized = by_size (usual_refusal nine) refl

files-come : (held : Contents) (asked : DepmodWords) (tree : List Facts) (table : Table)
    → IsRead held asked tree table → relation_fault (modules_of tree) (seen_kernel table) ≡ None
    → FilesCome held asked tree table
    ((makes_files asked.extra (modules_of_request asked) (tree_over tree table)).run
    held).outcome
files-come held asked tree table read related =
    let folder = modules_of_request asked in
    let path = path_below folder (codes "modules.builtin") in
    let whole = tree_over tree table in
    by-first (FilesCome held asked tree table) (reads_any path)
    (builtin_read asked.extra folder whole) held (reads-file (value []) path)
    (λ e ended. no_builtin tree table read related e ended)
    (λ builtin there.
    by-first (FilesCome held asked tree table) (reads_info asked.extra folder)
    (info_read whole builtin) held (only-info asked.extra folder)
    (λ e ended. no_info tree table read related builtin there e ended)
    (λ info informed. files-sized held asked tree table read related builtin there info informed))

only-made : (extra : Bool) (folder : List ℕ) (tree : KernelTree)
    → OnlyReads (makes_files extra folder tree)
only-made extra folder tree =
    let path = path_below folder (codes "modules.builtin") in
    reads-then (reads_any path) (builtin_read extra folder tree) (reads-file (value []) path) (λ
    builtin.
    reads-then (reads_info extra folder) (info_read tree builtin) (only-info extra folder) (λ info.
    reads-then (given (outputs_outcome (files tree.facts tree.kernel builtin)))
    (usual_made tree info) (reads-given _) (λ usual.
    reads-then (given (extra_outcome tree.facts info)) (all_made usual) (reads-given _)
    (λ added. reads-given _))))

-- ---- the course

-- a stage that only reads, and then a course
by-run : {X : Type 0} (held : Contents) (asked : DepmodWords) (stage : Stage X) (next : X → Stage ⊤)
    → OnlyReads stage → ((e : End) → (stage.run held).outcome ≡ end e → IsEnded held asked e)
    → ((x : X) → (stage.run held).outcome ≡ value x
    → IsIndexingCourse held asked ((next x).run held))
    → IsIndexingCourse held asked ((stage >>= next).run held)
unfolding ◌>>=◌ continued
by-run {X} held asked stage next only ended gone = by_outcome (stage.run held).outcome refl
  where
    first : List Act
    first = (stage.run held).acts

    after_first : (run : Run ⊤) → IsIndexingCourse held asked run
        → IsIndexingCourse held asked (run_of (first ++ run.acts) run.outcome)
    after_first run h = record {
      outcome = h.outcome;
      comes = h.comes;
      before = first ++ h.before;
      reads = both-read first h.before (only held) h.reads;
      acts
          = ap (λ acts. first ++ acts) h.acts
          ∙ sym (append_assoc first h.before (writes asked h.outcome));
      ends = h.ends;
    }

    by_outcome : (o : Outcome X) → (stage.run held).outcome ≡ o
        → IsIndexingCourse held asked (continued first o next held)
    by_outcome (value x) came =
        subst (λ fs. IsIndexingCourse held asked
        (run_of (first ++ ((next x).run fs).acts) ((next x).run fs).outcome))
        (sym (read-leaves first held (only held)))
        (after_first ((next x).run held) (gone x came))
    by_outcome (end e) came = record {
      outcome = end e;
      comes = ended e came;
      before = first;
      reads = only held;
      acts = sym (append-nil first);
      ends = refl;
    }

-- what is written of an index, in a run
index-written : (held : Contents) (asked : DepmodWords) (i : IndexedTree)
    → (made (wanted_of asked) (target_of_request asked) (tree_over i.tree i.table) (made_of i)).run
    held
    ≡ run_of (index_acts asked i) (value tt)
index-written held asked i =
    let wanted = wanted_of asked in
    let target = target_of_request asked in
    let versions = is_some asked.symvers in
    let obstacles = unmet (modules_of i.tree) (seen_kernel i.table) in
    let warnings = wanted_warnings asked.errsyms versions obstacles in
    let fs = made_of i in
    run-then (warns_of_tree wanted (tree_over i.tree i.table)) (warned_then wanted target fs) held
    warnings tt (unmet-warned asked.errsyms versions obstacles held)
    ∙ ap (λ left. joined warnings ((hands_out asked.extra asked.dry_run target fs).run left))
    (wanted-leave asked.errsyms versions obstacles held)
    ∙ ap (joined warnings) (handed-out asked.extra asked.dry_run target fs held)

-- nothing is in the way of an index
is-indexed : (held : Contents) (asked : DepmodWords) (tree : List Facts) (table : Table)
    → IsRead held asked tree table → relation_fault (modules_of tree) (seen_kernel table) ≡ None
    → (fs : DepmodFiles) (h : AreMade held asked tree table fs)
    → IsIndexed held asked
    (record { tree = tree; table = table; builtin = h.builtin; info = h.info })
is-indexed held asked tree table read related fs h =
    let found = read.found in
    let paths = paths-came held (modules_of_request asked) found.search read.paths found.chosen in
    let known = valid-tree held (modules_of_request asked) read.paths tree paths.0 read.modules in
    record {
      read = read;
      related = related;
      builtin = h.there;
      info = h.informed;
      small = h.small;
      small_extra = h.small_extra;
      stand = files-stand tree (seen_kernel table) h.builtin known h.small;
      stand_extra
          = λ info is. extra-stand held asked tree h.info info known h.informed h.small_extra is;
    }

tree-indexed : (held : Contents) (asked : DepmodWords) (tree : List Facts) (table : Table)
    → IsRead held asked tree table → relation_fault (modules_of tree) (seen_kernel table) ≡ None
    → IsIndexingCourse held asked
    ((indexes_tree (wanted_of asked) (modules_of_request asked) (target_of_request asked)
    (tree_over tree table)).run held)
tree-indexed held asked tree table read related =
    let folder = modules_of_request asked in
    let whole = tree_over tree table in
    let next = made (wanted_of asked) (target_of_request asked) whole in
    let come = files-come held asked tree table read related in
    by-run held asked (makes_files asked.extra folder whole) next
    (only-made asked.extra folder whole)
    (λ e ended. subst (FilesCome held asked tree table) ended come)
    (λ fs came.
    let h : AreMade held asked tree table fs = subst (FilesCome held asked tree table) came come in
    let i : IndexedTree
    = record { tree = tree; table = table; builtin = h.builtin; info = h.info } in
    let run : (next fs).run held ≡ run_of (index_acts asked i) (value tt)
    = ap (λ files. (next files).run held) (sym h.are) ∙ index-written held asked i in
    record {
      outcome = value i;
      comes = is-indexed held asked tree table read related fs h;
      before = [];
      reads = refl;
      acts = ap (λ (r : Run ⊤). r.acts) run;
      ends = ap (λ (r : Run ⊤). r.outcome) run;
    })

pub courses-index : CoursesIndex
courses-index held asked =
    let folder = modules_of_request asked in
    let reading = reads_related folder asked.config asked.filesyms asked.symvers in
    let next = indexed (wanted_of asked) folder (target_of_request asked) in
    by-run held asked reading next (only-related folder asked.config asked.filesyms asked.symvers)
    (λ e ended. subst (RelatedCome held asked) ended (related-comes held asked))
    (λ whole came.
    let h : IsRelated held asked whole
    = subst (RelatedCome held asked) came (related-comes held asked) in
    subst (λ t. IsIndexingCourse held asked ((next t).run held)) h.is
    (tree-indexed held asked h.tree h.table h.read h.related))
