-- What `builtin-alias` and `static-nodes` answer over the files that a depmod with `--extra` left.
use Rattle.std.proofs.Common.{◌≡◌, ◌∙◌, ◌≤◌, ℕ, true, false, cond, List, [], ◌∷◌, ◌++◌, length}
use Rattle.std.proofs.Common.{refl, sym, ap, subst, arith, append-nil}
use Rattle.std.specs.Prelude.{Option, Some, None, codes, unwrap_or, ⊤}
use Rattle.std.specs.FinMap.{get}
use Rattle.std.specs.List.{list_all}
use Rattle.std.proofs.lemmas.Bool.{le-ltb}
use Rattle.km_names.specs.AliasForm.{normal_alias}
use Rattle.km_names.specs.Limit.{file_limit}
use Rattle.km_names.specs.Path.{path_below}
use Rattle.outside_calls.specs.Contents.{Contents}
use Rattle.km_course.specs.Carries.{Carries, outcome_status}
use Rattle.km_course.specs.Course.{Act, Outcome, Run, Stage, ◌>>=◌, given, read_outcome, reads}
use Rattle.km_course.specs.Course.{says_any, if_understood}
use Rattle.km_course.specs.Course.Act.{read}
use Rattle.km_course.specs.Course.Outcome.{value, end}
use Rattle.km_course.specs.Lines.{end_line}
use Rattle.km_course.specs.World.{World, Shown, Tells}
use Rattle.km_course.specs.declared.end.End.TheVariants.{NoFile, TooLarge}
use Rattle.kmod_words.specs.declared.builtin_alias.BuiltinAliasWords.{BuiltinAliasWords}
use Rattle.kmod_words.specs.declared.depmod.DepmodWords.{DepmodWords}
use Rattle.kmod_words.specs.declared.static_nodes.StaticNodesWords.{StaticNodesWords}
use Rattle.kmod_words.specs.BuiltinAlias.{builtin_alias_request}
use Rattle.kmod_words.specs.StaticNodes.{static_nodes_request}
use Rattle.index_format.specs.Check.{index_fault}
use Rattle.index_format.specs.Holds.{Holds}
use Rattle.builtin_index.specs.Aliases.{alias_map}
use Rattle.module_facts.specs.declared.facts.Facts.{Facts}
use Rattle.devname_nodes.specs.File.{node_lines, read_of}
use Rattle.devname_nodes.specs.Nodes.{nodes_of}
use Rattle.stages_files.specs.Configuration.{stated_outcome}
use Rattle.stages_files.specs.IndexFile.{index_of, index_outcome, reads_index}
use Rattle.stages_files.specs.KernelModules.{modules_folder}
use Rattle.command_builtin_alias.specs.BuiltinAlias.{builtin_alias_course}
use Rattle.command_builtin_alias.specs.BuiltinAlias.{found_outcome, names_found, shows_names}
use Rattle.command_builtin_alias.specs.BuiltinAlias.{unless_none}
use Rattle.command_builtin_alias.proofs.NameSteps.{found_in}
use Rattle.command_depmod.specs.Depmod.{target_of_request}
use Rattle.command_static_nodes.specs.StaticNodes.{reads_nodes, shows_nodes}
use Rattle.command_static_nodes.specs.StaticNodes.{static_nodes_course}
use Rattle.command_static_nodes.proofs.NodeSteps.{nodes_stated, said as nodes_said}
use Rattle.laws_builtin_aliases.proofs.Found.{are-found}
use Rattle.laws_indexed_folder.specs.Indexed.{HasFile}
use Rattle.laws_planned_loads.specs.Acts.{is_reading, said}
use Rattle.laws_planned_loads.proofs.RunLemmas.{joined, run-ends, run-given, run-read, run-then}
use Rattle.laws_planned_loads.proofs.RunLemmas.{run_of}
use Rattle.laws_planned_loads.proofs.WholeLemmas.{lines-said}
use Rattle.kmod_cli.specs.Extra.{HasAliases, HasNodes, LeavesExtra}
use Rattle.kmod_cli.specs.Lookups.{LookupsMeet, PrintsOutcome, built_in_matching}
use Rattle.kmod_cli.specs.Program.{command_named, course}
use Rattle.kmod_cli.proofs.CameLemmas.{came-to}
use Rattle.kmod_cli.proofs.IndexesLaw.{end-low}
use Rattle.kmod_cli.proofs.PlansLaw.{Prints, printed-part, printed-told}

-- ---- a run that prints a text, or ends

abbrev PrintedBy : Outcome (List ℕ) → Run ⊤ → Type 0
PrintedBy (value text) run = Prints text (value tt) run
PrintedBy (end e) run = Prints [] (end e) run

abbrev says : List ℕ → Stage ⊤
says text = says_any text

prints-after : (o : Outcome (List ℕ)) (before : List Act) (held : Contents)
    → list_all is_reading before ≡ true → PrintedBy o (joined before ((given o >>= says).run held))
prints-after (value text) before held only = record {
  before = before;
  reads = only;
  is
      = ap (joined before)
      (run-then (given (value text)) says held [] text (run-given (value text) held)
      ∙ ap (joined []) (lines-said text held));
}
prints-after (end e) before held only = record {
  before = before;
  reads = only;
  is = ap (joined before) (run-ends (given (end e)) says held [] e (run-given (end e) held));
}

printed : (stage : Stage ⊤) (old new : World) (status : ℕ) → Carries stage old new status
    → (shown : Shown) → Tells old shown → (o : Outcome (List ℕ))
    → PrintedBy o (stage.run shown.files) → PrintsOutcome o shown old new status
printed stage old new status c shown tells (value text) p =
    let run : Run ⊤ = stage.run shown.files in
    let told = printed-told text (value tt) run shown p in
    came-to stage old new status c shown tells 0 (record shown { out = shown.out ++ text })
    (record { files = told.files; out = told.out; err = told.err ∙ append-nil shown.err })
    (omega arith) (ap (λ (r : Run ⊤). outcome_status r.outcome) p.is)
    (printed-part text (value tt) run shown new p)
printed stage old new status c shown tells (end e) p =
    let run : Run ⊤ = stage.run shown.files in
    let told = printed-told [] (end e) run shown p in
    came-to stage old new status c shown tells _ (record shown { err = shown.err ++ end_line e })
    (record { files = told.files; out = told.out ∙ append-nil shown.out; err = told.err })
    (end-low e) (ap (λ (r : Run ⊤). outcome_status r.outcome) p.is)
    (printed-part [] (end e) run shown new p)

-- ---- files that are there

read-run : (path bytes : List ℕ) (held : Contents) → HasFile held path bytes
    → length bytes ≤ file_limit → (reads path).run held ≡ run_of (read path ∷ []) (value bytes)
read-run path bytes held there small =
    run-read (end (NoFile path)) path held
    ∙ ap (run_of (read path ∷ []))
    (ap (read_outcome (end (NoFile path)) path) there
    ∙ ap (λ b. cond b (end (TooLarge path)) (value bytes)) (le-ltb file_limit (length bytes) small))

index-run : (path bytes : List ℕ) (held : Contents) → HasFile held path bytes
    → length bytes ≤ file_limit → index_fault bytes ≡ None
    → (reads_index path).run held ≡ run_of (read path ∷ []) (value (index_of bytes))
unfolding index_outcome
index-run path bytes held there small accepted =
    run-then (reads path) (λ b. given (index_outcome path b (index_fault b))) held (read path ∷ [])
    bytes (read-run path bytes held there small)
    ∙ ap (joined (read path ∷ []))
    (run-given (index_outcome path bytes (index_fault bytes)) held
    ∙ ap (λ f. run_of [] (index_outcome path bytes f)) accepted)

-- ---- the two commands

names-same : (bytes info : List ℕ) → Holds bytes (alias_map info) → (form : Option (List ℕ))
    → names_found (index_of bytes) form ≡ built_in_matching info form
names-same bytes info holds None = refl
names-same bytes info holds (Some normal) = are-found bytes info normal holds

names-printed : (held : Contents) (folder info : List ℕ) (wanted : BuiltinAliasWords)
    → HasAliases held folder info → modules_folder wanted.dirname wanted.version ≡ folder
    → PrintedBy (unless_none (unwrap_or (normal_alias wanted.name) wanted.name)
    (built_in_matching info (normal_alias wanted.name))) ((shows_names wanted).run held)
names-printed held folder info wanted has at =
    let path
    = path_below (modules_folder wanted.dirname wanted.version)
    (codes "modules.builtin.alias.bin") in
    let there : HasFile held path has.bytes
    = subst (λ f. HasFile held (path_below f (codes "modules.builtin.alias.bin")) has.bytes)
    (sym at) has.there in
    let o : Outcome (List ℕ) = found_outcome (index_of has.bytes) wanted.name in
    let run : (shows_names wanted).run held ≡ joined (read path ∷ []) ((given o >>= says).run held)
    =
    run-then (reads_index path) (found_in wanted.name) held (read path ∷ []) (index_of has.bytes)
    (index-run path has.bytes held there has.small has.holds.accepted) in
    subst (λ names. PrintedBy (unless_none (unwrap_or (normal_alias wanted.name) wanted.name) names)
    ((shows_names wanted).run held))
    (names-same has.bytes info has.holds (normal_alias wanted.name))
    (subst (PrintedBy o) (sym run) (prints-after o (read path ∷ []) held refl))

nodes-printed : (held : Contents) (folder : List ℕ) (tree : List Facts) (wanted : StaticNodesWords)
    → HasNodes held folder tree → modules_folder wanted.dirname wanted.version ≡ folder
    → PrintedBy (value (node_lines (nodes_of tree))) ((shows_nodes wanted).run held)
nodes-printed held folder tree wanted has at =
    let path
    = path_below (modules_folder wanted.dirname wanted.version) (codes "modules.devname") in
    let there : HasFile held path has.bytes
    = subst (λ f. HasFile held (path_below f (codes "modules.devname")) has.bytes) (sym at)
    has.there in
    let nodes = nodes_of tree in
    let reading : (reads_nodes path).run held ≡ run_of (read path ∷ []) (value nodes) =
    run-then (reads path) (nodes_stated path) held (read path ∷ []) has.bytes
    (read-run path has.bytes held there has.small)
    ∙ ap (joined (read path ∷ []))
    (run-given (stated_outcome (read_of path has.bytes)) held
    ∙ ap (λ r. run_of [] (stated_outcome r)) (has.reads path)) in
    record {
      before = read path ∷ [];
      reads = refl;
      is =
          run-then (reads_nodes path) nodes_said held (read path ∷ []) nodes reading
          ∙ ap (joined (read path ∷ [])) (lines-said (node_lines nodes) held);
    }

alias-carried : (words rest : List (List ℕ)) (old new : World) (status : ℕ)
    → words ≡ codes "builtin-alias" ∷ rest → Carries (course words) old new status
    → Carries (builtin_alias_course rest) old new status
unfolding command_named
alias-carried words rest old new status is c = subst (λ w. Carries (course w) old new status) is c

nodes-carried : (words rest : List (List ℕ)) (old new : World) (status : ℕ)
    → words ≡ codes "static-nodes" ∷ rest → Carries (course words) old new status
    → Carries (static_nodes_course rest) old new status
unfolding command_named
nodes-carried words rest old new status is c = subst (λ w. Carries (course w) old new status) is c

same-files : (a b : Contents) → ◌≡◌ {A = Option Contents} (Some a) (Some b) → a ≡ b
same-files a b is = cc

pub lookups-meet : LookupsMeet
lookups-meet first second asked shown told old new later last status d over tells c =
    let h = d.call shown d.tells asked d.words_ask d.extra d.replaces refl in
    let left : LeavesExtra asked shown.files told.files
    = subst (LeavesExtra asked shown.files) (same-files h.0 told.files (sym h.1 ∙ over)) h.2 in
    record {
      left = left;
      aliases = λ rest wanted words asks at.
          printed (builtin_alias_course rest) later last status
          (alias-carried second rest later last status words c) told tells _
          (subst (λ request. PrintedBy
          (unless_none (unwrap_or (normal_alias wanted.name) wanted.name)
          (built_in_matching left.info (normal_alias wanted.name)))
          ((if_understood shows_names request).run told.files)) (sym asks)
          (names-printed told.files (target_of_request asked) left.info wanted left.aliases at));
      nodes = λ rest wanted words asks at.
          printed (static_nodes_course rest) later last status
          (nodes-carried second rest later last status words c) told tells
          (value (node_lines (nodes_of left.tree)))
          (subst (λ request. PrintedBy (value (node_lines (nodes_of left.tree)))
          ((if_understood shows_nodes request).run told.files)) (sym asks)
          (nodes-printed told.files (target_of_request asked) left.tree wanted left.nodes at));
    }
