-- What the acts of a depmod leave, whole and cut short.
use Rattle.std.proofs.Common.{◌≡◌, ◌∙◌, ℕ, zero, suc, ◌+◌, ◌≤◌, Bool, true, false, List, [], ◌∷◌}
use Rattle.std.proofs.Common.{◌++◌, length, take, flat_map, None, refl, sym, ap, subst, inl, inr}
use Rattle.std.proofs.Common.{append_assoc, append-nil, unwrap_or}
use Rattle.std.specs.Prelude.{Option, Some, is_some, if◌then◌else◌, ⊤}
use Rattle.std.specs.List.{list_all}
use Rattle.std.proofs.lemmas.List.{take-append-le}
use Rattle.std.proofs.Math.Seq.{take-append-add}
use Rattle.km_names.specs.Path.{path_below}
use Rattle.outside_calls.specs.Contents.{Contents}
use Rattle.km_course.specs.Carries.{closing_acts, outcome_line}
use Rattle.km_course.specs.Course.{Act, Outcome}
use Rattle.km_course.specs.Course.Act.{put, warn}
use Rattle.km_course.specs.Course.Outcome.{value, end}
use Rattle.km_course.specs.World.{Shown, World, act_done, done}
use Rattle.km_course.proofs.Steps.{done-append}
use Rattle.kmod_words.specs.declared.depmod.DepmodWords.{DepmodWords}
use Rattle.symbol_binding.specs.Unmet.{unmet}
use Rattle.symbol_binding.specs.declared.unbound.Unbound.{Unbound}
use Rattle.provider_rel.specs.Faces.{modules_of}
use Rattle.stages_files.specs.KernelTable.{seen_kernel}
use Rattle.command_depmod.specs.declared.files.DepmodFile.{DepmodFile}
use Rattle.command_depmod.specs.declared.files.DepmodFiles.{DepmodFiles}
use Rattle.command_depmod.specs.Depmod.{target_of_request}
use Rattle.command_depmod.specs.Files.{all_files, content, file_name, text_files}
use Rattle.command_depmod.specs.Warnings.{warning_line}
use Rattle.laws_planned_loads.specs.Acts.{is_reading, said}
use Rattle.laws_depmod_leaves.specs.Comes.{IndexedTree, made_of}
use Rattle.laws_depmod_leaves.specs.Course.{closes, index_acts, put_acts, say_acts, warn_acts}
use Rattle.laws_depmod_leaves.specs.Course.{warned, writes}
use Rattle.laws_depmod_leaves.specs.Left.{with_files}
use Rattle.kmod_cli.specs.Indexes.{IsPartOf, files_printed, files_replaced, printed, told_of}
use Rattle.kmod_cli.specs.Indexes.{warnings}
use Rattle.kmod_cli.proofs.ActsLeft.{AreSilent, Cut, Part, Shows, after-closing, after-reads}
use Rattle.kmod_cli.proofs.ActsLeft.{after-said, part-append, part-reads, part-said, part-silent}

-- ---- the whole

-- what two lists of acts leave
shows-on : (first rest : List Act) (shown : Shown) (held : Contents) (out err : List ℕ)
    → Shows (done rest (done first shown)) held out err
    → Shows (done (first ++ rest) shown) held out err
shows-on first rest shown held out err h =
    let all = done-append first rest shown in
    record {
      files = ap (λ (s : Shown). s.files) all ∙ h.files;
      out = ap (λ (s : Shown). s.out) all ∙ h.out;
      err = ap (λ (s : Shown). s.err) all ∙ h.err;
    }

after-line : (line : Option (List ℕ)) (shown : Shown)
    → Shows (done (warned line) shown) shown.files shown.out (shown.err ++ unwrap_or line [])
after-line None shown = record { files = refl; out = refl; err = sym (append-nil shown.err) }
after-line (Some text) shown = record { files = refl; out = refl; err = refl }

abbrev lines_of_all : Bool → List Unbound → List ℕ
lines_of_all versions obstacles =
    flat_map (λ obstacle. unwrap_or (warning_line versions obstacle) []) obstacles

after-warnings : (versions : Bool) (obstacles : List Unbound) (shown : Shown)
    → Shows (done (warn_acts versions obstacles) shown) shown.files shown.out
    (shown.err ++ lines_of_all versions obstacles)
after-warnings versions [] shown =
    record { files = refl; out = refl; err = sym (append-nil shown.err) }
after-warnings versions (o ∷ os) shown =
    let line = warning_line versions o in
    let first = after-line line shown in
    let rest = after-warnings versions os (done (warned line) shown) in
    shows-on (warned line) (warn_acts versions os) shown _ _ _ (record {
      files = rest.files ∙ first.files;
      out = rest.out ∙ first.out;
      err =
          rest.err ∙ ap (λ err. err ++ lines_of_all versions os) first.err
          ∙ append_assoc shown.err (unwrap_or line []) (lines_of_all versions os);
    })

after-wanted : (errsyms versions : Bool) (obstacles : List Unbound) (shown : Shown)
    → Shows (done (if errsyms then warn_acts versions obstacles else []) shown) shown.files
    shown.out (shown.err ++ (if errsyms then lines_of_all versions obstacles else []))
after-wanted true versions obstacles shown = after-warnings versions obstacles shown
after-wanted false versions obstacles shown =
    record { files = refl; out = refl; err = sym (append-nil shown.err) }

after-puts : (folder : List ℕ) (made : DepmodFiles) (names : List DepmodFile) (shown : Shown)
    → Shows (done (put_acts folder made names) shown) (with_files folder made names shown.files)
    shown.out shown.err
after-puts folder made [] shown = record { files = refl; out = refl; err = refl }
after-puts folder made (name ∷ names) shown =
    after-puts folder made names
    (act_done (put (path_below folder (file_name name)) (content made name)) shown)

after-says : (made : DepmodFiles) (names : List DepmodFile) (shown : Shown)
    → Shows (done (say_acts made names) shown) shown.files
    (shown.out ++ flat_map (content made) names) shown.err
after-says made [] shown = record { files = refl; out = sym (append-nil shown.out); err = refl }
after-says made (name ∷ names) shown =
    let bytes = content made name in
    let first = after-said bytes shown in
    let rest = after-says made names (done (said bytes) shown) in
    shows-on (said bytes) (say_acts made names) shown _ _ _ (record {
      files = rest.files ∙ first.files;
      out =
          rest.out ∙ ap (λ out. out ++ flat_map (content made) names) first.out
          ∙ append_assoc shown.out bytes (flat_map (content made) names);
      err = rest.err ∙ first.err;
    })

-- what is handed out
abbrev handed : Bool → Bool → List ℕ → DepmodFiles → List Act
handed extra dry_run folder made =
    if dry_run then say_acts made (text_files extra) else put_acts folder made (all_files extra)

after-handed : (extra dry_run : Bool) (folder : List ℕ) (made : DepmodFiles) (shown : Shown)
    → Shows (done (handed extra dry_run folder made) shown)
    (with_files folder made (if dry_run then [] else all_files extra) shown.files)
    (shown.out ++ flat_map (content made) (if dry_run then text_files extra else [])) shown.err
after-handed extra true folder made shown = after-says made (text_files extra) shown
after-handed extra false folder made shown =
    let h = after-puts folder made (all_files extra) shown in
    record { files = h.files; out = h.out ∙ sym (append-nil shown.out); err = h.err }

after-writes : (asked : DepmodWords) (o : Outcome IndexedTree) (shown : Shown)
    → Shows (done (writes asked o ++ closing_acts (closes o)) shown) (told_of asked o shown).files
    (told_of asked o shown).out (told_of asked o shown).err
after-writes asked (end e) shown = record { files = refl; out = refl; err = refl }
after-writes asked (value i) shown =
    let obstacles = unmet (modules_of i.tree) (seen_kernel i.table) in
    let versions = is_some asked.symvers in
    let warns : List Act = if asked.errsyms then warn_acts versions obstacles else [] in
    let target = target_of_request asked in
    let fs = made_of i in
    let first = after-wanted asked.errsyms versions obstacles shown in
    let rest = after-handed asked.extra asked.dry_run target fs (done warns shown) in
    let whole : Shows (done (index_acts asked i) shown) (told_of asked (value i) shown).files
    (told_of asked (value i) shown).out (told_of asked (value i) shown).err
    =
    shows-on warns (handed asked.extra asked.dry_run target fs) shown _ _ _ (record {
      files = rest.files ∙ ap (with_files target fs (files_replaced asked)) first.files;
      out = rest.out ∙ ap (λ out. out ++ printed asked i) first.out;
      err = rest.err ∙ first.err;
    }) in
    subst (λ acts. Shows (done acts shown) (told_of asked (value i) shown).files
    (told_of asked (value i) shown).out (told_of asked (value i) shown).err)
    (sym (append-nil (index_acts asked i))) whole

-- what is known of files and outputs that hold the same is the same
told-same : (asked : DepmodWords) (o : Outcome IndexedTree) (s shown left : Shown)
    → Shows s shown.files shown.out shown.err
    → Shows left (told_of asked o s).files (told_of asked o s).out (told_of asked o s).err
    → Shows left (told_of asked o shown).files (told_of asked o shown).out
    (told_of asked o shown).err
told-same asked (value i) s shown left same h = record {
  files
      = h.files
      ∙ ap (with_files (target_of_request asked) (made_of i) (files_replaced asked)) same.files;
  out = h.out ∙ ap (λ out. out ++ printed asked i) same.out;
  err = h.err ∙ ap (λ err. err ++ warnings asked i) same.err;
}
told-same asked (end e) s shown left same h = record {
  files = h.files ∙ same.files;
  out = h.out ∙ same.out;
  err = h.err ∙ ap (λ err. err ++ outcome_line (closes (end e))) same.err;
}

pub index-left : (asked : DepmodWords) (o : Outcome IndexedTree) (before acts : List Act)
    (ends : Outcome ⊤) (shown : Shown)
    → list_all is_reading before ≡ true → acts ≡ before ++ writes asked o → ends ≡ closes o
    → Shows (done (acts ++ closing_acts ends) shown) (told_of asked o shown).files
    (told_of asked o shown).out (told_of asked o shown).err
index-left asked o before acts ends shown only are is =
    let told : Shown = told_of asked o shown in
    let read = after-reads before shown only in
    let rest = after-writes asked o (done before shown) in
    let whole : Shows (done (before ++ (writes asked o ++ closing_acts (closes o))) shown)
    told.files told.out told.err
    =
    shows-on before (writes asked o ++ closing_acts (closes o)) shown _ _ _
    (told-same asked o (done before shown) shown _ read rest) in
    subst (λ all. Shows (done all shown) told.files told.out told.err)
    (sym (append_assoc before (writes asked o) (closing_acts (closes o)))
    ∙ ap (λ a. a ++ closing_acts (closes o)) (sym are)
    ∙ ap (λ e. acts ++ closing_acts e) (sym is)) whole

-- ---- a first part

-- This many files were replaced, and this many bytes were printed.
record IndexPart (folder : List ℕ) (made : DepmodFiles) (names : List DepmodFile) (text : List ℕ)
    (shown : Shown) (held : Contents) (out : List ℕ) : Type 0 where
  count : ℕ
  bytes : ℕ
  files : held ≡ with_files folder made (take count names) shown.files
  said : out ≡ shown.out ++ take bytes text

nothing-yet : (folder : List ℕ) (made : DepmodFiles) (names : List DepmodFile) (text : List ℕ)
    (shown : Shown) (held : Contents) (out : List ℕ)
    → (shown.files ≡ held) × (shown.out ≡ out) → IndexPart folder made names text shown held out
nothing-yet folder made names text shown held out same =
    record
    { count = 0; bytes = 0; files = sym same.0; said = sym same.1 ∙ sym (append-nil shown.out) }

part-puts : (folder : List ℕ) (made : DepmodFiles) (names : List DepmodFile) (shown : Shown)
    (held : Contents) (out : List ℕ)
    → Part (put_acts folder made names) shown held out
    → IndexPart folder made names [] shown held out
part-puts folder made [] shown held out p = nothing-yet folder made [] [] shown held out p
part-puts folder made (name ∷ names) shown held out (inl p) =
    nothing-yet folder made (name ∷ names) [] shown held out (p.0, p.1.1)
part-puts folder made (name ∷ names) shown held out (inr p) =
    let h
    = part-puts folder made names
    (act_done (put (path_below folder (file_name name)) (content made name)) shown) held out
    p in
    record { count = suc h.count; bytes = h.bytes; files = h.files; said = h.said }

part-says : (folder : List ℕ) (made : DepmodFiles) (names : List DepmodFile) (shown : Shown)
    (held : Contents) (out : List ℕ)
    → Part (say_acts made names) shown held out
    → IndexPart folder made [] (flat_map (content made) names) shown held out
part-says folder made [] shown held out p = nothing-yet folder made [] [] shown held out p
part-says folder made (name ∷ names) shown held out p =
    let bytes = content made name in
    let rest = flat_map (content made) names in
    let first = after-said bytes shown in
    elim (part-append (said bytes) (say_acts made names) shown held out p) [
      | inl q ↦
          let s = part-said bytes shown held out q in
          record {
            count = 0;
            bytes = s.bytes;
            files = sym s.files;
            said
                = sym s.out
                ∙ ap (λ x. shown.out ++ x) (sym (take-append-le s.bytes bytes rest s.few));
          }
      | inr q ↦
          let h = part-says folder made names (done (said bytes) shown) held out q in
          record {
            count = 0;
            bytes = length bytes + h.bytes;
            files = h.files ∙ with-none h.count (done (said bytes) shown).files ∙ first.files;
            said =
                h.said ∙ ap (λ x. x ++ take h.bytes rest) first.out
                ∙ append_assoc shown.out bytes (take h.bytes rest)
                ∙ ap (λ x. shown.out ++ x) (sym (take-append-add bytes rest h.bytes));
          }
    ]
  where
    with-none : (n : ℕ) (files : Contents) → with_files folder made (take n []) files ≡ files
    with-none zero files = refl
    with-none (suc n) files = refl

part-handed : (extra dry_run : Bool) (folder : List ℕ) (made : DepmodFiles) (shown : Shown)
    (held : Contents) (out : List ℕ)
    → Part (handed extra dry_run folder made) shown held out
    → IndexPart folder made (if dry_run then [] else all_files extra)
    (flat_map (content made) (if dry_run then text_files extra else [])) shown held out
part-handed extra true folder made shown held out p =
    part-says folder made (text_files extra) shown held out p
part-handed extra false folder made shown held out p =
    part-puts folder made (all_files extra) shown held out p

warnings-silent : (versions : Bool) (obstacles : List Unbound)
    → AreSilent (warn_acts versions obstacles)
warnings-silent versions [] = tt
warnings-silent versions (o ∷ os) = by_line (warning_line versions o) (warnings-silent versions os)
  where
    by_line : (line : Option (List ℕ)) → AreSilent (warn_acts versions os)
        → AreSilent (warned line ++ warn_acts versions os)
    by_line None rest = rest
    by_line (Some text) rest = (tt, rest)

wanted-silent : (errsyms versions : Bool) (obstacles : List Unbound)
    → AreSilent (if errsyms then warn_acts versions obstacles else [])
wanted-silent true versions obstacles = warnings-silent versions obstacles
wanted-silent false versions obstacles = tt

-- files and outputs that hold the same
part-same : (folder : List ℕ) (made : DepmodFiles) (names : List DepmodFile) (text : List ℕ)
    (s shown : Shown) (held : Contents) (out : List ℕ)
    → s.files ≡ shown.files → s.out ≡ shown.out → IndexPart folder made names text s held out
    → IndexPart folder made names text shown held out
part-same folder made names text s shown held out files printed p = record {
  count = p.count;
  bytes = p.bytes;
  files = p.files ∙ ap (with_files folder made (take p.count names)) files;
  said = p.said ∙ ap (λ x. x ++ take p.bytes text) printed;
}

part-index : (asked : DepmodWords) (i : IndexedTree) (shown : Shown) (held : Contents)
    (out : List ℕ)
    → Part (index_acts asked i) shown held out
    → IndexPart (target_of_request asked) (made_of i) (files_replaced asked) (printed asked i) shown
    held out
part-index asked i shown held out p =
    let obstacles = unmet (modules_of i.tree) (seen_kernel i.table) in
    let versions = is_some asked.symvers in
    let warns : List Act = if asked.errsyms then warn_acts versions obstacles else [] in
    let target = target_of_request asked in
    let fs = made_of i in
    let first = after-wanted asked.errsyms versions obstacles shown in
    elim (part-append warns (handed asked.extra asked.dry_run target fs) shown held out p) [
      | inl q ↦ nothing-yet target fs (files_replaced asked) (printed asked i) shown held out
          (part-silent warns shown held out (wanted-silent asked.errsyms versions obstacles) q)
      | inr q ↦ part-same target fs (files_replaced asked) (printed asked i) (done warns shown)
          shown held out first.files first.out
          (part-handed asked.extra asked.dry_run target fs (done warns shown) held out q)
    ]

pub index-part : (asked : DepmodWords) (o : Outcome IndexedTree) (before acts : List Act)
    (shown : Shown) (new : World)
    → list_all is_reading before ≡ true → acts ≡ before ++ writes asked o → Cut acts shown new
    → IsPartOf asked o shown new
index-part asked (value i) before acts shown new only are c =
    let read = after-reads before shown only in
    let target = target_of_request asked in
    let fs = made_of i in
    let whole : IndexPart target fs (files_replaced asked) (printed asked i) shown c.held c.printed
    =
    elim (part-append before (index_acts asked i) shown c.held c.printed
    (subst (λ a. Part a shown c.held c.printed) are c.part)) [
      | inl q ↦ nothing-yet target fs (files_replaced asked) (printed asked i) shown c.held
          c.printed (part-reads before shown c.held c.printed only q)
      | inr q ↦ part-same target fs (files_replaced asked) (printed asked i) (done before shown)
          shown c.held c.printed read.files read.out
          (part-index asked i (done before shown) c.held c.printed q)
    ] in
    record {
      count = whole.count;
      bytes = whole.bytes;
      files = c.files ∙ ap Some whole.files;
      out = c.out ∙ ap Some whole.said;
    }
index-part asked (end e) before acts shown new only are c =
    let same
    = part-reads before shown c.held c.printed only
    (subst (λ a. Part a shown c.held c.printed) (are ∙ append-nil before) c.part) in
    record {
      bytes = 0;
      files = c.files ∙ ap Some (sym same.0);
      out = c.out ∙ ap Some (sym same.1 ∙ sym (append-nil shown.out));
    }
