-- What the acts of loads leave, whole and cut short.
use Rattle.std.proofs.Common.{◌≡◌, ◌∙◌, ℕ, suc, zero, ◌+◌, ◌<◌, ◌≤◌, min, Bool, true, List, [], ◌∷◌}
use Rattle.std.proofs.Common.{◌++◌, length, take, flat_map, None, refl, sym, ap, subst, inl, inr}
use Rattle.std.proofs.Common.{arith, append_assoc, append-nil, length-append}
use Rattle.std.specs.Prelude.{Option, Some, ⊤}
use Rattle.std.specs.List.{list_all}
use Rattle.std.proofs.lemmas.List.{take-append-le, take_min}
use Rattle.std.proofs.Math.Seq.{take-append-add}
use Rattle.km_names.specs.Path.{path_below}
use Rattle.outside_calls.specs.Contents.{Contents}
use Rattle.km_course.specs.Carries.{closing_acts, outcome_line}
use Rattle.km_course.specs.Course.{Act, Outcome}
use Rattle.km_course.specs.Course.Act.{read}
use Rattle.km_course.specs.World.{Shown, act_done, done}
use Rattle.km_course.proofs.Steps.{done-append}
use Rattle.stages_loads.specs.declared.shown.Images.{Images}
use Rattle.stages_loads.specs.Loads.{ShownImage}
use Rattle.laws_planned_loads.specs.Acts.{is_reading, said}
use Rattle.laws_planned_loads.specs.Loads.{WentIn, all_images, image_acts, images_of, load_acts}
use Rattle.kmod_cli.specs.Headline.{with_images}
use Rattle.kmod_cli.proofs.ActsLeft.{Part, Said, Shows, after-closing, after-reads, after-said}
use Rattle.kmod_cli.proofs.ActsLeft.{part-append, part-reads, part-said, part-unread}

-- the lines of images
abbrev pub shown_lines : List ShownImage → List ℕ
shown_lines ss = flat_map (λ (s : ShownImage). s.line) ss

-- ---- what is done for loads

-- A file is read, or an image is shown.
pub data Doing : Type 0 where
  reading : List ℕ → Doing
  showing : ShownImage → Doing

abbrev pub acts_of : Option (List ℕ) → List Doing → List Act
acts_of images [] = []
acts_of images (reading path ∷ ds) = read path ∷ acts_of images ds
acts_of images (showing s ∷ ds) = image_acts images s ++ acts_of images ds

abbrev pub shown_of : List Doing → List ShownImage
shown_of [] = []
shown_of (reading path ∷ ds) = shown_of ds
shown_of (showing s ∷ ds) = s ∷ shown_of ds

-- images are shown, and then this is done
abbrev pub showings : List ShownImage → List Doing → List Doing
showings [] ds = ds
showings (s ∷ ss) ds = showing s ∷ showings ss ds

-- what is done for modules that went in
abbrev pub doings : List ℕ → Bool → List WentIn → List Doing
doings folder params [] = []
doings folder params (w ∷ ws) =
    reading (path_below folder w.insert.path)
    ∷ showings (images_of params w) (doings folder params ws)

showings-acts : (images : Option (List ℕ)) (ss : List ShownImage) (ds : List Doing)
    → acts_of images (showings ss ds) ≡ flat_map (image_acts images) ss ++ acts_of images ds
showings-acts images [] ds = refl
showings-acts None (s ∷ ss) ds = ap (λ acts. image_acts None s ++ acts) (showings-acts None ss ds)
showings-acts (Some images) (s ∷ ss) ds =
    ap (λ acts. image_acts (Some images) s ++ acts) (showings-acts (Some images) ss ds)

pub doings-acts : (folder : List ℕ) (images : Images) (ws : List WentIn)
    → acts_of images.folder (doings folder images.params ws) ≡ flat_map (load_acts folder images) ws
doings-acts folder images [] = refl
doings-acts folder images (w ∷ ws) =
    ap (λ acts. read (path_below folder w.insert.path) ∷ acts)
    (showings-acts images.folder (images_of images.params w) (doings folder images.params ws)
    ∙ ap (λ acts. flat_map (image_acts images.folder) (images_of images.params w) ++ acts)
    (doings-acts folder images ws))

showings-shown : (ss : List ShownImage) (ds : List Doing)
    → shown_of (showings ss ds) ≡ ss ++ shown_of ds
showings-shown [] ds = refl
showings-shown (s ∷ ss) ds = ap (λ xs. s ∷ xs) (showings-shown ss ds)

pub doings-shown : (folder : List ℕ) (params : Bool) (ws : List WentIn)
    → shown_of (doings folder params ws) ≡ all_images params ws
doings-shown folder params [] = refl
doings-shown folder params (w ∷ ws) =
    showings-shown (images_of params w) (doings folder params ws)
    ∙ ap (λ xs. images_of params w ++ xs) (doings-shown folder params ws)

-- Acts of loads: files are read, the lines of a plan are written, this is done, and then nothing
-- more but to read.
pub record AreOfLoads (lines : List ℕ) (images : Option (List ℕ)) (ds : List Doing)
    (acts : List Act) : Type 0 where
  pub before : List Act
  pub rest : List Act
  pub before_reads : list_all is_reading before ≡ true
  pub rest_reads : list_all is_reading rest ≡ true
  pub are : acts ≡ before ++ (said lines ++ (acts_of images ds ++ rest))

-- ---- the whole

no-images : (images : Option (List ℕ)) (files : Contents) → with_images images [] files ≡ files
no-images None files = refl
no-images (Some images) files = refl

-- what is known after the first image, by what is known after the others
after-one : (first rest : List Act) (shown : Shown) (files : Contents) (line lines : List ℕ)
    (err : List ℕ)
    → (done first shown).out ≡ shown.out ++ line
    → Shows (done rest (done first shown)) files ((done first shown).out ++ lines) err
    → Shows (done (first ++ rest) shown) files (shown.out ++ (line ++ lines)) err
after-one first rest shown files line lines err one h =
    let all = done-append first rest shown in
    record {
      files = ap (λ (s : Shown). s.files) all ∙ h.files;
      out
          = ap (λ (s : Shown). s.out) all ∙ h.out ∙ ap (λ o. o ++ lines) one
          ∙ append_assoc shown.out line lines;
      err = ap (λ (s : Shown). s.err) all ∙ h.err;
    }

after-loads : (images : Option (List ℕ)) (ds : List Doing) (shown : Shown)
    → Shows (done (acts_of images ds) shown) (with_images images (shown_of ds) shown.files)
    (shown.out ++ shown_lines (shown_of ds)) shown.err
after-loads images [] shown =
    record
    { files = sym (no-images images shown.files); out = sym (append-nil shown.out); err = refl }
after-loads images (reading path ∷ ds) shown = after-loads images ds (act_done (read path) shown)
after-loads None (showing s ∷ ds) shown =
    let first = image_acts None s in
    after-one first (acts_of None ds) shown _ s.line (shown_lines (shown_of ds)) _ refl
    (after-loads None ds (done first shown))
after-loads (Some images) (showing s ∷ ds) shown =
    let first = image_acts (Some images) s in
    after-one first (acts_of (Some images) ds) shown _ s.line (shown_lines (shown_of ds)) _ refl
    (after-loads (Some images) ds (done first shown))

-- with the line of an end
pub loads-left : (lines : List ℕ) (images : Option (List ℕ)) (ds : List Doing) (acts : List Act)
    (o : Outcome ⊤) (shown : Shown)
    → AreOfLoads lines images ds acts
    → Shows (done (acts ++ closing_acts o) shown) (with_images images (shown_of ds) shown.files)
    (shown.out ++ (lines ++ shown_lines (shown_of ds))) (shown.err ++ outcome_line o)
loads-left lines images ds acts o shown a =
    let loading = acts_of images ds in
    let s1 = done a.before shown in
    let s2 = done (said lines) s1 in
    let s3 = done loading s2 in
    let s4 = done a.rest s3 in
    let all : done (acts ++ closing_acts o) shown ≡ done (closing_acts o) s4 =
    done-append acts (closing_acts o) shown
    ∙ ap (done (closing_acts o)) (ap (λ l. done l shown) a.are
    ∙ done-append a.before (said lines ++ (loading ++ a.rest)) shown
    ∙ done-append (said lines) (loading ++ a.rest) s1
    ∙ done-append loading a.rest s2) in
    let h1 = after-reads a.before shown a.before_reads in
    let h2 = after-said lines s1 in
    let h3 = after-loads images ds s2 in
    let h4 = after-reads a.rest s3 a.rest_reads in
    let h5 = after-closing o s4 in
    record {
      files
          = ap (λ (s : Shown). s.files) all ∙ h5.files ∙ h4.files ∙ h3.files
          ∙ ap (with_images images (shown_of ds)) (h2.files ∙ h1.files);
      out =
          ap (λ (s : Shown). s.out) all ∙ h5.out ∙ h4.out ∙ h3.out
          ∙ ap (λ out. out ++ shown_lines (shown_of ds)) (h2.out ∙ ap (λ out. out ++ lines) h1.out)
          ∙ append_assoc shown.out lines (shown_lines (shown_of ds));
      err
          = ap (λ (s : Shown). s.err) all ∙ h5.err
          ∙ ap (λ err. err ++ outcome_line o) (h4.err ∙ h3.err ∙ h2.err ∙ h1.err);
    }

-- ---- a first part

-- Some of the images are put, and a first part of the lines is written: an image before its line,
-- and after the lines before it.
pub record LoadsPart (lines : List ℕ) (images : Option (List ℕ)) (ss : List ShownImage)
    (shown : Shown) (held : Contents) (printed : List ℕ) : Type 0 where
  pub puts : ℕ
  pub bytes : ℕ
  pub files : held ≡ with_images images (take puts ss) shown.files
  pub out : printed ≡ shown.out ++ take bytes (lines ++ shown_lines ss)
  pub image_before : bytes ≤ length (lines ++ shown_lines (take puts ss))
  pub lines_before : (n : ℕ) → n < puts → length (lines ++ shown_lines (take n ss)) ≤ bytes

-- nothing was put, and at most lines of the plan were said
no-loads : (lines : List ℕ) (images : Option (List ℕ)) (ss : List ShownImage) (shown : Shown)
    (held : Contents) (printed : List ℕ)
    → Said lines shown held printed → LoadsPart lines images ss shown held printed
no-loads lines images ss shown held printed d = record {
  puts = 0;
  bytes = d.bytes;
  files = sym d.files ∙ sym (no-images images shown.files);
  out
      = sym d.out
      ∙ ap (λ x. shown.out ++ x) (sym (take-append-le d.bytes lines (shown_lines ss) d.few));
  image_before = let few = d.few in omega (arith, few, length-append lines (shown_lines []));
  lines_before = λ n less. absurd (omega (arith, less));
}

none-said : (lines : List ℕ) (shown : Shown) (held : Contents) (printed : List ℕ)
    → shown.files ≡ held → shown.out ≡ printed → Said lines shown held printed
none-said lines shown held printed files out =
    record { bytes = 0; few = omega arith; files = files; out = append-nil shown.out ∙ out }

-- a first part of a line, whatever comes after it
cut-line : (n : ℕ) (first after : List ℕ)
    → take (min n (length first)) (first ++ after) ≡ take n first
cut-line n first after =
    take-append-le (min n (length first)) first after (omega arith) ∙ take_min n first

-- the first image is put, or none is wanted, and a first part of its line is said
line-begun : (images : Option (List ℕ)) (s : ShownImage) (ss : List ShownImage) (n : ℕ)
    (shown : Shown) (held : Contents) (printed : List ℕ)
    → held ≡ with_images images (s ∷ []) shown.files → shown.out ++ take n s.line ≡ printed
    → LoadsPart [] images (s ∷ ss) shown held printed
line-begun images s ss n shown held printed files out =
    let text = s.line in
    record {
      puts = 1;
      bytes = min n (length text);
      files = files;
      out = sym out ∙ ap (λ x. shown.out ++ x) (sym (cut-line n text (shown_lines ss)));
      image_before = omega (arith, length-append text (shown_lines []));
      lines_before = λ k less. by_none k less;
    }
  where
    by_none : (k : ℕ) → k < 1 → length (shown_lines (take k (s ∷ ss))) ≤ min n (length s.line)
    by_none zero less = omega arith
    by_none (suc k) less = absurd (omega (arith, less))

-- the first image is shown, and more of the others
line-said : (images : Option (List ℕ)) (s : ShownImage) (ss : List ShownImage) (shown next : Shown)
    (held : Contents) (printed : List ℕ)
    → with_images images (s ∷ []) shown.files ≡ next.files → shown.out ++ s.line ≡ next.out
    → LoadsPart [] images ss next held printed → LoadsPart [] images (s ∷ ss) shown held printed
line-said images s ss shown next held printed files out p =
    let text = s.line in
    record {
      puts = suc p.puts;
      bytes = length text + p.bytes;
      files
          = p.files ∙ ap (with_images images (take p.puts ss)) (sym files)
          ∙ more images (take p.puts ss);
      out =
          p.out ∙ ap (λ x. x ++ take p.bytes (shown_lines ss)) (sym out)
          ∙ append_assoc shown.out text (take p.bytes (shown_lines ss))
          ∙ ap (λ x. shown.out ++ x) (sym (take-append-add text (shown_lines ss) p.bytes));
      image_before
          = let h
          = p.image_before in omega (arith, h, length-append text (shown_lines (take p.puts ss)));
      lines_before = λ k less. by_before k less;
    }
  where
    more : (images : Option (List ℕ)) (others : List ShownImage)
        → with_images images others (with_images images (s ∷ []) shown.files)
        ≡ with_images images (s ∷ others) shown.files
    more None others = refl
    more (Some folder) others = refl

    by_before : (k : ℕ) → k < suc p.puts
        → length (shown_lines (take k (s ∷ ss))) ≤ length s.line + p.bytes
    by_before zero less = omega arith
    by_before (suc k) less =
        let h = p.lines_before k (omega (arith, less)) in
        omega (arith, h, length-append s.line (shown_lines (take k ss)))

part-loads : (images : Option (List ℕ)) (ds : List Doing) (shown : Shown) (held : Contents)
    (printed : List ℕ)
    → Part (acts_of images ds) shown held printed
    → LoadsPart [] images (shown_of ds) shown held printed
part-loads images [] shown held printed p =
    no-loads [] images [] shown held printed (none-said [] shown held printed p.0 p.1)
part-loads images (reading path ∷ ds) shown held printed (inl p) =
    no-loads [] images (shown_of ds) shown held printed (none-said [] shown held printed p.0 p.1.1)
part-loads images (reading path ∷ ds) shown held printed (inr p) =
    let q = part-loads images ds (act_done (read path) shown) held printed p in
    record {
      puts = q.puts;
      bytes = q.bytes;
      files = q.files;
      out = q.out;
      image_before = q.image_before;
      lines_before = q.lines_before;
    }
part-loads None (showing s ∷ ds) shown held printed (inl p) =
    line-begun None s (shown_of ds) p.1.0 shown held printed (sym p.0) p.1.1
part-loads None (showing s ∷ ds) shown held printed (inr p) =
    let next = done (image_acts None s) shown in
    line-said None s (shown_of ds) shown next held printed refl refl
    (part-loads None ds next held printed p)
part-loads (Some images) (showing s ∷ ds) shown held printed (inl p) =
    no-loads [] (Some images) (s ∷ shown_of ds) shown held printed
    (none-said [] shown held printed p.0 p.1.1)
part-loads (Some images) (showing s ∷ ds) shown held printed (inr (inl p)) =
    line-begun (Some images) s (shown_of ds) p.1.0 shown held printed (sym p.0) p.1.1
part-loads (Some images) (showing s ∷ ds) shown held printed (inr (inr p)) =
    let next = done (image_acts (Some images) s) shown in
    line-said (Some images) s (shown_of ds) shown next held printed refl refl
    (part-loads (Some images) ds next held printed p)

-- after the lines of the plan
lines-first : (lines : List ℕ) (images : Option (List ℕ)) (ss : List ShownImage)
    (shown next : Shown) (held : Contents) (printed : List ℕ)
    → shown.files ≡ next.files → shown.out ++ lines ≡ next.out
    → LoadsPart [] images ss next held printed → LoadsPart lines images ss shown held printed
lines-first lines images ss shown next held printed files out p = record {
  puts = p.puts;
  bytes = length lines + p.bytes;
  files = p.files ∙ ap (with_images images (take p.puts ss)) (sym files);
  out =
      p.out ∙ ap (λ x. x ++ take p.bytes (shown_lines ss)) (sym out)
      ∙ append_assoc shown.out lines (take p.bytes (shown_lines ss))
      ∙ ap (λ x. shown.out ++ x) (sym (take-append-add lines (shown_lines ss) p.bytes));
  image_before
      = let h
      = p.image_before in omega (arith, h, length-append lines (shown_lines (take p.puts ss)));
  lines_before
      = λ n less. let h
      = p.lines_before n less in omega (arith, h, length-append lines (shown_lines (take n ss)));
}

pub loads-part : (lines : List ℕ) (images : Option (List ℕ)) (ds : List Doing) (acts : List Act)
    (shown : Shown) (held : Contents) (printed : List ℕ)
    → AreOfLoads lines images ds acts → Part acts shown held printed
    → LoadsPart lines images (shown_of ds) shown held printed
loads-part lines images ds acts shown held printed a p =
    let loading = acts_of images ds in
    let s1 = done a.before shown in
    let s2 = done (said lines) s1 in
    let h1 = after-reads a.before shown a.before_reads in
    let h2 = after-said lines s1 in
    elim (part-append a.before (said lines ++ (loading ++ a.rest)) shown held printed
    (subst (λ l. Part l shown held printed) a.are p)) [
      | inl q ↦
          let h = part-reads a.before shown held printed a.before_reads q in
          no-loads lines images (shown_of ds) shown held printed
          (none-said lines shown held printed h.0 h.1)
      | inr q ↦ elim (part-append (said lines) (loading ++ a.rest) s1 held printed q) [
        | inl r ↦
            let s = part-said lines s1 held printed r in
            no-loads lines images (shown_of ds) shown held printed (record {
              bytes = s.bytes;
              few = s.few;
              files = sym h1.files ∙ s.files;
              out = ap (λ o. o ++ take s.bytes lines) (sym h1.out) ∙ s.out;
            })
        | inr r ↦
            lines-first lines images (shown_of ds) shown s2 held printed (sym (h2.files ∙ h1.files))
            (sym (h2.out ∙ ap (λ o. o ++ lines) h1.out))
            (part-loads images ds s2 held printed
            (part-unread loading a.rest s2 held printed a.rest_reads r))
      ]
    ]
