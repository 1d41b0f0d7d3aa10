-- What acts leave, whole and cut short.
use Rattle.std.proofs.Common.{◌≡◌, ℕ, ◌≤◌, min, true, List, [], ◌∷◌, ◌++◌, length, take, refl, sym}
use Rattle.std.proofs.Common.{ap, subst, inl, inr, arith, append-nil, ◌∙◌}
use Rattle.std.specs.Prelude.{◌⊎◌, Option, Some, ⊤}
use Rattle.std.specs.List.{list_all}
use Rattle.std.proofs.lemmas.List.{take_all, take_min}
use Rattle.outside_calls.specs.Contents.{Contents}
use Rattle.km_course.specs.Carries.{CutShort, closing_acts, outcome_line}
use Rattle.km_course.specs.Course.{Act, Outcome}
use Rattle.km_course.specs.Course.Act.{read, list, say, warn, put}
use Rattle.km_course.specs.Course.Outcome.{value, end}
use Rattle.km_course.specs.World.{World, Shown, act_begun, act_done, begun, done}
use Rattle.laws_planned_loads.specs.Acts.{is_reading, said}

-- ---- acts that are done

-- files and outputs hold this, however many calls were made
pub record Shows (shown : Shown) (held : Contents) (printed warned : List ℕ) : Type 0 where
  pub files : shown.files ≡ held
  pub out : shown.out ≡ printed
  pub err : shown.err ≡ warned

pub after-reads : (acts : List Act) (shown : Shown) → list_all is_reading acts ≡ true
    → Shows (done acts shown) shown.files shown.out shown.err
after-reads [] shown only = record { files = refl; out = refl; err = refl }
after-reads (read path ∷ acts) shown only = after-reads acts (act_done (read path) shown) only
after-reads (list path ∷ acts) shown only = after-reads acts (act_done (list path) shown) only
after-reads (say bytes ∷ acts) shown only = cc
after-reads (warn bytes ∷ acts) shown only = cc
after-reads (put path bytes ∷ acts) shown only = cc

pub after-said : (bytes : List ℕ) (shown : Shown)
    → Shows (done (said bytes) shown) shown.files (shown.out ++ bytes) shown.err
after-said [] shown = record { files = refl; out = sym (append-nil shown.out); err = refl }
after-said (byte ∷ bytes) shown = record { files = refl; out = refl; err = refl }

pub after-closing : (o : Outcome ⊤) (shown : Shown)
    → Shows (done (closing_acts o) shown) shown.files shown.out (shown.err ++ outcome_line o)
after-closing (value x) shown =
    record { files = refl; out = refl; err = sym (append-nil shown.err) }
after-closing (end e) shown = record { files = refl; out = refl; err = refl }

-- ---- first parts of acts

-- A first part of the acts was done and the next one begun: then files hold this and the output has
-- this.
abbrev pub Part : List Act → Shown → Contents → List ℕ → Type 0
Part [] shown held printed = (shown.files ≡ held) × (shown.out ≡ printed)
Part (act ∷ acts) shown held printed =
    ((shown.files ≡ held) × ((n : ℕ) × ((act_begun n act shown).out ≡ printed)))
    ⊎ Part acts (act_done act shown) held printed

begun-files : (n : ℕ) (act : Act) (shown : Shown) → (act_begun n act shown).files ≡ shown.files
begun-files n (read path) shown = refl
begun-files n (list path) shown = refl
begun-files n (say bytes) shown = refl
begun-files n (warn bytes) shown = refl
begun-files n (put path bytes) shown = refl

part-of : (before rest : List Act) (count : ℕ) (shown : Shown)
    → Part (before ++ rest) shown (begun count rest (done before shown)).files
    (begun count rest (done before shown)).out
part-of [] [] count shown = (refl, refl)
part-of [] (act ∷ rest) count shown = inl (sym (begun-files count act shown), (count, refl))
part-of (act ∷ before) rest count shown = inr (part-of before rest count (act_done act shown))

-- a run that was cut short left what a first part of its acts leaves
pub record Cut (acts : List Act) (shown : Shown) (new : World) : Type 0 where
  pub held : Contents
  pub printed : List ℕ
  pub part : Part acts shown held printed
  pub files : new.files.contents ≡ Some held
  pub out : new.out.told ≡ Some printed

pub cut-at : {shown : Shown} {old new : World} {text : Option Act → List ℕ}
    {cause : ℕ → Shown → Option Act → Type 0} (acts : List Act)
    → CutShort acts shown old new text cause → Cut acts shown new
cut-at {shown} acts c =
    let now = begun c.count c.rest (done c.before shown) in
    record {
      held = now.files;
      printed = now.out;
      part
          = subst (λ a. Part a shown now.files now.out) (sym c.split)
          (part-of c.before c.rest c.count shown);
      files = c.tells.files;
      out = c.tells.out;
    }

-- a part of two lists is one of the first, or of the second after all of the first
pub part-append : (a b : List Act) (shown : Shown) (held : Contents) (printed : List ℕ)
    → Part (a ++ b) shown held printed
    → Part a shown held printed ⊎ Part b (done a shown) held printed
part-append [] b shown held printed p = inr p
part-append (act ∷ a) b shown held printed (inl p) = inl (inl p)
part-append (act ∷ a) b shown held printed (inr p) =
    elim (part-append a b (act_done act shown) held printed p)
    [ inl q ↦ inl (inr q) | inr q ↦ inr q ]

-- ---- acts that neither put a file nor say anything

abbrev pub IsSilent : Act → Type 0
IsSilent (put path bytes) = ⊥
IsSilent (say bytes) = ⊥
IsSilent act = Unit {0}

abbrev pub AreSilent : List Act → Type 0
AreSilent [] = Unit {0}
AreSilent (act ∷ acts) = IsSilent act × AreSilent acts

reading-silent : (acts : List Act) → list_all is_reading acts ≡ true → AreSilent acts
reading-silent [] only = tt
reading-silent (read path ∷ acts) only = (tt, reading-silent acts only)
reading-silent (list path ∷ acts) only = (tt, reading-silent acts only)
reading-silent (say bytes ∷ acts) only = cc
reading-silent (warn bytes ∷ acts) only = cc
reading-silent (put path bytes ∷ acts) only = cc

closing-silent : (o : Outcome ⊤) → AreSilent (closing_acts o)
closing-silent (value x) = tt
closing-silent (end e) = (tt, tt)

pub part-silent : (acts : List Act) (shown : Shown) (held : Contents) (printed : List ℕ)
    → AreSilent acts → Part acts shown held printed → (shown.files ≡ held) × (shown.out ≡ printed)
part-silent [] shown held printed silent p = p
part-silent (read path ∷ acts) shown held printed silent (inl p) = (p.0, p.1.1)
part-silent (read path ∷ acts) shown held printed silent (inr p) =
    part-silent acts (act_done (read path) shown) held printed silent.1 p
part-silent (list path ∷ acts) shown held printed silent (inl p) = (p.0, p.1.1)
part-silent (list path ∷ acts) shown held printed silent (inr p) =
    part-silent acts (act_done (list path) shown) held printed silent.1 p
part-silent (warn bytes ∷ acts) shown held printed silent (inl p) = (p.0, p.1.1)
part-silent (warn bytes ∷ acts) shown held printed silent (inr p) =
    part-silent acts (act_done (warn bytes) shown) held printed silent.1 p
part-silent (say bytes ∷ acts) shown held printed silent p = absurd silent.0
part-silent (put path bytes ∷ acts) shown held printed silent p = absurd silent.0

pub part-reads : (acts : List Act) (shown : Shown) (held : Contents) (printed : List ℕ)
    → list_all is_reading acts ≡ true → Part acts shown held printed
    → (shown.files ≡ held) × (shown.out ≡ printed)
part-reads acts shown held printed only p =
    part-silent acts shown held printed (reading-silent acts only) p

-- what silent acts at the end leave is what is left without them
part-drop : (a b : List Act) (shown : Shown) (held : Contents) (printed : List ℕ) → AreSilent b
    → Part (a ++ b) shown held printed → Part a shown held printed
part-drop [] b shown held printed silent p = part-silent b shown held printed silent p
part-drop (act ∷ a) b shown held printed silent (inl p) = inl p
part-drop (act ∷ a) b shown held printed silent (inr p) =
    inr (part-drop a b (act_done act shown) held printed silent p)

pub part-unread : (acts rest : List Act) (shown : Shown) (held : Contents) (printed : List ℕ)
    → list_all is_reading rest ≡ true → Part (acts ++ rest) shown held printed
    → Part acts shown held printed
part-unread acts rest shown held printed only p =
    part-drop acts rest shown held printed (reading-silent rest only) p

pub part-closed : (acts : List Act) (o : Outcome ⊤) (shown : Shown) (held : Contents)
    (printed : List ℕ)
    → Part (acts ++ closing_acts o) shown held printed → Part acts shown held printed
part-closed acts o shown held printed p =
    part-drop acts (closing_acts o) shown held printed (closing-silent o) p

-- ---- lines that are said

-- A first part of some lines was written.
pub record Said (lines : List ℕ) (shown : Shown) (held : Contents) (printed : List ℕ) : Type 0 where
  pub bytes : ℕ
  pub few : bytes ≤ length lines
  pub files : shown.files ≡ held
  pub out : shown.out ++ take bytes lines ≡ printed

pub part-said : (lines : List ℕ) (shown : Shown) (held : Contents) (printed : List ℕ)
    → Part (said lines) shown held printed → Said lines shown held printed
part-said [] shown held printed p =
    record { bytes = 0; few = omega arith; files = p.0; out = append-nil shown.out ∙ p.1 }
part-said (byte ∷ lines) shown held printed (inl p) =
    let whole : List ℕ = byte ∷ lines in
    record {
      bytes = min p.1.0 (length whole);
      few = omega arith;
      files = p.0;
      out = ap (λ x. shown.out ++ x) (take_min p.1.0 whole) ∙ p.1.1;
    }
part-said (byte ∷ lines) shown held printed (inr p) =
    let whole : List ℕ = byte ∷ lines in
    record {
      bytes = length whole;
      few = omega arith;
      files = p.0;
      out = ap (λ x. shown.out ++ x) (take_all (length whole) whole (omega arith)) ∙ p.1;
    }
