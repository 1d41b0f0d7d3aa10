-- The stages of the two files of `--extra`.
use Rattle.std.proofs.Common.{◌≡◌, ℕ, List, [], ◌∷◌, refl, sym, ap, subst, ◌∙◌, inl, inr}
use Rattle.std.specs.Prelude.{Option, Some, None, option_map, Err, ◌⊎◌}
use Rattle.km_names.specs.First.{first}
use Rattle.module_facts.specs.declared.facts.Facts.{Facts}
use Rattle.km_course.specs.Course.{Stage, gives}
use Rattle.km_course.specs.Course.Outcome.{value}
use Rattle.km_course.specs.Follows.{Answers}
use Rattle.km_course.specs.declared.refusal.Refusal.{Refusal}
use Rattle.km_course.specs.declared.stop.Stop.{Stop}
use Rattle.km_course.specs.declared.stop.Stop.TheVariants.{Memory}
use Rattle.command_depmod.specs.declared.files.DepmodFile.TheVariants.{BuiltinAliasBin, Devname}
use Rattle.command_depmod.specs.declared.files.ExtraFiles.{ExtraFiles}
use Rattle.command_depmod.specs.Extra.{extra_files, extra_outcome, extra_refusal, refused_stop}
use Rattle.command_depmod.specs.Extra.{size_refusal}
use Rattle.km_course.specs.Course.{value_unless}

-- the stage after modules.builtin.modinfo was read
abbrev pub info_given : List ℕ → Stage (Option (List ℕ))
info_given bytes = gives (Some bytes)

-- one that isn't made stops for its refusal, or because it is out of memory
abbrev pub StopsFor : Option Refusal → Stop → Type 0
StopsFor refused stop = (stop ≡ Memory) ⊎ (option_map refused_stop refused ≡ Some stop)

same-stop : (refusal : Refusal) (stop : Stop) → Some (refused_stop refusal) ≡ Some stop
    → refused_stop refusal ≡ stop
same-stop refusal stop is = cc

stopped : (made : Option ExtraFiles) (whole refused : Option Refusal) (stop : Stop)
    → ((refusal : Refusal) → refused ≡ Some refusal → whole ≡ Some refusal) → StopsFor refused stop
    → Answers (λ (x : Option ExtraFiles). x) (value_unless (λ refusal. refusal) whole made)
    (Err stop)
stopped made whole refused stop is (inl wanting) =
    subst (λ s. Answers (λ (x : Option ExtraFiles). x)
    (value_unless (λ refusal. refusal) whole made) (Err s))
    (sym wanting) tt
stopped made whole None stop is (inr ended) = absurd (cc)
stopped made whole (Some refusal) stop is (inr ended) =
    subst (λ s. Answers (λ (x : Option ExtraFiles). x)
    (value_unless (λ refusal. refusal) whole made) (Err s))
    (same-stop refusal stop ended)
    (ap (λ w. value_unless (λ refusal. refusal) w made) (is refusal refl))

-- the first of the two is too large
pub first-stopped : (tree : List Facts) (info : List ℕ) (stop : Stop)
    → StopsFor (size_refusal BuiltinAliasBin (extra_files tree info).builtin_alias_bin) stop
    → Answers (λ (x : Option ExtraFiles). x) (extra_outcome tree (Some info)) (Err stop)
unfolding extra_outcome
first-stopped tree info stop why =
    let e : ExtraFiles = extra_files tree info in
    let second = size_refusal Devname e.devname in
    stopped (Some e) (extra_refusal (Some e)) (size_refusal BuiltinAliasBin e.builtin_alias_bin)
    stop
    (λ refusal is. ap (λ o. first (o ∷ second ∷ [])) is) why

-- the second one is
pub second-stopped : (tree : List Facts) (info : List ℕ) (stop : Stop)
    → size_refusal BuiltinAliasBin (extra_files tree info).builtin_alias_bin ≡ None
    → StopsFor (size_refusal Devname (extra_files tree info).devname) stop
    → Answers (λ (x : Option ExtraFiles). x) (extra_outcome tree (Some info)) (Err stop)
unfolding extra_outcome
second-stopped tree info stop small why =
    let e : ExtraFiles = extra_files tree info in
    let second = size_refusal Devname e.devname in
    stopped (Some e) (extra_refusal (Some e)) second stop
    (λ refusal is. ap (λ o. first (o ∷ second ∷ [])) small ∙ ap (λ o. first (None ∷ o ∷ [])) is) why

-- neither is
pub both-made : (tree : List Facts) (info : List ℕ) (made : ExtraFiles)
    → size_refusal BuiltinAliasBin (extra_files tree info).builtin_alias_bin ≡ None
    → size_refusal Devname (extra_files tree info).devname ≡ None → extra_files tree info ≡ made
    → extra_outcome tree (Some info) ≡ value (Some made)
unfolding extra_outcome
both-made tree info made one two is =
    let e : ExtraFiles = extra_files tree info in
    let second = size_refusal Devname e.devname in
    let small : extra_refusal (Some e) ≡ None
    = ap (λ o. first (o ∷ second ∷ [])) one ∙ ap (λ o. first (None ∷ o ∷ [])) two in
    ap (λ o. value_unless (λ refusal. refusal) o (Some e)) small ∙ ap (λ x. value (Some x)) is

-- none are wanted
pub none-made : (tree : List Facts) → extra_outcome tree None ≡ value None
unfolding extra_outcome
none-made tree = refl
