-- The two halves of the headline meet.
use Rattle.std.proofs.Common.{◌≡◌, ◌∙◌, ℕ, List, [], false, refl, sym, ap, subst, inl, inr, arith}
use Rattle.std.specs.Prelude.{Option, Some, ◌⊎◌, if◌then◌else◌}
use Rattle.outside_calls.specs.Contents.{Contents}
use Rattle.km_course.specs.Course.{Outcome}
use Rattle.km_course.specs.Course.Outcome.{value, end}
use Rattle.km_course.specs.Lines.{end_status}
use Rattle.km_course.specs.World.{World, Shown}
use Rattle.km_course.specs.declared.end.End.{End}
use Rattle.km_course.specs.declared.end.End.TheVariants.{Refused, NotUnderstood, NoFile, TooLarge}
use Rattle.km_course.specs.declared.end.End.TheVariants.{Inner}
use Rattle.kmod_words.specs.declared.depmod.DepmodWords.{DepmodWords}
use Rattle.command_depmod.specs.Depmod.{target_of_request}
use Rattle.command_depmod.specs.Files.{all_files}
use Rattle.laws_planned_loads.specs.Courses.{Loading}
use Rattle.laws_depmod_leaves.specs.Comes.{ComesTo, IndexedTree, IsIndexed, made_of}
use Rattle.laws_depmod_leaves.specs.Left.{IsInPlace, LeftIndexed, with_files}
use Rattle.laws_depmod_leaves.proofs.LeftLemmas.{left-indexed}
use Rattle.laws_depmod_leaves.proofs.TableLemmas.{left-for-loads}
use Rattle.kmod_cli.specs.CameTo.{CameTo}
use Rattle.kmod_cli.specs.Halves.{HalvesMeet}
use Rattle.km_course.specs.Carries.{outcome_status}
use Rattle.kmod_cli.specs.Indexes.{IsIndexing, IsPartOf, told_of}

some-status : (e : End) → (0 ≡ end_status e) ⊎ (◌≡◌ {A = ℕ} 0 3) ⊎ (◌≡◌ {A = ℕ} 0 4) → ⊥
some-status (Refused refusal) (inl is) = absurd (omega (arith, is))
some-status NotUnderstood (inl is) = absurd (omega (arith, is))
some-status (NoFile path) (inl is) = absurd (omega (arith, is))
some-status (TooLarge path) (inl is) = absurd (omega (arith, is))
some-status (Inner line) (inl is) = absurd (omega (arith, is))
some-status e (inr (inl is)) = absurd (omega (arith, is))
some-status e (inr (inr is)) = absurd (omega (arith, is))

-- what a depmod that is done left
pub record IsDone (asked : DepmodWords) (shown : Shown) (new : World) : Type 0 where
  pub index : IndexedTree
  pub is : IsIndexed shown.files asked index
  pub files : new.files.contents
      ≡ Some
      (with_files (target_of_request asked) (made_of index) (all_files asked.extra) shown.files)

pub was-done : (asked : DepmodWords) (shown : Shown) (old new : World) → asked.dry_run ≡ false
    → (o : Outcome IndexedTree) → ComesTo shown.files asked o
    → CameTo (outcome_status o) (told_of asked o shown) (IsPartOf asked o shown) old new 0
    → IsDone asked shown new
was-done asked shown old new wet (end e) comes call = absurd (some-status e call.ended)
was-done asked shown old new wet (value i) comes call =
    let told = call.whole refl in
    record {
      index = i;
      is = comes;
      files =
          told.1.files
          ∙ ap (λ dry. Some
          (with_files (target_of_request asked) (made_of i)
          (if dry then [] else all_files asked.extra) shown.files)) wet;
    }

same-files : (a b : Contents) → ◌≡◌ {A = Option Contents} (Some a) (Some b) → a ≡ b
same-files a b is = cc

pub halves-meet : HalvesMeet
halves-meet first second asked loads l shown told old new later last status d over m =
    let done : IsIndexing asked shown old new 0
    = d.call.understood shown d.tells asked d.words_ask in
    let h : IsDone asked shown new
    = was-done asked shown old new d.place.replaces done.outcome done.comes done.call in
    let i : IndexedTree = h.index in
    let same : with_files (target_of_request asked) (made_of i) (all_files asked.extra) shown.files
    ≡ told.files
    = same-files _ told.files (sym h.files ∙ over) in
    let left : LeftIndexed asked i told.files
    = subst (LeftIndexed asked i) same (left-indexed shown.files asked i d.place h.is) in
    let l' : Loading = record l { tree = i.tree; indexed = left.kernel; builtin = i.builtin } in (
      i,
      h.is,
      left,
      m.call told m.tells loads m.words_ask l' (record {
        mode = m.mode;
        stands
            = left-for-loads shown.files asked i told.files loads l.kernel l.region h.is left
            m.after;
        machine = m.after.machine;
        came
            = record {
              knows = m.came.knows;
              listed = m.came.listed;
              planned = m.came.planned;
              runs_none = m.came.runs_none;
            };
      }),
    )
