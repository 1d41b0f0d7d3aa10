-- Runs of stages: what stages that are made of two result in, and stages that only read.
use Rattle.std.proofs.Common.{◌≡◌, ◌∙◌, ℕ, Bool, true, false, List, [], ◌∷◌, ◌++◌, refl, ap, subst}
use Rattle.std.specs.Prelude.{◌&&◌}
use Rattle.std.specs.FinMap.{get}
use Rattle.std.specs.List.{list_all}
use Rattle.std.proofs.lemmas.List.Folds.{list_all-append}
use Rattle.outside_calls.specs.Contents.{Contents}
use Rattle.km_course.specs.Course.{Act, Outcome, Run, Stage, after, file_done, continued, ◌>>=◌}
use Rattle.km_course.specs.Course.{given, act_with, each_from, read_outcome, lists_or, reads_or}
use Rattle.km_course.specs.Course.{when◌then◌else◌}
use Rattle.km_course.specs.Course.Act.{read, list, say, warn, put}
use Rattle.km_course.specs.Course.Outcome.{value, end}
use Rattle.km_course.specs.declared.end.End.{End}
use Rattle.laws_planned_loads.specs.Acts.{is_reading}

pub after-append : (a b : List Act) (files : Contents)
    → after (a ++ b) files ≡ after b (after a files)
after-append [] b files = refl
after-append (act ∷ a) b files = after-append a b (file_done act files)

-- acts, and how they end
abbrev pub run_of : {X : Type 0} → List Act → Outcome X → Run X
run_of acts outcome = record { acts = acts; outcome = outcome }

-- acts that come before a run
abbrev pub joined : {X : Type 0} → List Act → Run X → Run X
joined acts run = record { acts = acts ++ run.acts; outcome = run.outcome }

-- a stage that gives a value, and the next one
pub run-then : {X Y : Type 0} (stage : Stage X) (next : X → Stage Y) (files : Contents)
    (acts : List Act) (x : X)
    → stage.run files ≡ run_of acts (value x)
    → (stage >>= next).run files ≡ joined acts ((next x).run (after acts files))
unfolding ◌>>=◌ continued
run-then stage next files acts x is = ap (λ r. continued r.acts r.outcome next files) is

-- a stage that ends for good
pub run-ends : {X Y : Type 0} (stage : Stage X) (next : X → Stage Y) (files : Contents)
    (acts : List Act) (e : End)
    → stage.run files ≡ run_of acts (end e) → (stage >>= next).run files ≡ run_of acts (end e)
unfolding ◌>>=◌ continued
run-ends stage next files acts e is = ap (λ r. continued r.acts r.outcome next files) is

pub run-given : {X : Type 0} (o : Outcome X) (files : Contents) → (given o).run files ≡ run_of [] o
unfolding given
run-given o files = refl

pub run-read : (absent : Outcome (List ℕ)) (path : List ℕ) (files : Contents)
    → (reads_or absent path).run files
    ≡ run_of (read path ∷ []) (read_outcome absent path (get files path))
unfolding act_with
run-read absent path files = refl

-- two stages gave a value: so did the first, and the second over the files that the first left
pub record GoesOn {X Y : Type 0} (stage : Stage X) (next : X → Stage Y) (files : Contents) (y : Y) :
    Type 0 where
  pub mid : X
  pub first : (stage.run files).outcome ≡ value mid
  pub rest : ((next mid).run (after (stage.run files).acts files)).outcome ≡ value y
  pub acts : ((stage >>= next).run files).acts
      ≡ (stage.run files).acts ++ ((next mid).run (after (stage.run files).acts files)).acts

continued-on : {X Y : Type 0} (acts : List Act) (o : Outcome X) (next : X → Stage Y)
    (files : Contents) (y : Y)
    → (continued acts o next files).outcome ≡ value y
    → (mid : X) × (o ≡ value mid) × (((next mid).run (after acts files)).outcome ≡ value y)
unfolding continued
continued-on acts (value x) next files y is = (x, refl, is)
continued-on acts (end e) next files y is = cc

pub goes-on : {X Y : Type 0} (stage : Stage X) (next : X → Stage Y) (files : Contents) (y : Y)
    → ((stage >>= next).run files).outcome ≡ value y → GoesOn stage next files y
unfolding ◌>>=◌ continued
goes-on stage next files y is =
    let h = continued-on (stage.run files).acts (stage.run files).outcome next files y is in
    record {
      mid = h.0;
      first = h.1;
      rest = h.2;
      acts = ap (λ o. (continued (stage.run files).acts o next files).acts) h.1;
    }

-- ---- stages that only read

-- acts that only read leave the files as they were
pub read-leaves : (acts : List Act) (files : Contents) → list_all is_reading acts ≡ true
    → after acts files ≡ files
read-leaves [] files only = refl
read-leaves (read path ∷ acts) files only = read-leaves acts files only
read-leaves (list folder ∷ acts) files only = read-leaves acts files only
read-leaves (say bytes ∷ acts) files only = cc
read-leaves (warn bytes ∷ acts) files only = cc
read-leaves (put path bytes ∷ acts) files only = cc

abbrev pub OnlyReads : {X : Type 0} → Stage X → Type 0
OnlyReads stage = (files : Contents) → list_all is_reading (stage.run files).acts ≡ true

pub both-read : (a b : List Act) → list_all is_reading a ≡ true → list_all is_reading b ≡ true
    → list_all is_reading (a ++ b) ≡ true
both-read a b first later =
    list_all-append is_reading a b ∙ ap (λ x. x && list_all is_reading b) first ∙ later

reads-continued : {X Y : Type 0} (acts : List Act) (o : Outcome X) (next : X → Stage Y)
    (files : Contents)
    → list_all is_reading acts ≡ true → ((x : X) → OnlyReads (next x))
    → list_all is_reading (continued acts o next files).acts ≡ true
unfolding continued
reads-continued acts (value x) next files first later =
    both-read acts ((next x).run (after acts files)).acts first (later x (after acts files))
reads-continued acts (end e) next files first later = first

pub reads-then : {X Y : Type 0} (stage : Stage X) (next : X → Stage Y) → OnlyReads stage
    → ((x : X) → OnlyReads (next x)) → OnlyReads (stage >>= next)
unfolding ◌>>=◌
reads-then stage next first later =
    λ files. reads-continued (stage.run files).acts (stage.run files).outcome next files
    (first files) later

pub reads-given : {X : Type 0} (o : Outcome X) → OnlyReads (given o)
unfolding given
reads-given o = λ files. refl

pub reads-file : (absent : Outcome (List ℕ)) (path : List ℕ) → OnlyReads (reads_or absent path)
unfolding act_with
reads-file absent path = λ files. refl

pub reads-names : (absent : Outcome (List (List ℕ))) (fits : List ℕ → Bool) (folder : List ℕ)
    → OnlyReads (lists_or absent fits folder)
unfolding act_with
reads-names absent fits folder = λ files. refl

pub reads-when : {X : Type 0} (test : Bool) (a b : Stage X) → OnlyReads a → OnlyReads b
    → OnlyReads (when test then a else b)
reads-when true a b first second = first
reads-when false a b first second = second

pub reads-each : {A S : Type 0} (step : S → A → Stage S) → ((s : S) (a : A) → OnlyReads (step s a))
    → (s : S) (items : List A) → OnlyReads (each_from step s items)
reads-each step each s [] = reads-given (value s)
reads-each step each s (item ∷ items) =
    reads-then (step s item) (λ next. each_from step next items) (each s item)
    (λ next. reads-each step each next items)

-- after a stage that only reads
pub reads-on : {X Y : Type 0} (stage : Stage X) (next : X → Stage Y) (files : Contents) (y : Y)
    → OnlyReads stage → ((stage >>= next).run files).outcome ≡ value y
    → (mid : X) × ((stage.run files).outcome ≡ value mid)
    × (((next mid).run files).outcome ≡ value y)
reads-on stage next files y only is =
    let h = goes-on stage next files y is in (
      h.mid,
      h.first,
      subst (λ fs. ((next h.mid).run fs).outcome ≡ value y)
          (read-leaves (stage.run files).acts files (only files)) h.rest,
    )

-- what is given, and the next stage
pub given-on : {X Y : Type 0} (o : Outcome X) (next : X → Stage Y) (files : Contents) (y : Y)
    → ((given o >>= next).run files).outcome ≡ value y
    → (mid : X) × (o ≡ value mid) × (((next mid).run files).outcome ≡ value y)
unfolding given
given-on o next files y is = reads-on (given o) next files y (reads-given o) is

-- the run of a stage that only reads and gives a value, and the next one
pub run-on : {X Y : Type 0} (stage : Stage X) (next : X → Stage Y) (files : Contents) (x : X)
    → list_all is_reading (stage.run files).acts ≡ true → (stage.run files).outcome ≡ value x
    → (stage >>= next).run files ≡ joined (stage.run files).acts ((next x).run files)
run-on stage next files x only is =
    run-then stage next files (stage.run files).acts x (ap (run_of (stage.run files).acts) is)
    ∙ ap (λ fs. joined (stage.run files).acts ((next x).run fs))
    (read-leaves (stage.run files).acts files only)
