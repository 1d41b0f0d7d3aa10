-- Why stages may end, and what they result in if the first of them gives a value or ends.
use Rattle.std.proofs.Common.{◌≡◌, ◌∙◌, ℕ, Bool, true, false, cond, List, [], ◌∷◌, length, refl}
use Rattle.std.proofs.Common.{sym, ap, subst}
use Rattle.std.specs.Prelude.{Option, Some, None, nat_lt}
use Rattle.std.specs.FinMap.{get}
use Rattle.km_names.specs.Limit.{file_limit}
use Rattle.outside_calls.specs.Contents.{Contents, is_path, listed}
use Rattle.outside_calls.specs.FilesSeen.{list_limit}
use Rattle.km_course.specs.Course.{Act, Outcome, Stage, after, continued, ◌>>=◌, given, gives}
use Rattle.km_course.specs.Course.{act_with, each_from, list_outcome, lists_or, puts, read_outcome}
use Rattle.km_course.specs.Course.{reads_or, says, says_any, when◌then◌else◌}
use Rattle.km_course.specs.Course.Outcome.{value, end}
use Rattle.km_course.specs.declared.end.End.{End}
use Rattle.km_course.specs.declared.end.End.TheVariants.{TooLarge}
use Rattle.laws_planned_loads.proofs.RunLemmas.{OnlyReads, run-ends, run-given, run-on, run_of}

-- ---- what two stages come to

pub on-value : {X Y : Type 0} (stage : Stage X) (next : X → Stage Y) (files : Contents) (x : X)
    → OnlyReads stage → (stage.run files).outcome ≡ value x
    → ((stage >>= next).run files).outcome ≡ ((next x).run files).outcome
on-value stage next files x only is =
    ap (λ r. r.outcome) (run-on stage next files x (only files) is)

pub on-end : {X Y : Type 0} (stage : Stage X) (next : X → Stage Y) (files : Contents) (e : End)
    → (stage.run files).outcome ≡ end e → ((stage >>= next).run files).outcome ≡ end e
on-end stage next files e is =
    ap (λ r. r.outcome)
    (run-ends stage next files (stage.run files).acts e (ap (run_of (stage.run files).acts) is))

pub given-comes : {X : Type 0} (o : Outcome X) (files : Contents)
    → ((given o).run files).outcome ≡ o
given-comes o files = ap (λ r. r.outcome) (run-given o files)

-- ---- ends of which something is true

-- what a stage ends with, over whatever files, is so
pub record EndsIn {X : Type 0} (P : End → Type 0) (stage : Stage X) : Type 0 where
  pub ends : (files : Contents) (e : End) → (stage.run files).outcome ≡ end e → P e

pub same-end : {X : Type 0} (d e : End) → ◌≡◌ {A = Outcome X} (end d) (end e) → d ≡ e
same-end d e is = cc

pub no-end : {X : Type 0} (x : X) (e : End) → ◌≡◌ {A = Outcome X} (value x) (end e) → ⊥
no-end x e is = cc

pub so-ends : {X : Type 0} (P : End → Type 0) (d e : End) → P d
    → ◌≡◌ {A = Outcome X} (end d) (end e) → P e
so-ends P d e p is = subst P (same-end d e is) p

ends-continued : {X Y : Type 0} (P : End → Type 0) (acts : List Act) (o : Outcome X)
    (next : X → Stage Y) (files : Contents) (e : End)
    → ((d : End) → o ≡ end d → P d) → ((x : X) → EndsIn P (next x))
    → (continued acts o next files).outcome ≡ end e → P e
unfolding continued
ends-continued P acts (value x) next files e first later is = (later x).ends (after acts files) e is
ends-continued P acts (end d) next files e first later is = so-ends P d e (first d refl) is

pub ends-then : {X Y : Type 0} (P : End → Type 0) (stage : Stage X) (next : X → Stage Y)
    → EndsIn P stage → ((x : X) → EndsIn P (next x)) → EndsIn P (stage >>= next)
unfolding ◌>>=◌
ends-then P stage next first later = record {
  ends
      = λ files e is. ends-continued P (stage.run files).acts (stage.run files).outcome next files e
      (λ d at. first.ends files d at) later is;
}

pub ends-given : {X : Type 0} (P : End → Type 0) (o : Outcome X) → ((e : End) → o ≡ end e → P e)
    → EndsIn P (given o)
ends-given P o each = record { ends = λ files e is. each e (sym (given-comes o files) ∙ is) }

pub ends-gives : {X : Type 0} (P : End → Type 0) (x : X) → EndsIn P (gives x)
ends-gives P x = ends-given P (value x) (λ e is. absurd (no-end x e is))

pub ends-read : (P : End → Type 0) (absent : Outcome (List ℕ)) (path : List ℕ)
    → ((e : End) → absent ≡ end e → P e) → P (TooLarge path) → EndsIn P (reads_or absent path)
unfolding act_with
ends-read P absent path none large = record { ends = λ files e is. by_found (get files path) e is }
  where
    by_size : (v : Bool) (bytes : List ℕ) (e : End)
        → cond v (end (TooLarge path)) (value bytes) ≡ end e → P e
    by_size true bytes e is = so-ends P (TooLarge path) e large is
    by_size false bytes e is = absurd (no-end bytes e is)

    by_found : (found : Option (List ℕ)) (e : End) → read_outcome absent path found ≡ end e → P e
    by_found None e is = none e is
    by_found (Some bytes) e is = by_size (nat_lt file_limit (length bytes)) bytes e is

pub ends-names : (P : End → Type 0) (absent : Outcome (List (List ℕ))) (fits : List ℕ → Bool)
    (folder : List ℕ)
    → ((e : End) → absent ≡ end e → P e) → P (TooLarge folder)
    → EndsIn P (lists_or absent fits folder)
unfolding act_with
ends-names P absent fits folder none large =
    record {
      ends
          = λ files e is. by_found (listed is_path folder files) (listed fits folder files) e is;
    }
  where
    by_size : (v : Bool) (names : List (List ℕ)) (e : End)
        → cond v (end (TooLarge folder)) (value names) ≡ end e → P e
    by_size true names e is = so-ends P (TooLarge folder) e large is
    by_size false names e is = absurd (no-end names e is)

    by_found : (below names : List (List ℕ)) (e : End)
        → list_outcome absent folder below names ≡ end e → P e
    by_found [] names e is = none e is
    by_found (path ∷ below) names e is = by_size (nat_lt list_limit (length names)) names e is

pub ends-says : (P : End → Type 0) (bytes : List ℕ) → EndsIn P (says bytes)
unfolding act_with
ends-says P bytes = record { ends = λ files e is. absurd (no-end tt e is) }

pub ends-puts : (P : End → Type 0) (path bytes : List ℕ) → EndsIn P (puts path bytes)
unfolding act_with
ends-puts P path bytes = record { ends = λ files e is. absurd (no-end tt e is) }

pub ends-says_any : (P : End → Type 0) (bytes : List ℕ) → EndsIn P (says_any bytes)
ends-says_any P [] = ends-gives P tt
ends-says_any P (byte ∷ bytes) = ends-says P (byte ∷ bytes)

pub ends-when : {X : Type 0} (P : End → Type 0) (test : Bool) (a b : Stage X) → EndsIn P a
    → EndsIn P b → EndsIn P (when test then a else b)
ends-when P true a b first second = first
ends-when P false a b first second = second

pub ends-each : {A S : Type 0} (P : End → Type 0) (step : S → A → Stage S)
    → ((s : S) (a : A) → EndsIn P (step s a)) → (s : S) (items : List A)
    → EndsIn P (each_from step s items)
ends-each P step each s [] = ends-gives P s
ends-each P step each s (item ∷ items) =
    ends-then P (step s item) (λ next. each_from step next items) (each s item)
    (λ next. ends-each P step each next items)
