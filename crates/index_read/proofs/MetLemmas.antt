-- Values that stand for others, and runs of values that were met.
use Rattle.std.proofs.Common.{◌≡◌, refl, sym, ap, subst, ◌∙◌, ℕ, zero, suc, ◌<◌, List, [], ◌∷◌}
use Rattle.std.proofs.Common.{Option, Some, None, drop, ◌++◌, length, append_assoc, append-nil}
use Rattle.std.proofs.Common.{arith, length-append}
use Rattle.std.proofs.lemmas.List.{get_or_append_left}
use Rattle.std.proofs.Math.Seq.{get_or-append_seam}
use Rattle.std.proofs.lemmas.List.Elements.{All-weaker, All-cons, All-nil, All-head, All-tail}
use Rattle.std.specs.Prelude.{All, IfNone, IfSome}
use Rattle.std.specs.List.{IsAmong}
use Rattle.index_format.specs.Map.{Value}
use Rattle.index_nodes.specs.declared.run.Run.{Run}
use Rattle.index_format.specs.Node.{after_text, values_in}
use Rattle.index_nodes.specs.declared.place.Place.{Place}
use Rattle.index_nodes.specs.Places.{IsPlaceOf, values_left}
use Rattle.index_nodes.specs.Runs.{IsRunOf, run_values}
use Rattle.index_read.proofs.PlaceValues.{values_at_place}
use Rattle.index_read.specs.declared.met.MetValues.{MetValues}
use Rattle.index_read.specs.Keys.{Item}
use Rattle.index_read.specs.Met.{StandFor, IsMetRun, HasRuns, kept, names_of}
use Rattle.index_read.proofs.MatchLemmas.{Onward}
use Rattle.index_read.proofs.RepeatLemmas.{names-again}

among-more : (vs ws : List Value) (v : Value) → IsAmong vs v → IsAmong (vs ++ ws) v
among-more vs ws v (i, h) = (
  i,
  (
    omega (arith, h.0, length-append vs ws),
    h.1 ∙ sym (get_or_append_left vs ws v i h.0),
  ),
)

among-last : (vs : List Value) (v : Value) → IsAmong (vs ++ v ∷ []) v
among-last vs v = (
  length vs,
  (omega (arith, length-append vs (v ∷ [])), sym (get_or-append_seam vs v [] v)),
)

run-more : (b : List ℕ) (vs ws : List Value) (r : Run) → IsMetRun b vs r → IsMetRun b (vs ++ ws) r
run-more b vs ws r h = record {
  run = h.run;
  among
      = All-weaker (IsAmong vs) (IsAmong (vs ++ ws)) (among-more vs ws) (run_values b r) h.among;
}

-- Runs that were met stay so with more values.
pub runs-more : (b : List ℕ) (vs ws : List Value) (rs : List Run) → All (IsMetRun b vs) rs
    → All (IsMetRun b (vs ++ ws)) rs
runs-more b vs ws rs h =
    All-weaker (IsMetRun b vs) (IsMetRun b (vs ++ ws)) (run-more b vs ws) rs h

-- The value that was met last is among those that were.
pub last_among : (vs : List Value) (v : Value) → All (IsAmong (vs ++ v ∷ [])) (v ∷ [])
last_among vs v =
    All-cons (IsAmong (vs ++ v ∷ [])) v [] (among-last vs v) (All-nil (IsAmong (vs ++ v ∷ [])))

-- Values stand for themselves, and for what those stand for that they stand for.
pub stand_same : (vs : List Value) → StandFor vs vs
stand_same vs more = refl

pub stand-more : (few all ws : List Value) → StandFor few all → StandFor (few ++ ws) (all ++ ws)
stand-more few all ws h more =
    ap names_of (append_assoc few ws more) ∙ h (ws ++ more)
    ∙ sym (ap names_of (append_assoc all ws more))

-- Values that were met before change nothing.
pub stand_without : (ks xs rest : List Value) → All (IsAmong ks) xs
    → StandFor (ks ++ rest) (ks ++ (xs ++ rest))
stand_without ks [] rest h more = refl
stand_without ks (x ∷ xs) rest h more =
    stand_without ks xs rest (All-tail (IsAmong ks) x xs h) more
    ∙ ap names_of (append_assoc ks (xs ++ rest) more)
    ∙ sym (names-again ks x ((xs ++ rest) ++ more) (All-head (IsAmong ks) x xs h))
    ∙ sym (ap names_of (append_assoc ks (x ∷ (xs ++ rest)) more))

-- ---- what is left after a run

pub length-values_in : (n : ℕ) (bytes : List ℕ) → length (values_in n bytes) ≡ n
unfolding values_in
length-values_in zero bytes = refl
length-values_in (suc n) bytes = ap suc (length-values_in n (after_text (drop 4 bytes)))

-- What is known of the place after a run.
abbrev pub IsAfter : List ℕ → Place → Run → Option Place → Type 0
IsAfter b at run None =
    (more : List Value) × (values_left b at ++ more ≡ run_values b run)
IsAfter b at run (Some next) = values_left b at ≡ run_values b run ++ values_left b next

pub is_after : (b : List ℕ) (at : Place) (run : Run) (o : Option Place)
    → IfNone o ((more : List Value) × (values_left b at ++ more ≡ run_values b run))
    → IfSome o (λ next. values_left b at ≡ run_values b run ++ values_left b next)
    → IsAfter b at run o
is_after b at run None none some = none
is_after b at run (Some next) none some = some

pub fewer_after : (b : List ℕ) (at : Place) (run : Run) (o : Option Place) → IsPlaceOf b at
    → IsRunOf b run → IsAfter b at run o
    → length (values_at_place b o) < length (values_left b at)
fewer_after b at run None place r h =
    omega (arith, length-values_in at.left (drop at.start b), place.place.some)
fewer_after b at run (Some next) place r h =
    omega (
      arith,
      ap length h,
      length-append (run_values b run) (values_left b next),
      length-values_in run.count (drop run.start b),
      r.some,
    )

front_among : (ks xs more ys : List Value) → xs ++ more ≡ ys → All (IsAmong ks) ys
    → All (IsAmong ks) xs
front_among ks xs more ys e h = λ k d low.
    subst (IsAmong ks) (get_or_append_left xs more d k low)
    (subst (All (IsAmong ks)) (sym e) h k d (omega (arith, low, length-append xs more)))

-- After a run that was met, what is left stands for all that was left before.
pub stand_after : (b : List ℕ) (ks : List Value) (at : Place) (run : Run) (o : Option Place)
    → All (IsAmong ks) (run_values b run) → IsAfter b at run o
    → StandFor (ks ++ values_at_place b o) (ks ++ values_left b at)
stand_after b ks at run None met h =
    subst (λ xs. StandFor (ks ++ []) (ks ++ xs)) (append-nil (values_left b at))
    (stand_without ks (values_left b at) []
    (front_among ks (values_left b at) h.0 (run_values b run) h.1 met))
stand_after b ks at run (Some next) met h =
    subst (λ xs. StandFor (ks ++ values_left b next) (ks ++ xs)) (sym h)
    (stand_without ks (run_values b run) (values_left b next) met)

-- What is kept after a node, where some nodes are still to come.
pub record Met (b text : List ℕ) (is : List Item) (m : MetValues) : Type 0 where
  pub found : List Value
  pub onward : Onward b text is found
  pub stand : StandFor (kept m) found
  pub runs : HasRuns b m

-- What stands for the kept values and more stands for all values and more.
pub stand_next : (new old all more : List Value) → StandFor new (old ++ more) → StandFor old all
    → StandFor new (all ++ more)
stand_next new old all more h k rest = h rest ∙ stand-more old all more k rest

-- Values that stand for others give the same names.
pub stand_names : (few all : List Value) → StandFor few all → names_of few ≡ names_of all
stand_names few all h =
    sym (ap names_of (append-nil few)) ∙ h [] ∙ ap names_of (append-nil all)
