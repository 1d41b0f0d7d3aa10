-- How calls that follow stages compose.
use Rattle.std.proofs.Common.{◌≡◌, ℕ, ◌≤◌, Bool, true, false, List, [], ◌∷◌, ◌++◌, refl, sym, ◌∙◌}
use Rattle.std.proofs.Common.{ap, subst, arith, append_assoc, append-nil, inl, inr}
use Rattle.std.specs.Prelude.{Option, Some, None, Result, Ok, Err}
use Rattle.outside_calls.specs.Contents.{Contents}
use Rattle.outside_calls.specs.Counts.{Rose}
use Rattle.outside_calls.specs.FilesSeen.{FilesSeen}
use Rattle.outside_calls.specs.OutSeen.{OutSeen}
use Rattle.km_course.specs.Course.{Act, Outcome, Run, Stage, after, continued, possible_after}
use Rattle.km_course.specs.Course.{◌>>=◌, given, each_from, when◌then◌else◌}
use Rattle.km_course.specs.Course.Act.{read, list, say, warn, put}
use Rattle.km_course.specs.Course.Outcome.{value, end}
use Rattle.km_course.specs.World.{World, Shown, Tells, Keeps, KeepsFiles, KeepsOut, Extends}
use Rattle.km_course.specs.World.{NotFewer, NoFault, act_done, act_begun, done, begun}
use Rattle.km_course.specs.Follows.{StopsAt, next_act, CallFailed, OutputFailed, WarningFailed}
use Rattle.km_course.specs.Follows.{Free, Stopped, Told, EndCounts, StopCounts, Counts, Comes}
use Rattle.km_course.specs.Follows.{Follows, Answers}
use Rattle.km_course.specs.declared.end.End.{End}
use Rattle.km_course.specs.declared.end.End.TheVariants.{Refused, NotUnderstood, NoFile, TooLarge}
use Rattle.km_course.specs.declared.end.End.TheVariants.{Inner}
use Rattle.km_course.specs.declared.stop.Stop.{Stop}
use Rattle.km_course.specs.declared.stop.Stop.TheVariants.{Ended, FileFault, OutputFault}
use Rattle.km_course.specs.declared.stop.Stop.TheVariants.{WarningFault, Memory}

pub done-append : (a b : List Act) (shown : Shown) → done (a ++ b) shown ≡ done b (done a shown)
done-append [] b shown = refl
done-append (x ∷ a) b shown = done-append a b (act_done x shown)

pub files-done : (acts : List Act) (shown : Shown)
    → (done acts shown).files ≡ after acts shown.files
files-done [] shown = refl
files-done (act ∷ acts) shown = files-done acts (act_done act shown)

pub Extends-same : (o : Option (List ℕ)) → Extends o o
Extends-same None = refl
Extends-same (Some bytes) = ([], ap Some (sym (append-nil bytes)))

Extends-trans : (a b c : Option (List ℕ)) → Extends a b → Extends b c → Extends a c
Extends-trans None b c h k = subst (λ o. Extends o c) h k
Extends-trans (Some bytes) b c h k =
    let l
    = subst (λ o. Extends o c) h.1 k in (h.0 ++ l.0, l.1 ∙ ap Some (append_assoc bytes h.0 l.0))

NotFewer-same : (calls : Option ℕ) → NotFewer calls calls
NotFewer-same None = refl
NotFewer-same (Some n) = omega arith

NotFewer-trans : (a b c : Option ℕ) → NotFewer a b → NotFewer b c → NotFewer a c
NotFewer-trans None b c h k = subst (λ o. NotFewer o c) h k
NotFewer-trans (Some n) None c h k = absurd h
NotFewer-trans (Some n) (Some m) None h k = absurd k
NotFewer-trans (Some n) (Some m) (Some l) h k = omega arith

pub KeepsFiles-same : (files : FilesSeen) → KeepsFiles files files
KeepsFiles-same files = record {
  told = refl;
  calls = NotFewer-same files.calls;
  sure = refl;
  counts = record { faults = omega arith; absences = omega arith; excesses = omega arith };
}

KeepsFiles-trans : {a b c : FilesSeen} → KeepsFiles a b → KeepsFiles b c → KeepsFiles a c
KeepsFiles-trans {a} {b} {c} k l = record {
  told = l.told ∙ k.told;
  calls = NotFewer-trans a.calls b.calls c.calls k.calls l.calls;
  sure = l.sure ∙ k.sure;
  counts = record {
    faults = omega (arith, k.counts.faults, l.counts.faults);
    absences = omega (arith, k.counts.absences, l.counts.absences);
    excesses = omega (arith, k.counts.excesses, l.counts.excesses);
  };
}

pub KeepsOut-same : (out : OutSeen) → KeepsOut out out
KeepsOut-same out = record { told = Extends-same out.told; room = refl; faults = omega arith }

KeepsOut-trans : {a b c : OutSeen} → KeepsOut a b → KeepsOut b c → KeepsOut a c
KeepsOut-trans {a} {b} {c} k l = record {
  told = Extends-trans a.told b.told c.told k.told l.told;
  room = l.room ∙ k.room;
  faults = omega arith;
}

pub Keeps-same : (w : World) → Keeps w w
Keeps-same w =
    record { files = KeepsFiles-same w.files; out = KeepsOut-same w.out; err = KeepsOut-same w.err }

pub Keeps-trans : {a b c : World} → Keeps a b → Keeps b c → Keeps a c
Keeps-trans k l = record {
  files = KeepsFiles-trans k.files l.files;
  out = KeepsOut-trans k.out l.out;
  err = KeepsOut-trans k.err l.err;
}

pub NoFault-same : (w : World) → NoFault w w
NoFault-same w = record { files = refl; out = refl; err = refl }

pub NoFault-trans : {a b c : World} → NoFault a b → NoFault b c → NoFault a c
NoFault-trans k l = record { files = l.files ∙ k.files; out = l.out ∙ k.out; err = l.err ∙ k.err }

Rose-later : (a b c : ℕ) → a ≤ b → Rose b c → Rose a c
Rose-later a b c h r = omega arith

-- where nothing failed first, the counts of the end are those of the whole
EndCounts-after : (a b c : World) (e : End) → Keeps a b → EndCounts b c e → EndCounts a c e
EndCounts-after a b c (Refused refusal) k s = tt
EndCounts-after a b c NotUnderstood k s = tt
EndCounts-after a b c (NoFile path) k s = Rose-later _ _ _ k.files.counts.absences s
EndCounts-after a b c (TooLarge path) k s = Rose-later _ _ _ k.files.counts.excesses s
EndCounts-after a b c (Inner line) k s = tt

StopCounts-after : (a b c : World) (stop : Stop) → Keeps a b → NoFault a b → StopCounts b c stop
    → StopCounts a c stop
StopCounts-after a b c (Ended e) k n s = (NoFault-trans n s.0, EndCounts-after a b c e k s.1)
StopCounts-after a b c (FileFault path) k n s =
    (Rose-later _ _ _ k.files.counts.faults s.0, s.1 ∙ n.out, s.2 ∙ n.err)
StopCounts-after a b c OutputFault k n s =
    (Rose-later _ _ _ k.out.faults s.0, s.1 ∙ n.files, s.2 ∙ n.err)
StopCounts-after a b c WarningFault k n s =
    (Rose-later _ _ _ k.err.faults s.0, s.1 ∙ n.files, s.2 ∙ n.out)
StopCounts-after a b c Memory k n s = NoFault-trans n s

Counts-after : {T : Type 0} (a b c : World) (r : Result T Stop) → Keeps a b → NoFault a b
    → Counts b c r → Counts a c r
Counts-after a b c (Ok x) k n s = NoFault-trans n s
Counts-after a b c (Err stop) k n s = StopCounts-after a b c stop k n s

-- acts that were done before belong to the part that was done
StopsAt-after : {acts : List Act} {shown : Shown} {new : World}
    {cause : ℕ → Shown → Option Act → Type 0} (first : List Act)
    → StopsAt acts (done first shown) new cause → StopsAt (first ++ acts) shown new cause
StopsAt-after {acts} {shown} {new} {cause} first s = record {
  before = first ++ s.before;
  rest = s.rest;
  count = s.count;
  split = ap (λ l. first ++ l) s.split ∙ sym (append_assoc first s.before s.rest);
  tells
      = subst (λ w. Tells new (begun s.count s.rest w)) (sym (done-append first s.before shown))
      s.tells;
  because
      = subst (λ w. cause s.count w (next_act s.rest)) (sym (done-append first s.before shown))
      s.because;
}

-- what more acts, done before, make of what is known after a call
Told-after : {T X : Type 0} (view : T → X) (first : List Act) (run : Run X) (shown : Shown)
    (new : World) (r : Result T Stop)
    → Told view run (done first shown) new r
    → Told view (record { acts = first ++ run.acts; outcome = run.outcome }) shown new r
Told-after view first run shown new (Ok x) t =
    (t.0, subst (Tells new) (sym (done-append first run.acts shown)) t.1)
Told-after view first run shown new (Err (Ended e)) t =
    (t.0, subst (Tells new) (sym (done-append first run.acts shown)) t.1)
Told-after view first run shown new (Err (FileFault path)) t = StopsAt-after first t
Told-after view first run shown new (Err OutputFault) t = StopsAt-after first t
Told-after view first run shown new (Err WarningFault) t = StopsAt-after first t
Told-after view first run shown new (Err Memory) t = StopsAt-after first t

-- a run that gave a value goes on as what is made of the value
continued-value : {X Y : Type 0} (acts : List Act) (o : Outcome X) (x : X) (f : X → Stage Y)
    (files : Contents)
    → o ≡ value x
    → continued acts o f files
    ≡ record {
      acts = acts ++ ((f x).run (after acts files)).acts;
      outcome = ((f x).run (after acts files)).outcome;
    }
unfolding continued
continued-value acts o x f files e =
    subst (λ p. continued acts p f files
    ≡ record {
      acts = acts ++ ((f x).run (after acts files)).acts;
      outcome = ((f x).run (after acts files)).outcome;
    }) (sym e) refl

-- what may come of the whole: what may come of the second stage after a value of the first, or an
-- end of the first
comes-next : {T U X Y : Type 0} (view : T → X) (look : U → Y) (stage : Stage X) (f : X → Stage Y)
    (x : T) (r : Result U Stop)
    → stage.possible (value (view x)) → Comes look (f (view x)) r → Comes look (stage >>= f) r
unfolding ◌>>=◌ possible_after
comes-next view look stage f x (Ok y) a b = inl (view x, a, b)
comes-next view look stage f x (Err (Ended e)) a b = inl (view x, a, b)
comes-next view look stage f x (Err (FileFault path)) a b = tt
comes-next view look stage f x (Err OutputFault) a b = tt
comes-next view look stage f x (Err WarningFault) a b = tt
comes-next view look stage f x (Err Memory) a b = tt

comes-end : {T U X Y : Type 0} (view : T → X) (look : U → Y) (stage : Stage X) (f : X → Stage Y)
    (stop : Stop)
    → Comes view stage (Err stop) → Comes look (stage >>= f) (Err stop)
unfolding ◌>>=◌ possible_after
comes-end view look stage f (Ended e) a = inr (e, a, refl)
comes-end view look stage f (FileFault path) a = tt
comes-end view look stage f OutputFault a = tt
comes-end view look stage f WarningFault a = tt
comes-end view look stage f Memory a = tt

-- A stage gave its value, and then the rest was followed.
pub next : {T U X Y : Type 0} {view : T → X} {look : U → Y} {stage : Stage X} {old mid new : World}
    {x : T} {r : Result U Stop} (f : X → Stage Y)
    → Follows view stage old mid (Ok x) → Follows look (f (view x)) mid new r
    → Follows look (stage >>= f) old new r
unfolding ◌>>=◌
next {T} {U} {X} {Y} {view} {look} {stage} {old} {mid} {new} {x} {r} f a b = record {
  keeps = Keeps-trans a.keeps b.keeps;
  counts = Counts-after old mid new r a.keeps a.counts b.counts;
  comes = comes-next view look stage f x r a.comes b.comes;
  told = λ shown h.
      let first = a.told shown h in
      let run = stage.run shown.files in
      let rest = b.told (done run.acts shown) first.1 in
      let at_files : Told look ((f (view x)).run (after run.acts shown.files)) (done run.acts shown)
      new r
      = subst (λ files. Told look ((f (view x)).run files) (done run.acts shown) new r)
      (files-done run.acts shown) rest in
      subst (λ w. Told look w shown new r)
      (sym (continued-value run.acts run.outcome (view x) f shown.files first.0))
      (Told-after look run.acts ((f (view x)).run (after run.acts shown.files)) shown new r
      at_files);
}

-- an end stays the end
continued-end : {X Y : Type 0} (acts : List Act) (o : Outcome X) (e : End) (f : X → Stage Y)
    (files : Contents)
    → o ≡ end e → continued acts o f files ≡ record { acts = acts; outcome = end e }
unfolding continued
continued-end acts o e f files is =
    subst (λ p. continued acts p f files ≡ record { acts = acts; outcome = end e }) (sym is) refl

-- a run that goes on begins with the acts so far
continued-acts : {X Y : Type 0} (acts : List Act) (o : Outcome X) (f : X → Stage Y)
    (files : Contents)
    → (more : List Act) × ((continued acts o f files).acts ≡ acts ++ more)
unfolding continued
continued-acts acts (value x) f files = (((f x).run (after acts files)).acts, refl)
continued-acts acts (end e) f files = ([], sym (append-nil acts))

-- a cause of a stop before any act is one before each act
abbrev IsWide : (ℕ → Shown → Option Act → Type 0) → Type 0
IsWide cause =
    (count : ℕ) (shown : Shown) (act : Act) → cause count shown None → cause 0 shown (Some act)

begun-none : (act : Act) (shown : Shown) → act_begun 0 act shown ≡ shown
begun-none (read path) shown = refl
begun-none (list path) shown = refl
begun-none (say bytes) shown = ap (λ b. record shown { out = b }) (append-nil shown.out)
begun-none (warn bytes) shown = ap (λ b. record shown { err = b }) (append-nil shown.err)
begun-none (put path bytes) shown = refl

-- a stop within the acts is one within the acts and more
StopsAt-more : {acts : List Act} {shown : Shown} {new : World}
    {cause : ℕ → Shown → Option Act → Type 0} (whole more : List Act)
    → whole ≡ acts ++ more → IsWide cause → StopsAt acts shown new cause
    → StopsAt whole shown new cause
StopsAt-more {acts} {shown} {new} {cause} whole more same wide s =
    by_rest s.rest more s.count
    (same ∙ ap (λ l. l ++ more) s.split ∙ append_assoc s.before s.rest more) s.tells s.because
  where
    by_rest : (rest more : List Act) (count : ℕ) → whole ≡ s.before ++ (rest ++ more)
        → Tells new (begun count rest (done s.before shown))
        → cause count (done s.before shown) (next_act rest) → StopsAt whole shown new cause
    by_rest [] [] count split tells because
        = record {
          before = s.before;
          rest = [];
          count = count;
          split = split;
          tells = tells;
          because = because;
        }
    by_rest [] (act ∷ more) count split tells because = record {
      before = s.before;
      rest = act ∷ more;
      count = 0;
      split = split;
      tells = subst (Tells new) (sym (begun-none act (done s.before shown))) tells;
      because = wide count (done s.before shown) act because;
    }
    by_rest (act ∷ rest) more count split tells because
        = record {
          before = s.before;
          rest = act ∷ (rest ++ more);
          count = count;
          split = split;
          tells = tells;
          because = because;
        }

wide-failed : (path : List ℕ) (new : World) → IsWide (CallFailed path new)
wide-failed path new count shown act h = absurd h

wide-output : (new : World) → IsWide (OutputFailed new)
wide-output new count shown act h = absurd h

wide-warning : (new : World) → IsWide (WarningFailed new)
wide-warning new count shown act h = absurd h

wide-free : IsWide Free
wide-free count shown act h = tt

ended : {X Y : Type 0} (run : Run X) (f : X → Stage Y) (files : Contents) (shown : Shown)
    (new : World) (e : End)
    → (run.outcome ≡ end e) × Tells new (done run.acts shown)
    → ((continued run.acts run.outcome f files).outcome ≡ end e)
    × Tells new (done (continued run.acts run.outcome f files).acts shown)
ended {X} {Y} run f files shown new e t =
    subst (λ w. (w.outcome ≡ end e) × Tells new (done w.acts shown))
    (sym (continued-end run.acts run.outcome e f files t.0)) (refl, t.1)

-- what was known of a stop in a run is known of the run that would have gone on
Stopped-more : {X Y : Type 0} (run : Run X) (f : X → Stage Y) (files : Contents) (shown : Shown)
    (new : World) (stop : Stop)
    → Stopped run shown new stop → Stopped (continued run.acts run.outcome f files) shown new stop
Stopped-more run f files shown new (Ended e) t = ended run f files shown new e t
Stopped-more run f files shown new (FileFault path) t =
    let more
    = continued-acts run.acts run.outcome f files in StopsAt-more _ more.0 more.1
    (wide-failed path new) t
Stopped-more run f files shown new OutputFault t =
    let more
    = continued-acts run.acts run.outcome f files in StopsAt-more _ more.0 more.1
    (wide-output new) t
Stopped-more run f files shown new WarningFault t =
    let more
    = continued-acts run.acts run.outcome f files in StopsAt-more _ more.0 more.1
    (wide-warning new) t
Stopped-more run f files shown new Memory t =
    let more
    = continued-acts run.acts run.outcome f files in StopsAt-more _ more.0 more.1 wide-free t

-- A stage stopped, so the whole did.
pub stops : {T U X Y : Type 0} {view : T → X} (look : U → Y) {stage : Stage X} {old new : World}
    {stop : Stop} (f : X → Stage Y)
    → Follows view stage old new (Err stop) → Follows look (stage >>= f) old new (Err stop)
unfolding ◌>>=◌
stops {T} {U} {X} {Y} {view} look {stage} {old} {new} {stop} f a = record {
  keeps = a.keeps;
  counts = a.counts;
  comes = comes-end view look stage f stop a.comes;
  told
      = λ shown h. Stopped-more (stage.run shown.files) f shown.files shown new stop
      (a.told shown h);
}

-- Out of memory before the first act.
pub no_memory : {T X : Type 0} (view : T → X) (stage : Stage X) (w : World)
    → Follows view stage w w (Err Memory)
no_memory view stage w = record {
  keeps = Keeps-same w;
  counts = NoFault-same w;
  comes = tt;
  told
      = λ shown h. record {
        before = [];
        rest = (stage.run shown.files).acts;
        count = 0;
        split = refl;
        tells = h-begun (stage.run shown.files).acts shown w h;
        because = tt;
      };
}
  where
    h-begun : (acts : List Act) (shown : Shown) (w : World) → Tells w shown
        → Tells w (begun 0 acts shown)
    h-begun [] shown w h = h
    h-begun (act ∷ acts) shown w h = subst (Tells w) (sym (begun-none act shown)) h

gave-end : {T X : Type 0} (view : T → X) (outcome : Outcome X) (w : World) (e : End)
    → outcome ≡ end e → EndCounts w w e → Follows view (given outcome) w w (Err (Ended e))
unfolding given
gave-end view outcome w e h n =
    record {
      keeps = Keeps-same w;
      counts = (NoFault-same w, n);
      comes = sym h;
      told = λ shown t. (h, t);
    }

-- A value that was given without an act.
pub gave : {T X : Type 0} (view : T → X) (w : World) (x : T)
    → Follows view (given (value (view x))) w w (Ok x)
unfolding given
gave view w x =
    record
    { keeps = Keeps-same w; counts = NoFault-same w; comes = refl; told = λ shown h. (refl, h) }

-- What a check answered follows its stage.
pub answered : {T X : Type 0} (view : T → X) (outcome : Outcome X) (w : World) (r : Result T Stop)
    → Answers view outcome r → Follows view (given outcome) w w r
unfolding given
answered view outcome w (Ok x) h =
    record
    { keeps = Keeps-same w; counts = NoFault-same w; comes = sym h; told = λ shown t. (h, t) }
answered view outcome w (Err (Ended (NoFile path))) h = absurd h
answered view outcome w (Err (Ended (TooLarge path))) h = absurd h
answered view outcome w (Err (Ended (Refused refusal))) h =
    gave-end view outcome w (Refused refusal) h tt
answered view outcome w (Err (Ended NotUnderstood)) h = gave-end view outcome w NotUnderstood h tt
answered view outcome w (Err (Ended (Inner line))) h = gave-end view outcome w (Inner line) h tt
answered view outcome w (Err Memory) h = no_memory view (given outcome) w
answered view outcome w (Err (FileFault path)) h = absurd h
answered view outcome w (Err OutputFault) h = absurd h
answered view outcome w (Err WarningFault) h = absurd h

-- The exit of a `?` on a call that stopped.
pub exits : {T U X Y : Type 0} {view : T → X} (look : U → Y) {stage : Stage X} {old new : World}
    {e d : Stop} (r : Result U Stop) (f : X → Stage Y)
    → r ≡ Err d → d ≡ e → Follows view stage old new (Err e) → Follows look (stage >>= f) old new r
exits look {stage} {old} {new} r f is same a =
    subst (λ q. Follows look (stage >>= f) old new q) (sym (is ∙ ap Err same)) (stops look f a)

-- The exit of a `?` on a call that was out of memory, before the first act.
pub wants : {T X : Type 0} (view : T → X) (stage : Stage X) (w : World) {d : Stop}
    (r : Result T Stop)
    → r ≡ Err d → d ≡ Memory → Follows view stage w w r
wants view stage w r is same =
    subst (λ q. Follows view stage w w q) (sym (is ∙ ap Err same)) (no_memory view stage w)

-- An end may be replaced by out of memory.
pub forgets : {T X : Type 0} (view : T → X) (stage : Stage X) (old new : World) (e : End)
    → Follows view stage old new (Err (Ended e)) → Follows view stage old new (Err Memory)
forgets view stage old new e f = record {
  keeps = f.keeps;
  counts = f.counts.0;
  comes = tt;
  told = λ shown h. record {
    before = (stage.run shown.files).acts;
    rest = [];
    count = 0;
    split = sym (append-nil _);
    tells = (f.told shown h).1;
    because = tt;
  };
}

-- The exits of the branches of a choice.
pub chosen : {T X : Type 0} (view : T → X) (test : Bool) (first second : Stage X) (old new : World)
    (r : Result T Stop)
    → true ≡ test → Follows view first old new r
    → Follows view (when test then first else second) old new r
chosen view test first second old new r h f =
    subst (λ b. Follows view (when b then first else second) old new r) h f

pub passed_over : {T X : Type 0} (view : T → X) (test : Bool) (first second : Stage X)
    (old new : World) (r : Result T Stop)
    → false ≡ test → Follows view second old new r
    → Follows view (when test then first else second) old new r
passed_over view test first second old new r h f =
    subst (λ b. Follows view (when b then first else second) old new r) h f

-- Whatever follows the rest of a stage from here follows the whole from where it began: what a loop
-- keeps.
abbrev pub LeadsTo : {T X : Type 0} → (T → X) → Stage X → World → Stage X → World → Type 0
LeadsTo {T} view whole began rest now =
    (new : World) (r : Result T Stop) → Follows view rest now new r → Follows view whole began new r

-- the loop begins
pub leads-start : {T X : Type 0} (view : T → X) (whole : Stage X) (began : World)
    → LeadsTo view whole began whole began
leads-start view whole began = λ new r f. f

-- one turn: the stage of the next item gave its value
pub leads-on : {T U A S : Type 0} {look : U → S} (view : T → S) (whole : Stage S)
    (began now mid : World) (step : S → A → Stage S) (state : S) (item : A) (items : List A)
    (x : U)
    → LeadsTo view whole began (each_from step state (item ∷ items)) now
    → Follows look (step state item) now mid (Ok x)
    → LeadsTo view whole began (each_from step (look x) items) mid
leads-on view whole began now mid step state item items x leads f =
    λ new r rest. leads new r (next (λ s. each_from step s items) f rest)

-- a turn stopped, so the whole did
pub leads-stop : {T U A S : Type 0} {look : U → S} (view : T → S) (whole : Stage S)
    (began now new : World) (step : S → A → Stage S) (state : S) (item : A) (items : List A)
    (stop : Stop)
    → LeadsTo view whole began (each_from step state (item ∷ items)) now
    → Follows look (step state item) now new (Err stop) → Follows view whole began new (Err stop)
leads-stop view whole began now new step state item items stop leads f =
    leads new (Err stop) (stops view (λ s. each_from step s items) f)

-- no item is left
pub leads-end : {T A S : Type 0} (view : T → S) (whole : Stage S) (began now : World)
    (step : S → A → Stage S) (x : T)
    → LeadsTo view whole began (each_from step (view x) []) now
    → Follows view whole began now (Ok x)
leads-end view whole began now step x leads = leads now (Ok x) (gave view now x)
