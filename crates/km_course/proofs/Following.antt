-- How calls follow stages whose parts are known by equations, and stages of items.
use Rattle.std.proofs.Common.{◌≡◌, ℕ, ◌+◌, ◌<◌, ◌≤◌, List, ◌∷◌, length, drop, get_or, sym, ap}
use Rattle.std.proofs.Common.{subst, ◌∙◌}
use Rattle.std.proofs.lemmas.List.{drop_more, drop_all}
use Rattle.std.specs.Prelude.{Result, Ok, Err, ⊤}
use Rattle.km_course.specs.Course.{Stage, each_from}
use Rattle.km_course.specs.World.{World}
use Rattle.km_course.specs.Follows.{Follows}
use Rattle.km_course.specs.declared.stop.Stop.{Stop}
use Rattle.km_course.proofs.Steps.{LeadsTo, leads-end}

-- what follows a stage follows it too where it is given otherwise
pub along : {A T X : Type 0} {view : T → X} {old new : World} {r : Result T Stop}
    (stage : A → Stage X) (a b : A)
    → a ≡ b → Follows view (stage a) old new r → Follows view (stage b) old new r
along {A} {T} {X} {view} {old} {new} {r} stage a b is f =
    subst (λ x. Follows view (stage x) old new r) is f

-- a call that answers only that it is done follows a stage where a value that it left follows it
pub left_value : {X : Type 0} {stage : Stage X} {old new : World} (x : X)
    → Follows (λ (y : X). y) stage old new (Ok x) → Follows (λ (done : ⊤). x) stage old new (Ok tt)
left_value x f = record { keeps = f.keeps; counts = f.counts; comes = f.comes; told = f.told }

-- and where there is none the value is seen in any way
pub left_none : {X : Type 0} {stage : Stage X} {old new : World} {stop : Stop} (x : X)
    → Follows (λ (y : X). y) stage old new (Err stop)
    → Follows (λ (done : ⊤). x) stage old new (Err stop)
left_none x f = record { keeps = f.keeps; counts = f.counts; comes = f.comes; told = f.told }

-- the items from one on: it, and the items after it
pub next-item : {A : Type 0} (items : List A) (i : ℕ) (item : A) → i < length items
    → item ≡ get_or items i item → drop i items ≡ item ∷ drop (i + 1) items
next-item items i item h is = drop_more items i item h ∙ ap (λ x. x ∷ drop (i + 1) items) (sym is)

-- what leads on from the items from one on leads on from it and the items after it
pub leads-item : {T S A : Type 0} (view : T → S) (whole : Stage S) (began now : World)
    (step : S → A → Stage S) (state : S) (items : List A) (i : ℕ) (item : A)
    → i < length items → item ≡ get_or items i item
    → LeadsTo view whole began (each_from step state (drop i items)) now
    → LeadsTo view whole began (each_from step state (item ∷ drop (i + 1) items)) now
leads-item view whole began now step state items i item h is leads =
    subst (λ rest. LeadsTo view whole began (each_from step state rest) now)
    (next-item items i item h is) leads

-- the same of an item that is named by its place
pub leads-at : {T S A : Type 0} (view : T → S) (whole : Stage S) (began now : World)
    (step : S → A → Stage S) (state : S) (items : List A) (i : ℕ) (d : A)
    → i < length items → LeadsTo view whole began (each_from step state (drop i items)) now
    → LeadsTo view whole began (each_from step state (get_or items i d ∷ drop (i + 1) items)) now
leads-at view whole began now step state items i d h leads =
    subst (λ rest. LeadsTo view whole began (each_from step state rest) now) (drop_more items i d h)
    leads

-- no item is left
pub leads-done : {T S A : Type 0} (view : T → S) (whole : Stage S) (began now : World)
    (step : S → A → Stage S) (x : T) (items : List A) (i : ℕ)
    → length items ≤ i → LeadsTo view whole began (each_from step (view x) (drop i items)) now
    → Follows view whole began now (Ok x)
leads-done view whole began now step x items i h leads =
    leads-end view whole began now step x
    (subst (λ rest. LeadsTo view whole began (each_from step (view x) rest) now)
    (drop_all i items h) leads)
