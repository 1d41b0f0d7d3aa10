-- Arrivals at which no test fails, one after the other.
use Rattle.std.proofs.Common.{◌≡◌, refl, ap, ◌∙◌, ℕ, List, [], ◌∷◌, ◌++◌, Option, Some, None}
use Rattle.km_names.specs.First.{first}
use Rattle.index_format.specs.Link.{place_of}
use Rattle.index_format.specs.Check.{Fault, Arrival, arrival_fault, arrival_faults}

abbrev pub Passes : List ℕ → List ℕ → List Arrival → Type 0
Passes b seen rs = first (arrival_faults b seen rs) ≡ None

abbrev pub seen_after : List Arrival → List ℕ → List ℕ
seen_after [] seen = seen
seen_after (a ∷ rs) seen = seen_after rs (place_of a.link ∷ seen)

pub first_none : (o : Option Fault) (os : List (Option Fault)) → first (o ∷ os) ≡ None
    → (o ≡ None) × (first os ≡ None)
first_none None os h = (refl, h)
first_none (Some f) os h = absurd (cc)

pub passes-cons : (b seen : List ℕ) (a : Arrival) (rs : List Arrival)
    → arrival_fault b seen a ≡ None → Passes b (place_of a.link ∷ seen) rs → Passes b seen (a ∷ rs)
unfolding arrival_faults
passes-cons b seen a rs e h =
    ap (λ o. first (o ∷ arrival_faults b (place_of a.link ∷ seen) rs)) e ∙ h

pub passes_head : (b seen : List ℕ) (a : Arrival) (rs : List Arrival) → Passes b seen (a ∷ rs)
    → (arrival_fault b seen a ≡ None) × Passes b (place_of a.link ∷ seen) rs
unfolding arrival_faults
passes_head b seen a rs h =
    first_none (arrival_fault b seen a) (arrival_faults b (place_of a.link ∷ seen) rs) h

pub passes-append : (b : List ℕ) (xs ys : List Arrival) (seen : List ℕ) → Passes b seen xs
    → Passes b (seen_after xs seen) ys → Passes b seen (xs ++ ys)
unfolding arrival_faults
passes-append b [] ys seen p q = q
passes-append b (a ∷ xs) ys seen p q =
    let both
    = first_none (arrival_fault b seen a) (arrival_faults b (place_of a.link ∷ seen) xs) p in
    ap (λ o. first (o ∷ arrival_faults b (place_of a.link ∷ seen) (xs ++ ys))) both.0
    ∙ passes-append b xs ys (place_of a.link ∷ seen) both.1 q

pub passes_parts : (b : List ℕ) (xs ys : List Arrival) (seen : List ℕ) → Passes b seen (xs ++ ys)
    → Passes b seen xs × Passes b (seen_after xs seen) ys
unfolding arrival_faults
passes_parts b [] ys seen h = (refl, h)
passes_parts b (a ∷ xs) ys seen h =
    let both
    = first_none (arrival_fault b seen a) (arrival_faults b (place_of a.link ∷ seen) (xs ++ ys))
    h in
    let rest = passes_parts b xs ys (place_of a.link ∷ seen) both.1 in
    (ap (λ o. first (o ∷ arrival_faults b (place_of a.link ∷ seen) xs)) both.0 ∙ rest.0, rest.1)

pub seen_after-append : (xs ys : List Arrival) (seen : List ℕ)
    → seen_after (xs ++ ys) seen ≡ seen_after ys (seen_after xs seen)
seen_after-append [] ys seen = refl
seen_after-append (a ∷ xs) ys seen = seen_after-append xs ys (place_of a.link ∷ seen)
