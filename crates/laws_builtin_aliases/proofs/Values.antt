-- What lookups in a map find, by the values of its keys.
use Rattle.std.proofs.Common.{◌≡◌, ◌≤◌, ◌<◌, ◌||◌, ◌&&◌, ℕ, Bool, true, false, cond, nat_le, List}
use Rattle.std.proofs.Common.{[], ◌∷◌, map, filter, fold, Some, unwrap_or, refl, sym, ap, ◌∙◌}
use Rattle.std.proofs.Common.{subst, arith}
use Rattle.std.specs.Prelude.{T}
use Rattle.std.specs.List.{AllByRecursion, list_any, list_all}
use Rattle.std.specs.Ordering.{nat_cmp, is_lt, is_eq}
use Rattle.std.specs.declared.cmp.Ordering.{Ordering}
use Rattle.std.specs.declared.cmp.Ordering.TheVariants.{Less, Equal, Greater}
use Rattle.std.specs.Cmp.{eq_by_cmp_equiv}
use Rattle.std.specs.Cmp.Lexicographic.{slice_cmp, nat_list_cmp_total}
use Rattle.std.specs.FinMap.{entries, find, is_sorted, entries_sorted, get, get-entries}
use Rattle.std.specs.FinMap.Entries.{below_all}
use Rattle.std.proofs.lemmas.Bool.Decides.{nat_tests}
use Rattle.std.proofs.lemmas.List.Folds.{list_any-append, list_all-append}
use Rattle.index_format.specs.Map.{Value, KeyValues, values_of, place, with_value}
use Rattle.index_format.specs.Listing.{KeyValue, under}
use Rattle.index_read.specs.Contents.{by_priority, insert_first, values_matching}
use Rattle.glob_match.specs.Decision.{is_match}
use Rattle.index_format.specs.Listing.{with_values}
use Rattle.builtin_index.proofs.MapOrder.{more, same_key, key-equal, values-after}

-- ---- tests

pub or-true : (a b : Bool) → b ≡ true → a || b ≡ true
or-true true b is = refl
or-true false b is = is

or-swap : (a b c : Bool) → a || (b || c) ≡ b || (a || c)
or-swap true true c = refl
or-swap true false c = refl
or-swap false true c = refl
or-swap false false c = refl

or-nil : (a : Bool) → a || false ≡ a
or-nil true = refl
or-nil false = refl

or-move : (a b c : Bool) → (a || b) || c ≡ b || (a || c)
or-move true true c = refl
or-move true false c = refl
or-move false true c = refl
or-move false false c = refl

pub both-of : (a b : Bool) → a && b ≡ true → (a ≡ true) × (b ≡ true)
both-of true b is = (refl, is)
both-of false b is = absurd (cc)

pub and-of : (a b : Bool) → a ≡ true → b ≡ true → a && b ≡ true
and-of a b one other = ap (λ x. x && b) one ∙ other

-- ---- each entry is found by its key

abbrev R : List ℕ → List ℕ → Ordering
R = slice_cmp nat_cmp

abbrev Entry : Type 0
Entry = List ℕ × List Value

key-same : (x : List ℕ) → same_key x x ≡ true
key-same x = (eq_by_cmp_equiv nat_list_cmp_total).refl x

clash : (r : Ordering) → is_eq r ≡ true → T (is_lt r) → ⊥
clash Less e low = cc
clash Equal e low = low
clash Greater e low = low

T-first : (a b : Bool) → T (a && b) → T a
T-first true b h = tt
T-first false b h = h

T-second : (a b : Bool) → T (a && b) → T b
T-second true b h = h
T-second false b h = absurd h

other-key : (k q : List ℕ) → T (is_lt (R k q)) → same_key q k ≡ false
other-key k q less = go (same_key q k) refl
  where
    go : (b : Bool) → same_key q k ≡ b → b ≡ false
    go true is
        = absurd
        (clash (R k k) (key-same k) (subst (λ x. T (is_lt (R k x))) (key-equal q k is) less))
    go false is = refl

abbrev IsFound : List Entry → Entry → Type 0
IsFound es f = find R f.0 es ≡ Some f.1

found-later : (e : Entry) (es all : List Entry) → T (below_all R e.0 es)
    → AllByRecursion (IsFound all) es → AllByRecursion (IsFound (e ∷ all)) es
found-later e [] all low h = tt
found-later e (f ∷ es) all low h = (
  ap (λ b. cond b (Some e.1) (find R f.0 all))
      (other-key e.0 f.0 (T-first (is_lt (R e.0 f.0)) (below_all R e.0 es) low))
      ∙ h.0,
  found-later e es all (T-second (is_lt (R e.0 f.0)) (below_all R e.0 es) low) h.1,
)

each-found : (es : List Entry) → T (is_sorted R es) → AllByRecursion (IsFound es) es
each-found [] up = tt
each-found (e ∷ es) up = (
  ap (λ b. cond b (Some e.1) (find R e.0 es)) (key-same e.0),
  found-later e es es (T-first (below_all R e.0 es) (is_sorted R es) up)
      (each-found es (T-second (below_all R e.0 es) (is_sorted R es) up)),
)

abbrev Has : KeyValues → Entry → Type 0
Has m e = values_of m e.0 ≡ e.1

has-all : (m : KeyValues) (es : List Entry) → AllByRecursion (IsFound (entries m)) es
    → AllByRecursion (Has m) es
has-all m [] all = tt
has-all m (e ∷ es) all = (ap (λ o. unwrap_or o []) (get-entries m e.0 ∙ all.0), has-all m es all.1)

entry-values : (m : KeyValues) → AllByRecursion (Has m) (entries m)
entry-values m = has-all m (entries m) (each-found (entries m) (entries_sorted m))

-- ---- what some entry has, and what all have

any-found : (h : List ℕ → List Value → Bool) → ((key : List ℕ) → h key [] ≡ false)
    → (es : List Entry) (key : List ℕ) → h key (unwrap_or (find R key es) []) ≡ true
    → list_any (λ (e : Entry). h e.0 e.1) es ≡ true
any-found h none [] key is =
    let clash : true ≡ false = sym is ∙ none key in
    absurd (cc)
any-found h none (e ∷ es) key is =
    go (same_key key e.0) refl is (λ later. any-found h none es key later)
  where
    rest : Bool
    rest = list_any (λ (e : Entry). h e.0 e.1) es

    go : (b : Bool) → same_key key e.0 ≡ b
        → h key (unwrap_or (cond b (Some e.1) (find R key es)) []) ≡ true
        → (h key (unwrap_or (find R key es) []) ≡ true → rest ≡ true) → h e.0 e.1 || rest ≡ true
    go true same is later
        = ap (λ b. b || rest) (subst (λ k. h k e.1 ≡ true) (key-equal key e.0 same) is)
    go false same is later = or-true (h e.0 e.1) rest (later is)

pub any-entry : (h : List ℕ → List Value → Bool) → ((key : List ℕ) → h key [] ≡ false)
    → (m : KeyValues) (key : List ℕ) → h key (values_of m key) ≡ true
    → list_any (λ (e : Entry). h e.0 e.1) (entries m) ≡ true
any-entry h none m key is =
    any-found h none (entries m) key
    (ap (λ o. h key (unwrap_or o [])) (sym (get-entries m key)) ∙ is)

any-of : (h : List ℕ → List Value → Bool) (m : KeyValues) (es : List Entry)
    → AllByRecursion (Has m) es → list_any (λ (e : Entry). h e.0 e.1) es ≡ true
    → (key : List ℕ) × (h key (values_of m key) ≡ true)
any-of h m [] all is = absurd (cc)
any-of h m (e ∷ es) all is = go (h e.0 e.1) refl is (λ later. any-of h m es all.1 later)
  where
    go : (b : Bool) → h e.0 e.1 ≡ b → b || list_any (λ (e : Entry). h e.0 e.1) es ≡ true
        → (list_any (λ (e : Entry). h e.0 e.1) es ≡ true
        → (key : List ℕ) × (h key (values_of m key) ≡ true))
        → (key : List ℕ) × (h key (values_of m key) ≡ true)
    go true same is later = (e.0, ap (h e.0) all.0 ∙ same)
    go false same is later = later is

pub any-key : (h : List ℕ → List Value → Bool) (m : KeyValues)
    → list_any (λ (e : Entry). h e.0 e.1) (entries m) ≡ true
    → (key : List ℕ) × (h key (values_of m key) ≡ true)
any-key h m is = any-of h m (entries m) (entry-values m) is

all-of : (t : Value → Bool) (m : KeyValues) → ((key : List ℕ) → list_all t (values_of m key) ≡ true)
    → (es : List Entry) → AllByRecursion (Has m) es
    → list_all (λ (e : Entry). list_all t e.1) es ≡ true
all-of t m each [] all = refl
all-of t m each (e ∷ es) all =
    and-of (list_all t e.1) (list_all (λ (e : Entry). list_all t e.1) es)
    (ap (list_all t) (sym all.0) ∙ each e.0) (all-of t m each es all.1)

pub all-entries : (t : Value → Bool) (m : KeyValues)
    → ((key : List ℕ) → list_all t (values_of m key) ≡ true)
    → list_all (λ (e : Entry). list_all t e.1) (entries m) ≡ true
all-entries t m each = all-of t m each (entries m) (entry-values m)

-- ---- the values of the keys that match

pub matching-any : (q : Value → Bool) (text : List ℕ) (es : List Entry)
    → list_any q (values_matching es text)
    ≡ list_any (λ (e : Entry). is_match e.0 text && list_any q e.1) es
matching-any q text [] = refl
matching-any q text (e ∷ es) =
    list_any-append q (cond (is_match e.0 text) e.1 []) (values_matching es text)
    ∙ (λ i. one (is_match e.0 text) i || matching-any q text es i)
  where
    one : (b : Bool) → list_any q (cond b e.1 []) ≡ b && list_any q e.1
    one true = refl
    one false = refl

pub matching-all : (t : Value → Bool) (text : List ℕ) (es : List Entry)
    → list_all (λ (e : Entry). list_all t e.1) es ≡ true
    → list_all t (values_matching es text) ≡ true
matching-all t text [] is = refl
matching-all t text (e ∷ es) is =
    let parts = both-of (list_all t e.1) (list_all (λ (e : Entry). list_all t e.1) es) is in
    list_all-append t (cond (is_match e.0 text) e.1 []) (values_matching es text)
    ∙ and-of (list_all t (cond (is_match e.0 text) e.1 [])) (list_all t (values_matching es text))
    (one (is_match e.0 text) parts.0) (matching-all t text es parts.1)
  where
    one : (b : Bool) → list_all t e.1 ≡ true → list_all t (cond b e.1 []) ≡ true
    one true all = all
    one false all = refl

-- ---- values by their priorities

first-any : (q : Value → Bool) (v : Value) (vs : List Value)
    → list_any q (insert_first v vs) ≡ q v || list_any q vs
first-any q v [] = refl
first-any q v (w ∷ ws) = go (nat_le v.0 w.0) (first-any q v ws)
  where
    go : (b : Bool) → list_any q (insert_first v ws) ≡ q v || list_any q ws
        → list_any q (cond b (v ∷ w ∷ ws) (w ∷ insert_first v ws)) ≡ q v || (q w || list_any q ws)
    go true rest = refl
    go false rest = ap (λ b. q w || b) rest ∙ or-swap (q w) (q v) (list_any q ws)

pub priority-any : (q : Value → Bool) (vs : List Value)
    → list_any q (by_priority vs) ≡ list_any q vs
priority-any q [] = refl
priority-any q (v ∷ vs) = first-any q v (by_priority vs) ∙ ap (λ b. q v || b) (priority-any q vs)

first-all : (t : Value → Bool) (v : Value) (vs : List Value) → t v ≡ true → list_all t vs ≡ true
    → list_all t (insert_first v vs) ≡ true
first-all t v [] one all = and-of (t v) true one refl
first-all t v (w ∷ ws) one all =
    go (nat_le v.0 w.0) (first-all t v ws one (both-of (t w) (list_all t ws) all).1)
  where
    go : (b : Bool) → list_all t (insert_first v ws) ≡ true
        → list_all t (cond b (v ∷ w ∷ ws) (w ∷ insert_first v ws)) ≡ true
    go true rest = and-of (t v) (list_all t (w ∷ ws)) one all
    go false rest
        = and-of (t w) (list_all t (insert_first v ws)) (both-of (t w) (list_all t ws) all).0 rest

pub priority-all : (t : Value → Bool) (vs : List Value) → list_all t vs ≡ true
    → list_all t (by_priority vs) ≡ true
priority-all t [] is = refl
priority-all t (v ∷ vs) is =
    let parts = both-of (t v) (list_all t vs) is in
    first-all t v (by_priority vs) parts.0 (priority-all t vs parts.1)

abbrev NotLess : ℕ → List Value → Type 0
NotLess p vs = AllByRecursion (λ (v : Value). p ≤ v.0) vs

abbrev pub RisesByPriority : List Value → Type 0
RisesByPriority [] = Unit {0}
RisesByPriority (v ∷ vs) = NotLess v.0 vs × RisesByPriority vs

least-test : (a b : ℕ) → nat_le a b ≡ true → a ≤ b
least-test a b e = grind (arith, nat_tests)

more-test : (a b : ℕ) → nat_le a b ≡ false → b < a
more-test a b e = grind (arith, nat_tests)

not-less-lower : (p q : ℕ) (vs : List Value) → p ≤ q → NotLess q vs → NotLess p vs
not-less-lower p q [] low all = tt
not-less-lower p q (v ∷ vs) low all = (omega (arith, low, all.0), not-less-lower p q vs low all.1)

first-not-less : (p : ℕ) (v : Value) (vs : List Value) → p ≤ v.0 → NotLess p vs
    → NotLess p (insert_first v vs)
first-not-less p v [] low all = (low, tt)
first-not-less p v (w ∷ ws) low all = go (nat_le v.0 w.0) (first-not-less p v ws low all.1)
  where
    go : (b : Bool) → NotLess p (insert_first v ws)
        → NotLess p (cond b (v ∷ w ∷ ws) (w ∷ insert_first v ws))
    go true rest = (low, all)
    go false rest = (all.0, rest)

first-rises : (v : Value) (vs : List Value) → RisesByPriority vs
    → RisesByPriority (insert_first v vs)
first-rises v [] up = (tt, tt)
first-rises v (w ∷ ws) up = go (nat_le v.0 w.0) refl (first-rises v ws up.1)
  where
    go : (b : Bool) → nat_le v.0 w.0 ≡ b → RisesByPriority (insert_first v ws)
        → RisesByPriority (cond b (v ∷ w ∷ ws) (w ∷ insert_first v ws))
    go true is rest =
        let low : v.0 ≤ w.0 = least-test v.0 w.0 is in
        ((low, not-less-lower v.0 w.0 ws low up.0), up)
    go false is rest =
        let low : w.0 < v.0 = more-test v.0 w.0 is in
        (first-not-less w.0 v ws (omega (arith, low)) up.0, rest)

pub priority-rises : (vs : List Value) → RisesByPriority (by_priority vs)
priority-rises [] = tt
priority-rises (v ∷ vs) = first-rises v (by_priority vs) (priority-rises vs)

-- ---- what some value of a key has

placed-any : (q : Value → Bool) (vs : List Value) (v : Value)
    → list_any q (place vs v) ≡ q v || list_any q vs
placed-any q [] v = refl
placed-any q (x ∷ xs) v = go (more v.0 (x ∷ xs)) (placed-any q xs v)
  where
    go : (b : Bool) → list_any q (place xs v) ≡ q v || list_any q xs
        → list_any q (cond b (v ∷ x ∷ xs) (x ∷ place xs v)) ≡ q v || (q x || list_any q xs)
    go true rest = refl
    go false rest = ap (λ b. q x || b) rest ∙ or-swap (q x) (q v) (list_any q xs)

pub put-any : (q : Value → Bool) (done vs : List Value)
    → list_any q (fold place done vs) ≡ list_any q done || list_any q vs
put-any q done [] = sym (or-nil (list_any q done))
put-any q done (v ∷ vs) =
    put-any q (place done v) vs
    ∙ ap (λ b. b || list_any q vs) (placed-any q done v)
    ∙ or-move (q v) (list_any q done) (list_any q vs)

placed-all : (t : Value → Bool) (vs : List Value) (v : Value) → t v ≡ true → list_all t vs ≡ true
    → list_all t (place vs v) ≡ true
placed-all t [] v one all = and-of (t v) true one refl
placed-all t (x ∷ xs) v one all =
    go (more v.0 (x ∷ xs)) (placed-all t xs v one (both-of (t x) (list_all t xs) all).1)
  where
    go : (b : Bool) → list_all t (place xs v) ≡ true
        → list_all t (cond b (v ∷ x ∷ xs) (x ∷ place xs v)) ≡ true
    go true rest = and-of (t v) (list_all t (x ∷ xs)) one all
    go false rest
        = and-of (t x) (list_all t (place xs v)) (both-of (t x) (list_all t xs) all).0 rest

pub put-all : (t : Value → Bool) (done vs : List Value) → list_all t done ≡ true
    → list_all t vs ≡ true → list_all t (fold place done vs) ≡ true
put-all t done [] before all = before
put-all t done (v ∷ vs) before all =
    let parts = both-of (t v) (list_all t vs) all in
    put-all t (place done v) vs (placed-all t done v parts.0 before) parts.1

-- ---- values under their keys

abbrev pub matches : (Value → Bool) → List ℕ → KeyValue → Bool
matches q text p = is_match p.0 text && q p.1

pub under-matches : (q : Value → Bool) (text key : List ℕ) (ps : List KeyValue)
    → is_match key text ≡ true → list_any q (under key ps) ≡ true
    → list_any (matches q text) ps ≡ true
under-matches q text key [] match is = absurd (cc)
under-matches q text key (p ∷ ps) match is =
    go (same_key key p.0) refl is (λ later. under-matches q text key ps match later)
  where
    rest : Bool
    rest = list_any (matches q text) ps

    head : (t : Bool) → q p.1 ≡ t → key ≡ p.0 → t || list_any q (under key ps) ≡ true
        → (list_any q (under key ps) ≡ true → rest ≡ true) → matches q text p || rest ≡ true
    head true here same is later
        = ap (λ b. b || rest)
        (and-of (is_match p.0 text) (q p.1) (subst (λ k. is_match k text ≡ true) same match)
        here)
    head false here same is later = or-true (matches q text p) rest (later is)

    go : (b : Bool) → same_key key p.0 ≡ b
        → list_any q (map (λ (p : KeyValue). p.1)
        (cond b (p ∷ filter (λ (p : KeyValue). is_eq (slice_cmp nat_cmp key p.0)) ps)
        (filter (λ (p : KeyValue). is_eq (slice_cmp nat_cmp key p.0)) ps)))
        ≡ true
        → (list_any q (under key ps) ≡ true → rest ≡ true) → matches q text p || rest ≡ true
    go true same is later = head (q p.1) refl (key-equal key p.0 same) is later
    go false same is later = or-true (matches q text p) rest (later is)

-- a value stays under its key
still-under : (q : Value → Bool) (key : List ℕ) (p : KeyValue) (ps : List KeyValue)
    → list_any q (under key ps) ≡ true → list_any q (under key (p ∷ ps)) ≡ true
still-under q key p ps is = go (same_key key p.0)
  where
    go : (b : Bool)
        → list_any q (map (λ (p : KeyValue). p.1)
        (cond b (p ∷ filter (λ (p : KeyValue). is_eq (slice_cmp nat_cmp key p.0)) ps)
        (filter (λ (p : KeyValue). is_eq (slice_cmp nat_cmp key p.0)) ps)))
        ≡ true
    go true = or-true (q p.1) (list_any q (under key ps)) is
    go false = is

own-key : (q : Value → Bool) (p : KeyValue) (ps : List KeyValue) → q p.1 ≡ true
    → list_any q (under p.0 (p ∷ ps)) ≡ true
own-key q p ps is = go (same_key p.0 p.0) (key-same p.0)
  where
    go : (b : Bool) → b ≡ true
        → list_any q (map (λ (o : KeyValue). o.1)
        (cond b (p ∷ filter (λ (o : KeyValue). is_eq (slice_cmp nat_cmp p.0 o.0)) ps)
        (filter (λ (o : KeyValue). is_eq (slice_cmp nat_cmp p.0 o.0)) ps)))
        ≡ true
    go true same = ap (λ b. b || list_any q (under p.0 ps)) is
    go false same = absurd (cc)

pub some-under : (q : Value → Bool) (text : List ℕ) (ps : List KeyValue)
    → list_any (matches q text) ps ≡ true
    → (key : List ℕ) × (is_match key text && list_any q (under key ps) ≡ true)
some-under q text [] is = absurd (cc)
some-under q text (p ∷ ps) is = go (matches q text p) refl is (λ later. some-under q text ps later)
  where
    go : (b : Bool) → matches q text p ≡ b → b || list_any (matches q text) ps ≡ true
        → (list_any (matches q text) ps ≡ true
        → (key : List ℕ) × (is_match key text && list_any q (under key ps) ≡ true))
        → (key : List ℕ) × (is_match key text && list_any q (under key (p ∷ ps)) ≡ true)
    go true here is later =
        let parts = both-of (is_match p.0 text) (q p.1) here in (
          p.0,
          and-of (is_match p.0 text) (list_any q (under p.0 (p ∷ ps))) parts.0
              (own-key q p ps parts.1),
        )
    go false here is later =
        let rest = later is in
        let parts = both-of (is_match rest.0 text) (list_any q (under rest.0 ps)) rest.1 in (
          rest.0,
          and-of (is_match rest.0 text) (list_any q (under rest.0 (p ∷ ps))) parts.0
              (still-under q rest.0 p ps parts.1),
        )

pub all-under : (t : Value → Bool) (ps : List KeyValue)
    → list_all (λ (p : KeyValue). t p.1) ps ≡ true → (key : List ℕ)
    → list_all t (under key ps) ≡ true
all-under t [] is key = refl
all-under t (p ∷ ps) is key =
    let parts = both-of (t p.1) (list_all (λ (p : KeyValue). t p.1) ps) is in
    go (same_key key p.0) parts.0 (all-under t ps parts.1 key)
  where
    go : (b : Bool) → t p.1 ≡ true → list_all t (under key ps) ≡ true
        → list_all t (map (λ (p : KeyValue). p.1)
        (cond b (p ∷ filter (λ (p : KeyValue). is_eq (slice_cmp nat_cmp key p.0)) ps)
        (filter (λ (p : KeyValue). is_eq (slice_cmp nat_cmp key p.0)) ps)))
        ≡ true
    go true one rest = and-of (t p.1) (list_all t (under key ps)) one rest
    go false one rest = rest
