-- One pass from the youngest entry down gives the least set.
use Rattle.std.proofs.Common.{◌≡◌, ◌≤◌, ◌<◌, ◌+◌, ◌-◌, ◌∙◌, ◌⊎◌, inl, inr, ℕ, zero, suc, Bool, true}
use Rattle.std.proofs.Common.{false, List, [], ◌∷◌, ◌++◌, Option, Some, None, refl, sym, ap, subst}
use Rattle.std.proofs.Common.{arith, length, cond}
use Rattle.std.specs.Prelude.{◌&&◌, ◌||◌, not, find, slice_get, is_none, nat_eq, nat_lt}
use Rattle.std.specs.List.{list_any}
use Rattle.std.specs.Option.{option_map_or}
use Rattle.std.proofs.lemmas.Bool.{cases_Bool, false≢true, or_cases, or_parts, or_left, or_right}
use Rattle.std.proofs.lemmas.Bool.Decides.{nat_tests}
use Rattle.name_table.specs.FirstSeen.{is_among}
use Rattle.model_loader.specs.declared.entry.Entry.{Entry}
use Rattle.model_loader.specs.Machine.{Machine}
use Rattle.model_loader.specs.Use.{binds, places, uses_entry}
use Rattle.model_loader.proofs.PlaceLemmas.{in-place}
use Rattle.remove_plan.specs.Removal.{AreFalling, IsRemovalSet, IsLeast, Places, RemovedAreLeast}
use Rattle.remove_plan.specs.Removal.{RemovedAreOne, among, is_asked, is_used_only, members_below}
use Rattle.remove_plan.specs.Removal.{removed, user_outside}
use Rattle.std.proofs.Math.Bool.{or-false}

-- Tests of two values, where the second decides whether the first counts.
and-same : (b c d : Bool) → (d ≡ true → b ≡ c) → (b && d) ≡ (c && d)
and-same b c true same = ap (λ x. x && true) (same refl)
and-same true true false same = refl
and-same true false false same = refl
and-same false true false same = refl
and-same false false false same = refl

but-same : (b c d : Bool) → (d ≡ true → b ≡ c) → (d && not b) ≡ (d && not c)
but-same b c true same = ap not (same refl)
but-same b c false same = refl

pub both-true : (a b : Bool) → (a && b) ≡ true → (a ≡ true) × (b ≡ true)
both-true true true is = (refl, refl)
both-true true false is = absurd (false≢true is)
both-true false b is = absurd (false≢true is)

pub any-same : (p q : ℕ → Bool) → ((k : ℕ) → p k ≡ q k) → (ks : List ℕ)
    → list_any p ks ≡ list_any q ks
any-same p q same [] = refl
any-same p q same (k ∷ ks) =
    ap (λ b. b || list_any p ks) (same k) ∙ ap (λ b. q k || b) (any-same p q same ks)

pub find-same : (p q : ℕ → Bool) → ((k : ℕ) → p k ≡ q k) → (ks : List ℕ) → find p ks ≡ find q ks
find-same p q same [] = refl
find-same p q same (k ∷ ks) =
    ap (λ b. cond b (Some k) (find p ks)) (same k)
    ∙ ap (cond (q k) (Some k)) (find-same p q same ks)

any-grows : (p q : ℕ → Bool) → ((k : ℕ) → p k ≡ true → q k ≡ true) → (ks : List ℕ)
    → list_any p ks ≡ true → list_any q ks ≡ true
any-grows p q more [] is = is
any-grows p q more (k ∷ ks) is =
    elim (or_cases (p k) (list_any p ks) is) [
      | inl here ↦ or_left (q k) (list_any q ks) (more k here)
      | inr later ↦ or_right (q k) (list_any q ks) (any-grows p q more ks later)
    ]

none-shrinks : (p q : ℕ → Bool) → ((k : ℕ) → q k ≡ true → p k ≡ true) → (ks : List ℕ)
    → is_none (find p ks) ≡ true → is_none (find q ks) ≡ true
none-shrinks p q less [] is = is
none-shrinks p q less (k ∷ ks) is =
    elim (cases_Bool (q k)) [
      | inl here ↦ absurd
          (false≢true (sym (ap (λ b. is_none (cond b (Some k) (find p ks))) (less k here)) ∙ is))
      | inr other ↦ rw other (none-shrinks p q less ks (later (p k) is))
    ]
  where
    later : (b : Bool) → is_none (cond b (Some k) (find p ks)) ≡ true → is_none (find p ks) ≡ true
    later true is = absurd (false≢true is)
    later false is = is

-- Who binds to an entry is younger.
pub younger : (machine : Machine) (u k : ℕ) → binds machine u k ≡ true → k < u
younger machine u k is =
    let less
    = (both-true (nat_lt k u)
    (option_map_or
    (λ user. option_map_or (uses_entry user) (slice_get machine.entries k) false)
    (slice_get machine.entries u) false) is).0 in
    grind (arith, nat_tests)

-- Whether only members of a set use an entry depends only on the younger members.
left-same : (machine : Machine) (x y : Places) (k : ℕ) → ((u : ℕ) → k < u → x u ≡ y u)
    → is_used_only machine x k ≡ is_used_only machine y k
left-same machine x y k same =
    ap (λ b. b && is_none (user_outside machine x k))
    (any-same (λ u. x u && binds machine u k) (λ u. y u && binds machine u k)
    (λ u. and-same (x u) (y u) (binds machine u k) (λ b. same u (younger machine u k b)))
    (places machine))
    ∙ ap (λ o. list_any (λ u. y u && binds machine u k) (places machine) && is_none o)
    (find-same (λ u. binds machine u k && not (x u)) (λ u. binds machine u k && not (y u))
    (λ u. but-same (x u) (y u) (binds machine u k) (λ b. same u (younger machine u k b)))
    (places machine))

-- What only members of a set use, only members of a greater set use.
left-grows : (machine : Machine) (x y : Places) (k : ℕ) → ((u : ℕ) → x u ≡ true → y u ≡ true)
    → is_used_only machine x k ≡ true → is_used_only machine y k ≡ true
left-grows machine x y k more is =
    let parts
    = both-true (list_any (λ u. x u && binds machine u k) (places machine))
    (is_none (user_outside machine x k)) is in
    join (list_any (λ u. y u && binds machine u k) (places machine))
    (is_none (user_outside machine y k))
    (any-grows (λ u. x u && binds machine u k) (λ u. y u && binds machine u k)
    (λ u here. let h
    = both-true (x u) (binds machine u k) here in join (y u) (binds machine u k)
    (more u h.0) h.1) (places machine) parts.0)
    (none-shrinks (λ u. binds machine u k && not (x u)) (λ u. binds machine u k && not (y u))
    (λ u here. let h
    = both-true (binds machine u k) (not (y u)) here in join (binds machine u k) (not (x u))
    h.0 (outside (x u) (y u) (more u) h.1)) (places machine) parts.1)
  where
    join : (a b : Bool) → a ≡ true → b ≡ true → (a && b) ≡ true
    join a b one other = rw (one, other) refl

    outside : (a b : Bool) → (a ≡ true → b ≡ true) → not b ≡ true → not a ≡ true
    outside false b more out = refl
    outside true b more out = absurd (false≢true (ap not (sym (more refl)) ∙ out))

-- A place more in a list.
among-push : (ks : List ℕ) (k u : ℕ) → among (ks ++ k ∷ []) u ≡ (among ks u || nat_eq k u)
among-push [] k u =
    elim (nat_eq k u) as (λ b. (b || false) ≡ (false || b)) [ true ↦ refl | false ↦ refl ]
among-push (x ∷ ks) k u =
    elim (nat_eq x u) as (λ b. (b || among (ks ++ k ∷ []) u) ≡ ((b || among ks u) || nat_eq k u)) [
      | true ↦ refl
      | false ↦ among-push ks k u
    ]

pub pushed-here : (ks : List ℕ) (k : ℕ) → among (ks ++ k ∷ []) k ≡ true
pushed-here ks k = among-push ks k k ∙ or_right (among ks k) (nat_eq k k) (grind (arith, nat_tests))

pushed-there : (ks : List ℕ) (k u : ℕ) → among ks u ≡ true → among (ks ++ k ∷ []) u ≡ true
pushed-there ks k u is = among-push ks k u ∙ or_left (among ks u) (nat_eq k u) is

pub pushed-other : (ks : List ℕ) (k u : ℕ) → k < u → among (ks ++ k ∷ []) u ≡ among ks u
pushed-other ks k u less =
    let other : nat_eq k u ≡ false = grind (arith, nat_tests) in
    among-push ks k u ∙ ap (λ b. among ks u || b) other ∙ or-false (among ks u)

pub pushed-cases : (ks : List ℕ) (k u : ℕ) → among (ks ++ k ∷ []) u ≡ true
    → (among ks u ≡ true) ⊎ (k ≡ u)
pushed-cases ks k u is =
    elim (or_cases (among ks u) (nat_eq k u) (sym (among-push ks k u) ∙ is)) [
      | inl old ↦ inl old
      | inr same ↦ inr (grind (arith, nat_tests))
    ]

falling-push : (ks : List ℕ) (k : ℕ) → AreFalling ks → ((u : ℕ) → among ks u ≡ true → k < u)
    → AreFalling (ks ++ k ∷ [])
falling-push [] k fall over = ((λ u none. absurd (false≢true none)), tt)
falling-push (x ∷ ks) k fall over = (
  (λ u member.
      elim (pushed-cases ks k u member) [
        | inl old ↦ fall.0 u old
        | inr same ↦ subst (λ v. v < x) same
            (over x (or_left (nat_eq x x) (among ks x) (grind (arith, nat_tests))))
      ]),
  falling-push ks k fall.1 (λ u member. over u (or_right (nat_eq x u) (among ks u) member)),
)

-- What the pass keeps: of the places from k on it has just the places of the least set.
record IsStage (machine : Machine) (r : Places) (k : ℕ) (ks : List ℕ) : Type 0 where
  above : (u : ℕ) → among ks u ≡ true → k ≤ u
  falling : AreFalling ks
  why : (u : ℕ) → among ks u ≡ true → (r u ≡ true) ⊎ (is_used_only machine (among ks) u ≡ true)
  asked_for : (u : ℕ) → k ≤ u → r u ≡ true → among ks u ≡ true
  left : (u : ℕ) → k ≤ u → is_used_only machine (among ks) u ≡ true → among ks u ≡ true
  least : (other : Places) → IsRemovalSet machine r other → (u : ℕ) → among ks u ≡ true
      → other u ≡ true

at-or-above : (k u : ℕ) → k ≤ u → (k ≡ u) ⊎ (suc k ≤ u)
at-or-above k u le = grind arith

stage-next : (machine : Machine) (r : Places) (k : ℕ) (ks : List ℕ) (b : Bool)
    → (r k || is_used_only machine (among ks) k) ≡ b → IsStage machine r (suc k) ks
    → IsStage machine r k (cond b (ks ++ k ∷ []) ks)
stage-next machine r k ks false is stage =
    let none = or_parts (r k) (is_used_only machine (among ks) k) is in
    record {
      above = λ u member. omega (arith, stage.above u member);
      falling = stage.falling;
      why = stage.why;
      asked_for = λ u le in_r.
          elim (at-or-above k u le) [
            | inl same ↦ absurd (false≢true (sym none.0 ∙ ap r same ∙ in_r))
            | inr above ↦ stage.asked_for u above in_r
          ];
      left = λ u le is_so.
          elim (at-or-above k u le) [
            | inl same ↦ absurd
                (false≢true (sym none.1 ∙ ap (is_used_only machine (among ks)) same ∙ is_so))
            | inr above ↦ stage.left u above is_so
          ];
      least = stage.least;
    }
stage-next machine r k ks true is stage = record {
  above = λ u member.
      elim (pushed-cases ks k u member) [
        | inl old ↦ omega (arith, stage.above u old)
        | inr same ↦ omega (arith, same)
      ];
  falling = falling-push ks k stage.falling (λ u member. stage.above u member);
  why = λ u member.
      elim (pushed-cases ks k u member) [
        | inl old ↦
            elim (stage.why u old) [
              | inl in_r ↦ inl in_r
              | inr is_so ↦ inr
                  (left-grows machine (among ks) (among (ks ++ k ∷ [])) u (pushed-there ks k) is_so)
            ]
        | inr same ↦
            elim (or_cases (r k) (is_used_only machine (among ks) k) is) [
              | inl in_r ↦ inl (ap r (sym same) ∙ in_r)
              | inr is_so ↦ inr
                  (ap (is_used_only machine (among (ks ++ k ∷ []))) (sym same)
                  ∙ left-grows machine (among ks) (among (ks ++ k ∷ [])) k (pushed-there ks k)
                  is_so)
            ]
      ];
  asked_for = λ u le in_r.
      elim (at-or-above k u le) [
        | inl same ↦ ap (among (ks ++ k ∷ [])) (sym same) ∙ pushed-here ks k
        | inr above ↦ pushed-there ks k u (stage.asked_for u above in_r)
      ];
  left = λ u le is_so.
      elim (at-or-above k u le) [
        | inl same ↦ ap (among (ks ++ k ∷ [])) (sym same) ∙ pushed-here ks k
        | inr above ↦
            pushed-there ks k u
            (stage.left u above
            (sym (left-same machine (among (ks ++ k ∷ [])) (among ks) u
            (λ v less. pushed-other ks k v (omega (arith, above, less))))
            ∙ is_so))
      ];
  least = λ other closed u member.
      elim (pushed-cases ks k u member) [
        | inl old ↦ stage.least other closed u old
        | inr same ↦
            subst (λ v. other v ≡ true) same
            (elim (or_cases (r k) (is_used_only machine (among ks) k) is) [
              | inl in_r ↦ closed.asked k in_r
              | inr is_so ↦ closed.used_only k
                  (left-grows machine (among ks) other k (stage.least other closed) is_so)
            ])
      ];
}

stage-last : (machine : Machine) (r : Places) (k : ℕ) (ks : List ℕ) → IsStage machine r k ks
    → IsStage machine r 0 (members_below machine r k ks)
stage-last machine r zero ks stage = stage
stage-last machine r (suc k) ks stage =
    stage-last machine r k (cond (r k || is_used_only machine (among ks) k) (ks ++ k ∷ []) ks)
    (stage-next machine r k ks (r k || is_used_only machine (among ks) k) refl stage)

none-left : (machine : Machine) (k : ℕ) (us : List ℕ)
    → list_any (λ u. among [] u && binds machine u k) us ≡ false
none-left machine k [] = refl
none-left machine k (u ∷ us) = none-left machine k us

stage-first : (machine : Machine) (r : Places) → ((k : ℕ) → r k ≡ true → k < length machine.entries)
    → IsStage machine r (length machine.entries) []
stage-first machine r within = record {
  above = λ u member. absurd (false≢true member);
  falling = tt;
  why = λ u member. absurd (false≢true member);
  asked_for = λ u le in_r. absurd (omega (arith, le, within u in_r));
  left = λ u le is.
      absurd (false≢true
      (sym (ap (λ b. b && is_none (user_outside machine (among []) u))
      (none-left machine u (places machine)))
      ∙ is));
  least = λ other closed u member. absurd (false≢true member);
}

pub least-removed : (machine : Machine) (r : Places)
    → ((k : ℕ) → r k ≡ true → k < length machine.entries)
    → IsLeast machine r (among (removed machine r))
unfolding removed
least-removed machine r within =
    let stage = stage-last machine r (length machine.entries) [] (stage-first machine r within) in
    record {
      closed
          = record {
            asked = λ k in_r. stage.asked_for k (omega arith) in_r;
            used_only = λ k is. stage.left k (omega arith) is;
          };
      least = stage.least;
    }

-- Only entries are asked for.
pub asked-inside : (machine : Machine) (names : List (List ℕ)) (k : ℕ)
    → is_asked machine names k ≡ true → k < length machine.entries
asked-inside machine names k is = by (slice_get machine.entries k) refl
  where
    by : (o : Option Entry) → slice_get machine.entries k ≡ o → k < length machine.entries
    by None at
        = absurd (false≢true
        (sym (ap (λ o. option_map_or (λ (e : Entry). is_among names e.loaded.name) o false) at)
        ∙ is))
    by (Some e) at = in-place machine.entries k e at

module _ (machine : Machine) (names : List (List ℕ)) where
  stage : IsStage machine (is_asked machine names) 0 (removed machine (is_asked machine names))
  unfolding removed
  stage
      = stage-last machine (is_asked machine names) (length machine.entries) []
      (stage-first machine (is_asked machine names) (asked-inside machine names))

  -- Each that goes is asked for, or used, and only by others that go.
  pub removed-why : (u : ℕ) → among (removed machine (is_asked machine names)) u ≡ true
      → (is_asked machine names u ≡ true)
      ⊎ (is_used_only machine (among (removed machine (is_asked machine names))) u ≡ true)
  removed-why = stage.why

pub removed-are-least : RemovedAreLeast
removed-are-least machine names =
    record {
      least = least-removed machine (is_asked machine names) (asked-inside machine names);
      falling = (stage machine names).falling;
    }

-- Falling lists with the same members are the same.
pub here-first : (k : ℕ) (ks : List ℕ) → among (k ∷ ks) k ≡ true
here-first k ks = or_left (nat_eq k k) (among ks k) (grind (arith, nat_tests))

no-more : (l u : ℕ) (ls : List ℕ) → ((v : ℕ) → among ls v ≡ true → v < l) → among (l ∷ ls) u ≡ true
    → u ≤ l
no-more l u ls fall member =
    elim (or_cases (nat_eq l u) (among ls u) member) [
      | inl same ↦ grind (arith, nat_tests)
      | inr later ↦ omega (arith, fall u later)
    ]

rest-member : (k u : ℕ) (ks ls : List ℕ) → u < k
    → ((v : ℕ) → among (k ∷ ks) v ≡ true → among (k ∷ ls) v ≡ true) → among ks u ≡ true
    → among ls u ≡ true
rest-member k u ks ls less more member =
    elim (or_cases (nat_eq k u) (among ls u) (more u (or_right (nat_eq k u) (among ks u) member))) [
      | inl same ↦ absurd (let e : k ≡ u = grind (arith, nat_tests) in omega (arith, less, e))
      | inr later ↦ later
    ]

falling-one : (ks ls : List ℕ) → AreFalling ks → AreFalling ls
    → ((u : ℕ) → among ks u ≡ true → among ls u ≡ true)
    → ((u : ℕ) → among ls u ≡ true → among ks u ≡ true) → ks ≡ ls
falling-one [] [] fall_k fall_l more less = refl
falling-one [] (l ∷ ls) fall_k fall_l more less = absurd (false≢true (less l (here-first l ls)))
falling-one (k ∷ ks) [] fall_k fall_l more less = absurd (false≢true (more k (here-first k ks)))
falling-one (k ∷ ks) (l ∷ ls) fall_k fall_l more less =
    let low : k ≤ l = no-more l k ls fall_l.0 (more k (here-first k ks)) in
    let high : l ≤ k = no-more k l ks fall_k.0 (less l (here-first l ls)) in
    let same : k ≡ l = omega (arith, low, high) in
    let more_k : (v : ℕ) → among (k ∷ ks) v ≡ true → among (k ∷ ls) v ≡ true
    = subst (λ m. (v : ℕ) → among (k ∷ ks) v ≡ true → among (m ∷ ls) v ≡ true) (sym same) more
    in
    let less_k : (v : ℕ) → among (k ∷ ls) v ≡ true → among (k ∷ ks) v ≡ true
    = subst (λ m. (v : ℕ) → among (m ∷ ls) v ≡ true → among (k ∷ ks) v ≡ true) (sym same) less
    in
    ap (λ m. m ∷ ks) same
    ∙ ap (λ ms. l ∷ ms)
    (falling-one ks ls fall_k.1 fall_l.1
    (λ u member. rest-member k u ks ls (fall_k.0 u member) more_k member)
    (λ u member. rest-member k u ls ks (omega (arith, fall_l.0 u member, same)) less_k member))

pub removed-are-one : RemovedAreOne
removed-are-one machine r ks ls one other =
    falling-one ks ls one.falling other.falling (one.least.least (among ls) other.least.closed)
    (other.least.least (among ks) one.least.closed)

-- One place more of the pass.
pub pass-more : (machine : Machine) (r : Places) (count done : ℕ) (ks all : List ℕ) (b : Bool)
    → done < count
    → b ≡ (r (count - 1 - done) || is_used_only machine (among ks) (count - 1 - done))
    → members_below machine r (count - done) ks ≡ all
    → members_below machine r (count - (done + 1)) (cond b (ks ++ (count - 1 - done) ∷ []) ks) ≡ all
pass-more machine r count done ks all b less test is =
    let k = count - 1 - done in
    let now : count - done ≡ suc k = omega (arith, less) in
    let next : count - (done + 1) ≡ k = omega (arith, less) in
    ap (λ n. members_below machine r n (cond b (ks ++ k ∷ []) ks)) next
    ∙ ap (λ t. members_below machine r k (cond t (ks ++ k ∷ []) ks)) test
    ∙ sym (ap (λ n. members_below machine r n ks) now)
    ∙ is

pub pass-first : (machine : Machine) (r : Places) (count : ℕ) (ks : List ℕ)
    → count ≡ length machine.entries → ks ≡ []
    → members_below machine r (count - 0) ks ≡ removed machine r
unfolding removed
pass-first machine r count ks counted empty =
    let now : count - 0 ≡ length machine.entries = omega (arith, counted) in
    ap (λ n. members_below machine r n ks) now
    ∙ ap (members_below machine r (length machine.entries)) empty
