-- The queue makes the plan.
use Rattle.std.proofs.Common.{◌≡◌, ℕ, zero, suc, ◌<◌, ◌≤◌, List, [], ◌∷◌, ◌++◌, length, drop}
use Rattle.std.proofs.Common.{get_or, sym, refl, ap, ◌∙◌, subst, inl, inr, arith}
use Rattle.std.specs.Prelude.{◌⊎◌}
use Rattle.std.specs.List.{flat_map}
use Rattle.std.proofs.lemmas.Bool.{cases_lt}
use Rattle.std.proofs.lemmas.List.{append-nil, append_assoc, map-append, drop-append-le}
use Rattle.std.proofs.lemmas.Grind.{flat_map-append}
use Rattle.std.proofs.Common.{drop-cons}
use Rattle.relation_order.specs.Sets.{Relation}
use Rattle.plan_order.specs.Plan.{group, with_group, with_groups, singles, post_at, plan_after}
use Rattle.plan_order.specs.Plan.{plan}
use Rattle.plan_order.specs.Queue.{queued}
use Rattle.plan_order.proofs.PlanLaws.{plan-length}
use Rattle.plan_order.proofs.Complete.{post_at-past}

module _ (r : Relation) (set : List ℕ) (post : ℕ → List ℕ) where
  -- enough requests end the queue with an answer
  abbrev pub Ends : List ℕ → List (List ℕ) → List ℕ → Type 0
  Ends done queue answer = (m : ℕ) × ((n : ℕ) → m ≤ n → queued r set post n done queue ≡ answer)

  -- what the post-softdeps of some modules ask for
  abbrev pub asks : List ℕ → List (List ℕ)
  asks xs = singles (flat_map post xs)

  asks-append : (xs ys : List ℕ) → asks (xs ++ ys) ≡ asks xs ++ asks ys
  asks-append xs ys
      = ap singles (flat_map-append post xs ys)
      ∙ map-append (λ x. x ∷ []) (flat_map post xs) (flat_map post ys)

  asks-cons : (x : ℕ) (xs : List ℕ) → asks (x ∷ xs) ≡ singles (post x) ++ asks xs
  asks-cons x xs = map-append (λ x. x ∷ []) (post x) (flat_map post xs)

  ends-none : (done : List ℕ) → Ends done [] done
  ends-none done = (0, go)
    where
      go : (n : ℕ) → 0 ≤ n → queued r set post n done [] ≡ done
      go zero l = refl
      go (suc n) l = refl

  ends-one : (done request : List ℕ) (queue : List (List ℕ)) (answer : List ℕ)
      → Ends (with_group r set done request) (queue ++ asks (group r set done request)) answer
      → Ends done (request ∷ queue) answer
  ends-one done request queue answer w = (suc w.0, go)
    where
      go : (n : ℕ) → suc w.0 ≤ n → queued r set post n done (request ∷ queue) ≡ answer
      go zero l = absurd (omega arith)
      go (suc n) l = w.1 n (omega arith)

  -- what some requests add
  abbrev pub added : List ℕ → List (List ℕ) → List ℕ
  added done [] = []
  added done (request ∷ requests)
      = group r set done request ++ added (with_group r set done request) requests

  with-added : (done : List ℕ) (requests : List (List ℕ))
      → with_groups r set done requests ≡ done ++ added done requests
  with-added done [] = sym (append-nil done)
  with-added done (request ∷ requests)
      = with-added (with_group r set done request) requests
      ∙ append_assoc done (group r set done request)
      (added (with_group r set done request) requests)

  ends-some : (done : List ℕ) (requests rest : List (List ℕ)) (answer : List ℕ)
      → Ends (with_groups r set done requests) (rest ++ asks (added done requests)) answer
      → Ends done (requests ++ rest) answer
  ends-some done [] rest answer w = subst (λ q. Ends done q answer) (append-nil rest) w
  ends-some done (request ∷ requests) rest answer w =
      ends-one done request (requests ++ rest) answer
      (subst (λ q. Ends (with_group r set done request) q answer)
      (sym (append_assoc requests rest (asks (group r set done request))))
      (ends-some (with_group r set done request) requests (rest ++ asks (group r set done request))
      answer
      (subst (λ q. Ends (with_groups r set (with_group r set done request) requests) q answer)
      (ap (λ q. rest ++ q)
      (asks-append (group r set done request)
      (added (with_group r set done request) requests))
      ∙ sym (append_assoc rest (asks (group r set done request))
      (asks (added (with_group r set done request) requests)))) w)))

  -- the post-softdeps of the modules from a place on
  abbrev pub asked_from : ℕ → List ℕ → List (List ℕ)
  asked_from k xs = asks (drop k xs)

  pub post_at-here : (xs : List ℕ) (k : ℕ) → k < length xs
      → post_at post xs k ≡ post (get_or xs k 0)
  post_at-here [] k l = absurd (omega arith)
  post_at-here (x ∷ xs) zero l = refl
  post_at-here (x ∷ xs) (suc k) l = post_at-here xs k (omega arith)

  drop-past : (xs : List ℕ) (k : ℕ) → length xs ≤ k → drop k xs ≡ []
  drop-past [] zero l = refl
  drop-past [] (suc k) l = refl
  drop-past (x ∷ xs) zero l = absurd (omega arith)
  drop-past (x ∷ xs) (suc k) l = drop-past xs k (omega arith)

  -- the post-softdeps of the module at a place are asked for
  ends-round : (done : List ℕ) (k : ℕ) (answer : List ℕ) → (k < length done) ⊎ (length done ≤ k)
      → Ends (with_groups r set done (singles (post_at post done k)))
      (asked_from (suc k) (with_groups r set done (singles (post_at post done k)))) answer
      → Ends done (asked_from k done) answer
  ends-round done k answer (inl l) w =
      let q = singles (post_at post done k) in
      let front : asked_from k done ≡ singles (post_at post done k) ++ asked_from (suc k) done =
      ap asks (drop-cons done k 0 l) ∙ asks-cons (get_or done k 0) (drop (suc k) done)
      ∙ ap (λ ys. singles ys ++ asked_from (suc k) done) (sym (post_at-here done k l)) in
      let back : asked_from (suc k) (with_groups r set done (singles (post_at post done k)))
      ≡ asked_from (suc k) done ++ asks (added done (singles (post_at post done k)))
      =
      ap (asked_from (suc k)) (with-added done (singles (post_at post done k)))
      ∙ ap asks (drop-append-le (suc k) done (added done (singles (post_at post done k))) l)
      ∙ asks-append (drop (suc k) done) (added done (singles (post_at post done k))) in
      subst (λ q. Ends done q answer) (sym front)
      (ends-some done (singles (post_at post done k)) (asked_from (suc k) done) answer
      (subst (λ q. Ends (with_groups r set done (singles (post_at post done k))) q answer) back w))
  ends-round done k answer (inr l) w =
      let none : with_groups r set done (singles (post_at post done k)) ≡ done
      = ap (λ ys. with_groups r set done (singles ys)) (post_at-past post done k l) in
      let w' : Ends done (asked_from (suc k) done) answer
      = subst (λ xs. Ends xs (asked_from (suc k) xs) answer) none w in
      subst (λ ys. Ends done (asks ys) answer)
      (drop-past done (suc k) (omega arith) ∙ sym (drop-past done k l)) w'

  ends-back : (requests : List (List ℕ)) (k : ℕ) (answer : List ℕ)
      → Ends (plan_after r set post requests k) (asked_from k (plan_after r set post requests k))
      answer
      → Ends (plan_after r set post requests 0) (asked_from 0 (plan_after r set post requests 0))
      answer
  ends-back requests zero answer w = w
  ends-back requests (suc k) answer w
      = ends-back requests k answer
      (ends-round (plan_after r set post requests k) k answer
      (cases_lt k (length (plan_after r set post requests k))) w)

  -- as soon as the queue may take enough requests, it gives the plan
  pub queue-plans : (requests : List (List ℕ))
      → (m : ℕ) × ((n : ℕ) → m ≤ n → queued r set post n [] requests ≡ plan r set post requests)
  unfolding plan
  queue-plans requests =
      let last = plan_after r set post requests (length set) in
      let short : length (plan_after r set post requests (length set)) ≤ length set
      = plan-length r set post requests in
      subst (λ q. Ends [] q (plan_after r set post requests (length set))) (append-nil requests)
      (ends-some [] requests [] (plan_after r set post requests (length set))
      (subst (λ xs. Ends (with_groups r set [] requests) (asks xs)
      (plan_after r set post requests (length set))) (with-added [] requests)
      (ends-back requests (length set) (plan_after r set post requests (length set))
      (subst (λ ys. Ends (plan_after r set post requests (length set)) (asks ys)
      (plan_after r set post requests (length set)))
      (sym (drop-past (plan_after r set post requests (length set)) (length set) short))
      (ends-none (plan_after r set post requests (length set)))))))
