-- Steps by the places where groups end.
use Rattle.std.proofs.Common.{◌≡◌, ℕ, zero, suc, ◌+◌, ◌-◌, ◌<◌, ◌≤◌, List, [], ◌∷◌, ◌++◌, length}
use Rattle.std.proofs.Common.{take, drop, map, get_or, refl, sym, ap, ◌∙◌, append_assoc, arith}
use Rattle.std.specs.Prelude.{◌||◌, if◌then◌else◌, slice_index}
use Rattle.std.specs.Str.{bytes_eq}
use Rattle.std.proofs.Common.{drop-cons}
use Rattle.std.proofs.lemmas.List.{append-nil, length-append, take_all, length-drop}
use Rattle.std.proofs.lemmas.List.Folds.{list_any-append}
use Rattle.std.proofs.Math.ListN.{drop_of_length-le}
use Rattle.std.proofs.Math.Seq.{drop-append_seam, take-append_seam}
use Rattle.relation_order.specs.Sets.{Relation}
use Rattle.plan_order.specs.Plan.{group, with_group, with_groups, plan, plan_after, singles}
use Rattle.plan_order.specs.Plan.{post_at}
use Rattle.plan_order.specs.Lists.{among}
use Rattle.plan_order.proofs.Complete.{groups-more}
use Rattle.dependency_lines.specs.Modules.{places_of}
use Rattle.name_table.specs.FirstSeen.{is_among}
use Rattle.name_lookup.specs.declared.found.Found.{Found}
use Rattle.plan_builder.specs.declared.request.Request.{Request}
use Rattle.plan_builder.specs.declared.step.PlanStep.{PlanStep}
use Rattle.plan_sources.specs.Sources.{Sources, modules}
use Rattle.planned_modules.specs.Needs.{before, unloaded}
use Rattle.plan_builder.specs.Steps.{own_step, own_steps, module_step}
use Rattle.plan_builder.specs.Ends.{steps_by, RisingEnds}
use Rattle.plan_builder.proofs.StepPlaces.{steps_from}

module _ (s : Sources) (request : Request) where
  -- what counts of earlier names is which they are
  own-same : (a b : List (List ℕ)) → ((name : List ℕ) → is_among a name ≡ is_among b name)
      → (names : List (List ℕ)) → own_steps s request a names ≡ own_steps s request b names
  own-same a b same [] = refl
  own-same a b same (name ∷ names)
      = λ i. (if same name i then [] else own_step s request name) ++ own-same a b same names i

  more-same : (a b names : List (List ℕ)) → ((name : List ℕ) → is_among a name ≡ is_among b name)
      → (name : List ℕ) → is_among (a ++ names) name ≡ is_among (b ++ names) name
  more-same a b names same name =
      list_any-append (bytes_eq name) a names ∙ ap (λ t. t || is_among names name) (same name)
      ∙ sym (list_any-append (bytes_eq name) b names)

  pub steps-same : (a b : List (List ℕ)) → ((name : List ℕ) → is_among a name ≡ is_among b name)
      → (start : ℕ) (fs : List Found) (ends order : List ℕ)
      → steps_by s request a start fs ends order ≡ steps_by s request b start fs ends order
  steps-same a b same start [] ends order = refl
  steps-same a b same start (f ∷ fs) [] order = refl
  steps-same a b same start (f ∷ fs) (end ∷ ends) order =
      λ i. own-same a b same f.names i
      ++ (map (module_step s request) (take (end - start) (drop start order))
      ++ steps-same (a ++ f.names) (b ++ f.names) (more-same a b f.names same) end fs
      ends order i)

  -- one requested name after another
  pub steps-next : (steps : List PlanStep) (a b : List (List ℕ)) (start k : ℕ) (fs : List Found)
      (f : Found) (ends order : List ℕ)
      → k < length fs → k < length ends → f ≡ get_or fs k f
      → ((name : List ℕ) → is_among b name ≡ (is_among a name || is_among f.names name))
      → ((steps ++ own_steps s request a f.names)
      ++ map (module_step s request)
      (take (slice_index ends k - start) (drop start order)))
      ++ steps_by s request b (slice_index ends k) (drop (k + 1) fs) (drop (k + 1) ends) order
      ≡ steps ++ steps_by s request a start (drop k fs) (drop k ends) order
  steps-next steps a b start k fs f ends order l m is among =
      let own = own_steps s request a f.names in
      let own-group
      = map (module_step s request) (take (slice_index ends k - start) (drop start order)) in
      let rest
      = steps_by s request b (slice_index ends k) (drop (k + 1) fs) (drop (k + 1) ends) order in
      ap (λ xs. xs ++ rest) (append_assoc steps own own-group)
      ∙ append_assoc steps (own ++ own-group) rest
      ∙ ap (λ xs. steps ++ xs) (append_assoc own own-group rest)
      ∙ ap (λ xs. steps ++ (own ++ (own-group ++ xs)))
      (steps-same b (a ++ f.names)
      (λ name. among name ∙ sym (list_any-append (bytes_eq name) a f.names))
      (slice_index ends k) (drop (k + 1) fs) (drop (k + 1) ends) order
      ∙ ap (λ n. steps_by s request (a ++ f.names) (slice_index ends k) (drop n fs) (drop n ends)
      order) (let e : k + 1 ≡ suc k = omega arith in e))
      ∙ ap (λ xs. steps ++ xs) (ap
      (λ g. steps_by s request a start (g ∷ drop (suc k) fs)
      (slice_index ends k ∷ drop (suc k) ends) order) is
      ∙ ap (λ gs. steps_by s request a start gs (slice_index ends k ∷ drop (suc k) ends) order)
      (sym (drop-cons fs k f l))
      ∙ ap (λ es. steps_by s request a start (drop k fs) es order) (sym (drop-cons ends k 0 m)))

  pub steps-past : (a : List (List ℕ)) (start k : ℕ) (fs : List Found) (ends order : List ℕ)
      → length fs ≤ k
      → steps_by s request a start (drop k fs) ends order
      ≡ map (module_step s request) (drop start order)
  steps-past a start k fs ends order l
      = ap (λ gs. steps_by s request a start gs ends order) (drop_of_length-le fs l)

pub rest-slice : (xs ys : List ℕ) (start n : ℕ) → xs ≡ ys → length xs ≤ n
    → take (n - start) (drop start xs) ≡ drop start ys
rest-slice xs ys start n e l =
    take_all (n - start) (drop start xs) (omega (arith, length-drop start xs)) ∙ ap (drop start) e

-- ---- steps by the groups themselves

module _ (s : Sources) (request : Request) where
  abbrev asks : List Found → List (List ℕ)
  asks fs = map (λ f. places_of (modules s) f.names) fs

  take-none : (xs : List (List ℕ)) → take zero xs ≡ []
  take-none [] = refl
  take-none (x ∷ xs) = refl

  pub steps-groups : (earlier : List (List ℕ)) (done : List ℕ) (fs : List Found)
      (ends order tail : List ℕ)
      → order ≡ with_groups (among (before s)) (unloaded s) done (asks fs) ++ tail
      → length ends ≡ length fs
      → ((k : ℕ) → k < length fs
      → slice_index ends k
      ≡ length
      (with_groups (among (before s)) (unloaded s) done (take (suc k) (asks fs))))
      → steps_by s request earlier (length done) fs ends order
      ≡ steps_from s request earlier done fs ++ map (module_step s request) tail
  steps-groups earlier done [] ends order tail is long at =
      ap (map (module_step s request)) (ap (drop (length done)) is ∙ drop-append_seam done tail)
  steps-groups earlier done (f ∷ fs) [] order tail is long at = absurd (omega (arith, long))
  steps-groups earlier done (f ∷ fs) (end ∷ ends) order tail is long at =
      let g = group (among (before s)) (unloaded s) done (places_of (modules s) f.names) in
      let more = groups-more (among (before s)) (unloaded s) (done ++ g) (asks fs) in
      let e : end
      ≡ length (done
      ++ group (among (before s)) (unloaded s) done (places_of (modules s) f.names))
      = at 0 (omega arith)
      ∙ ap (λ rs. length (with_groups (among (before s)) (unloaded s) (done ++ g) rs))
      (take-none (asks fs)) in
      let n : end - length done
      ≡ length (group (among (before s)) (unloaded s) done (places_of (modules s) f.names))
      = omega (
        arith,
        e,
        length-append done
            (group (among (before s)) (unloaded s) done (places_of (modules s) f.names)),
      ) in
      let whole : order ≡ done ++ (g ++ (more.0 ++ tail)) =
      is ∙ ap (λ xs. xs ++ tail) more.1 ∙ append_assoc (done ++ g) more.0 tail
      ∙ append_assoc done g (more.0 ++ tail) in
      let mine : take (end - length done) (drop (length done) order) ≡ g =
      ap (λ xs. take (end - length done) (drop (length done) xs)) whole
      ∙ ap (take (end - length done)) (drop-append_seam done (g ++ (more.0 ++ tail)))
      ∙ ap (λ k. take k (g ++ (more.0 ++ tail))) n ∙ take-append_seam g (more.0 ++ tail) in
      let later
      = steps-groups (earlier ++ f.names) (done ++ g) fs ends order tail is
      (omega (arith, long)) (λ k l. at (suc k) (omega arith)) in
      (λ i. own_steps s request earlier f.names
      ++ (map (module_step s request) (mine i)
      ++ (ap (λ k. steps_by s request (earlier ++ f.names) k fs ends order) e
      ∙ later) i))
      ∙ sym (ap (λ xs. own_steps s request earlier f.names ++ xs)
      (append_assoc (map (module_step s request) g)
      (steps_from s request (earlier ++ f.names) (done ++ g) fs)
      (map (module_step s request) tail)))
      ∙ sym (append_assoc (own_steps s request earlier f.names)
      (map (module_step s request) g
      ++ steps_from s request (earlier ++ f.names) (done ++ g) fs)
      (map (module_step s request) tail))

-- ---- a plan begins with the groups of the requests

module _ (r : Relation) (set : List ℕ) (post : ℕ → List ℕ) (requests : List (List ℕ)) where
  pub after-front : (k : ℕ)
      → (ys : List ℕ) × (plan_after r set post requests k ≡ with_groups r set [] requests ++ ys)
  after-front zero = ([], sym (append-nil (with_groups r set [] requests)))
  after-front (suc k) =
      let w = after-front k in
      let v
      = groups-more r set (plan_after r set post requests k)
      (singles (post_at post (plan_after r set post requests k) k)) in (
        w.0 ++ v.0,
        v.1 ∙ ap (λ xs. xs ++ v.0) w.1 ∙ append_assoc (with_groups r set [] requests) w.0 v.0,
      )

  pub plan-front : (ys : List ℕ) × (plan r set post requests ≡ with_groups r set [] requests ++ ys)
  unfolding plan
  plan-front = after-front (length set)

pub grows : (r : Relation) (set done : List ℕ) (requests : List (List ℕ)) (n m : ℕ) → n ≤ m
    → length (with_groups r set done (take n requests))
    ≤ length (with_groups r set done (take m requests))
grows r set done [] n m l =
    omega (
      arith,
      ap (λ rs. length (with_groups r set done rs)) (none n),
      ap (λ rs. length (with_groups r set done rs)) (none m),
    )
  where
    none : (n : ℕ) → ◌≡◌ {A = List (List ℕ)} (take n []) []
    none zero = refl
    none (suc n) = refl
grows r set done (q ∷ requests) zero m l =
    let w = groups-more r set done (take m (q ∷ requests)) in
    omega (arith, ap length w.1, length-append done w.0)
grows r set done (q ∷ requests) (suc n) zero l = absurd (omega arith)
grows r set done (q ∷ requests) (suc n) (suc m) l =
    grows r set (with_group r set done q) requests n m (omega arith)

pub ends-rising : (r : Relation) (set : List ℕ) (post : ℕ → List ℕ) (requests : List (List ℕ))
    (ends order : List ℕ)
    → length ends ≡ length requests → order ≡ plan r set post requests
    → ((k : ℕ) → k < length requests
    → slice_index ends k ≡ length (with_groups r set [] (take (suc k) requests)))
    → RisingEnds ends (length order)
ends-rising r set post requests ends order long is at =
    record {
      rising = λ k l.
          let w = grows r set [] requests (suc k) (suc (k + 1)) (omega arith) in
          omega (arith, w, at k (omega (arith, long)), at (k + 1) (omega (arith, long)));
      within = λ k l.
          let w = grows r set [] requests (suc k) (suc k + length requests) (omega arith) in
          let all
          = ap (λ rs. length (with_groups r set [] rs))
          (take_all (suc k + length requests) requests (omega arith)) in
          let front = plan-front r set post requests in
          omega (
            arith,
            w,
            all,
            at k (omega (arith, long)),
            ap length (is ∙ front.1),
            length-append (with_groups r set [] requests) front.0,
          );
    }
