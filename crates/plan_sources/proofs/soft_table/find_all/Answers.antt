use Rattle.std.proofs.Common.{◌≡◌, ◌+◌, ◌++◌, ◌∷◌, [], ℕ, Bool, Bor, List, true, take, filter, sym}
use Rattle.std.proofs.Common.{ap, subst, ◌∙◌, inl, inr, arith}
use Rattle.std.specs.Prelude.{◌||◌, ◌⊎◌, ◌==◌, not, IfOk}
use Rattle.std.specs.Option.{unwrap_or}
use Rattle.std.specs.Str.{bytes_eq}
use Rattle.std.proofs.lemmas.Bool.{or_cases, or_left, or_right}
use Rattle.std.proofs.lemmas.List.{map-append, take_all, take_more}
use Rattle.name_table.specs.FirstSeen.{is_among}
use Rattle.relation_order.specs.Search.{with_items}
use Rattle.plan_sources.specs.Kept.{texts}
use Rattle.plan_sources.specs.Softdeps.{kept_places}
use Rattle.plan_sources.proofs.SoftSteps.{found_for, found-more, found-again, among-still}
use Rattle.plan_sources.proofs.SoftSteps.{among-last}
use Rattle.plan_sources.proofs.soft_table.find_all.Goals as goal
use Rattle.plan_sources.proofs.soft_table.find_all.Goals.{then-places-lt2+in_ok-find_others}
use Rattle.plan_sources.proofs.soft_table.find_all.Goals.{else-places-lt2+then-not-contains+in_ok-insert+in_ok-find_others-2}
use Rattle.plan_sources.proofs.soft_table.find_all.Goals.{else-places-lt2+else-not-contains}

pub loop-name-preserved : goal.loop-name-preserved
loop-name-preserved c =
    let f = λ (y : ℕ). not (y == c.args.place) in
    let g = λ (name : List ℕ). unwrap_or (kept_places c.args.lists.now.entries name) [] in
    let items = c.args.names.now in
    let i = c.loop-name.name-index in
    let name = c.name-item.result.now in
    let bytes = c.as_bytes-name.ensures in
    let under = c.places_under-after.ensures in
    let more : texts (take (i + 1) c.args.names.now)
    ≡ texts (take i c.args.names.now) ++ c.name-item.result.now ∷ []
    =
    ap texts (take_more items i c.name-item.result c.loop-name-test.true
    ∙ ap (λ n. take i items ++ n ∷ []) (sym c.name-item.is))
    ∙ map-append (λ (n : Bor (List ℕ)). n.now) (take i items) (c.name-item.result ∷ []) in
    elim c.if-places-lt2.branch [
      | then-places-lt2+in_ok-find_others w ↦ record {
        looked_up = λ other h.
            ap (λ names. is_among names other) more
            ∙ among-still f g (texts (take i items)) name other
            (c.loop-name.invariant.looked_up other
            (sym (ap (λ names. is_among names other) w.looked_up-is) ∙ h));
        found =
            ap (λ s. s.keys) w.found-is
            ∙ w.in_ok-find_others.ensures
            ∙ (λ j. with_items (c.loop-name.invariant.found j) (filter f ((under ∙ ap g bytes) j)))
            ∙ sym (found-more f g (texts (take i items)) name)
            ∙ ap (found_for f g) (sym more);
      }
      | else-places-lt2+then-not-contains+in_ok-insert+in_ok-find_others-2 w ↦ record {
        looked_up = λ other h.
            ap (λ names. is_among names other) more
            ∙ among-last f g (texts (take i items)) name other
            (either (is_among (texts (take i items)) other) (bytes_eq other name)
            (or_cases (is_among c.loop-name.looked_up other)
            (bytes_eq other c.as_bytes-name.result.now)
            (sym (w.in_ok-insert.ensures.among other)
            ∙ sym (ap (λ names. is_among names other) w.looked_up-is) ∙ h))
            (c.loop-name.invariant.looked_up other)
            (λ e. ap (bytes_eq other) (sym bytes) ∙ e));
        found =
            ap (λ s. s.keys) w.found-is
            ∙ w.in_ok-find_others-2.ensures
            ∙ (λ j. with_items (c.loop-name.invariant.found j) (filter f ((under ∙ ap g bytes) j)))
            ∙ sym (found-more f g (texts (take i items)) name)
            ∙ ap (found_for f g) (sym more);
      }
      | else-places-lt2+else-not-contains w ↦
          let again : is_among (texts (take i c.args.names.now)) c.name-item.result.now ≡ true =
          ap (is_among (texts (take i items))) (sym bytes)
          ∙ c.loop-name.invariant.looked_up c.as_bytes-name.result.now
          (sym w.contains.ensures ∙ w.if-not-contains.false) in
          record {
            looked_up = λ other h.
                ap (λ names. is_among names other) more
                ∙ among-still f g (texts (take i items)) name other
                (c.loop-name.invariant.looked_up other
                (sym (ap (λ names. is_among names other) w.looked_up-is) ∙ h));
            found =
                ap (λ s. s.keys) w.found-is
                ∙ c.loop-name.invariant.found
                ∙ sym (found-again f g (texts (take i items)) name again)
                ∙ ap (found_for f g) (sym more);
          }
    ]
  where
    either : (a b : Bool) {l r : Type 0} → l ⊎ r → (l → a ≡ true) → (r → b ≡ true) → (a || b) ≡ true
    either a b (inl x) left right = or_left a b (left x)
    either a b (inr y) left right = or_right a b (right y)

pub returns : goal.returns
returns c =
    let f = λ (y : ℕ). not (y == c.args.place) in
    let g = λ (name : List ℕ). unwrap_or (kept_places c.args.lists.now.entries name) [] in
    let all : c.loop-name.found.keys ≡ found_for f g (texts c.args.names.now) =
    c.loop-name.invariant.found
    ∙ ap (λ names. found_for f g (texts names))
    (take_all c.loop-name.name-index c.args.names.now (omega (arith, c.loop-name-test.false)))
    in
    subst (λ places. IfOk c.from_slice.result (λ v. v.items ≡ places))
    (c.as_slice.ensures.keys ∙ all) c.from_slice.ensures.items
