use Rattle.std.proofs.Common.{◌≡◌, ◌∷◌, [], List, ℕ, sym, ap, ◌∙◌, arith}
use Rattle.std.specs.Borrow.{Bor}
use Rattle.std.specs.Prelude.{is_some, not}
use Rattle.std.specs.BTreeMap.{get}
use Rattle.std.specs.Ordering.{nat_cmp}
use Rattle.std.specs.Cmp.Lexicographic.{slice_cmp}
use Rattle.std.proofs.lemmas.List.{length-append}
use Rattle.mod_tree.specs.declared.places.Places.{Places}
use Rattle.mod_tree.proofs.PlaceSteps.{added, repeated, copied-none, copied-some}
use Rattle.mod_tree.proofs.places.Places.add.Goals as goal
use Rattle.mod_tree.proofs.places.Places.add.Goals.{then-is_none+in_ok-insert, else-is_none}

pub returns-clause-places : goal.returns-clause-places
returns-clause-places c = λ items was.
    let item = c.args.item in
    let more = length-append items (item.now ∷ []) in
    elim c.if-is_none.branch [
      | then-is_none+in_ok-insert w ↦ record {
        count_is
            = let e : c.if-is_none.self.count ≡ c.args.self.now.count
            = ap (λ (p : Places). p.count) w.self-is in omega (arith, e, was.count_is, more);
        at = λ q.
            ap (λ (p : Places). get (λ (x y : Bor (List ℕ)). slice_cmp nat_cmp x.now y.now) p.first
            q) w.self-is
            ∙ added items item.now q.now _ _ _ c.args.self.now.count was.count_is (was.at q)
            (was.at item)
            (sym c.get.ensures.value
            ∙ copied-none c.get.result (c.is_none.ensures ∙ ap not w.if-is_none.true))
            (w.in_ok-insert.ensures.updates.0 q);
      }
      | else-is_none w ↦ record {
        count_is
            = let e : c.if-is_none.self.count ≡ c.args.self.now.count
            = ap (λ (p : Places). p.count) w.self-is in omega (arith, e, was.count_is, more);
        at = λ q.
            ap (λ (p : Places). get (λ (x y : Bor (List ℕ)). slice_cmp nat_cmp x.now y.now) p.first
            q) w.self-is
            ∙ repeated items item.now q.now _ _ (was.at q) (was.at item)
            (ap is_some (sym c.get.ensures.value)
            ∙ copied-some c.get.result (c.is_none.ensures ∙ ap not w.if-is_none.false));
      }
    ]
