use Rattle.std.proofs.Common.{◌≡◌, ◌-◌, ◌<◌, ℕ, true, length, get_or, refl, sym, ap, ◌∙◌, inl, inr}
use Rattle.std.proofs.Common.{arith}
use Rattle.std.proofs.lemmas.Bool.{true≢false, cases_eq, eqb-true}
use Rattle.std.specs.Prelude.{All}
use Rattle.std.specs.Int.{div_ceil}
use Rattle.std.specs.Global.{Vec}
use Rattle.std.proofs.lemmas.List.{get_or_default, length-replicate}
use Rattle.relation_order.specs.Sets.{goes, has}
use Rattle.relation_order.specs.Rows.{has_mark, AreReached}
use Rattle.relation_order.proofs.Lists.{goes-at, has-range, has-at}
use Rattle.relation_order.proofs.Finding.{listed-inside}
use Rattle.relation_order.proofs.MarkSteps.{unmarked, low-word}
use Rattle.relation_order.proofs.ClosureSteps.{none-reached, row-grown, row-item, row-sound}
use Rattle.relation_order.proofs.ClosureSteps.{row-closed, row-complete, row_at-at}
use Rattle.relation_order.proofs.closures.row_of.Goals as goal

pub loop-at-preserved-then-not-is_marked : goal.loop-at-preserved-then-not-is_marked
loop-at-preserved-then-not-is_marked c =
    let lists = c.args.lists.now in
    let items = c.as_slice-items.result.now in
    let at = c.loop-at.at - 1 in
    let y = get_or items at 0 in
    let low : All (λ y. y < length lists) items
    = rw c.as_slice-items.ensures.value
    (listed-inside lists c.args.x (length lists) c.index-lists-x.result c.requires.inside
    c.requires.place c.index-lists-x.is refl) in
    let inside : y < length lists = low at 0 (omega arith) in
    let direct : goes lists c.args.x y ≡ true
    = goes-at lists c.args.x y c.index-lists-x.result c.requires.place c.index-lists-x.is
    ∙ ap (λ ys. has ys y) (sym c.as_slice-items.ensures.value)
    ∙ has-at items at y (omega arith) (get_or_default items at 0 y (omega arith)) in
    let known : AreReached (goes lists) (length lists) c.deref-then-not-is_marked.result.now y
    = λ z. ap (λ ws. has_mark ws z)
    (c.deref-then-not-is_marked.ensures.value
    ∙ sym (row_at-at c.args.rows.now y c.index-rows-y.result
    (omega (arith, c.requires.rows, inside)) c.index-rows-y.is))
    ∙ c.requires.known y direct z in
    let member = has-range 0 (length lists) y (omega arith) (omega arith) in
    let old = c.loop-at.row.items in
    let new = c.add_row.new.row.items in
    let other = c.deref-then-not-is_marked.result.now in
    record {
      within = omega arith;
      long = c.add_row.ensures.long ∙ c.loop-at.invariant.long;
      sound
          = row-sound (goes lists) (length lists) c.args.x y old other new c.add_row.ensures.marks
          known direct member c.loop-at.invariant.sound;
      direct = λ p l h.
          elim (cases_eq p at) [
            | inl same ↦ rw same
                (row-item (goes lists) (length lists) c.args.x y old other new
                c.add_row.ensures.marks known direct member)
            | inr ne ↦ row-grown (goes lists) (length lists) c.args.x y old other new
                c.add_row.ensures.marks known direct member (get_or items p 0)
                (c.loop-at.invariant.direct p (omega arith) h)
          ];
      closed
          = row-closed (goes lists) (length lists) c.args.x y old other new c.add_row.ensures.marks
          known direct member c.loop-at.invariant.closed;
    }

pub loop-at-preserved : goal.loop-at-preserved
loop-at-preserved c =
    let items = c.as_slice-items.result.now in
    let at = c.loop-at.at - 1 in
    let y = get_or items at 0 in
    let here : has_mark c.loop-at.row.items
    (get_or c.as_slice-items.result.now (c.loop-at.at - 1) 0)
    ≡ true
    = ap (λ ws. has_mark ws y) (sym c.deref.ensures.value) ∙ sym c.is_marked.ensures
    ∙ c.if-not-is_marked.false in
    record {
      within = omega arith;
      long = c.loop-at.invariant.long;
      sound = c.loop-at.invariant.sound;
      direct = λ p l h.
          elim (cases_eq p at) [
            | inl same ↦ rw same here
            | inr ne ↦ c.loop-at.invariant.direct p (omega arith) h
          ];
      closed = c.loop-at.invariant.closed;
    }

pub returns-clause-reached : goal.returns-clause-reached
returns-clause-reached c =
    let lists = c.args.lists.now in
    row-complete (goes lists) (length lists) c.args.x c.as_slice-items.result.now
    c.loop-at.row.items c.loop-at.invariant.sound
    (λ p l g. c.loop-at.invariant.direct p (omega arith) l)
    c.loop-at.invariant.closed
    (λ y g. ap (λ ys. has ys y) c.as_slice-items.ensures.value
    ∙ sym (goes-at lists c.args.x y c.index-lists-x.result c.requires.place
    c.index-lists-x.is)
    ∙ g)

pub returns-then-is_empty-clause-reached : goal.returns-then-is_empty-clause-reached
returns-then-is_empty-clause-reached c = λ y.
    ap (λ ws. has_mark ws y) c.new.ensures.items ∙ unmarked 0 y
    ∙ sym (none-reached c.args.lists.now c.args.x y c.index-lists-x.result c.requires.place
    c.index-lists-x.is
    (ap length (sym c.as_slice-items.ensures.value)
    ∙ eqb-true (length c.as_slice-items.result.now) 0 (sym c.if-is_empty.ensures)))

pub loop-at-init : goal.loop-at-init
loop-at-init c =
    let none
    = λ (y : ℕ) (h : has_mark c.in_ok-row.row.items y ≡ true). true≢false
    (sym h ∙ ap (λ ws. has_mark ws y) c.in_ok-row.ensures
    ∙ unmarked (div_ceil (length c.args.lists.now) 64) y) in
    record {
      within = omega arith;
      long
          = ap length c.in_ok-row.ensures
          ∙ length-replicate (div_ceil (length c.args.lists.now) 64) 0;
      sound = λ y h. absurd (none y h);
      direct = λ p l m. absurd (omega arith);
      closed = λ y z h m g. absurd (none y h);
    }

pub bounds-rows-y : goal.bounds-rows-y
bounds-rows-y c =
    let low : All (λ y. y < length c.args.lists.now) c.as_slice-items.result.now
    = rw c.as_slice-items.ensures.value
    (listed-inside c.args.lists.now c.args.x (length c.args.lists.now)
    c.index-lists-x.result c.requires.inside c.requires.place c.index-lists-x.is refl)
    in
    let inside = low (c.loop-at.at - 1) 0 (omega arith) in
    omega (arith, c.requires.rows, inside)

pub add_row-requires-clause-long : goal.add_row-requires-clause-long
add_row-requires-clause-long c =
    let low : All (λ y. y < length c.args.lists.now) c.as_slice-items.result.now
    = rw c.as_slice-items.ensures.value
    (listed-inside c.args.lists.now c.args.x (length c.args.lists.now)
    c.index-lists-x.result c.requires.inside c.requires.place c.index-lists-x.is refl)
    in
    let y = get_or c.as_slice-items.result.now (c.loop-at.at - 1) 0 in
    let inside = low (c.loop-at.at - 1) 0 (omega arith) in
    let other
    = c.requires.rows_long y c.index-rows-y.result (omega (arith, c.requires.rows, inside)) in
    omega (
      arith,
      ap length c.deref-then-not-is_marked.ensures.value,
      ap (λ (row : Vec ℕ). length row.items) c.index-rows-y.is,
      other,
      c.loop-at.invariant.long,
    )

pub add_row-requires-clause-item : goal.add_row-requires-clause-item
add_row-requires-clause-item c =
    let low : All (λ y. y < length c.args.lists.now) c.as_slice-items.result.now
    = rw c.as_slice-items.ensures.value
    (listed-inside c.args.lists.now c.args.x (length c.args.lists.now)
    c.index-lists-x.result c.requires.inside c.requires.place c.index-lists-x.is refl)
    in
    let inside = low (c.loop-at.at - 1) 0 (omega arith) in
    omega (
      arith,
      low-word (get_or c.as_slice-items.result.now (c.loop-at.at - 1) 0) (length c.args.lists.now)
          inside,
      c.loop-at.invariant.long,
    )

pub returns-clause-long : goal.returns-clause-long
returns-clause-long c = omega (arith, c.loop-at.invariant.long)
