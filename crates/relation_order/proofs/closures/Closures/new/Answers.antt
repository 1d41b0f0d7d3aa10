use Rattle.std.proofs.Common.{◌≡◌, ◌≤◌, ◌<◌, ℕ, true, length, map, get_or, sym, ap, ◌∙◌, subst}
use Rattle.std.proofs.Common.{arith}
use Rattle.std.specs.Prelude.{◌≢◌, All}
use Rattle.std.specs.Int.{div_ceil}
use Rattle.std.specs.List.{AllPairs}
use Rattle.std.specs.Global.{Vec}
use Rattle.std.proofs.lemmas.List.{length-set, get_or_default}
use Rattle.std.proofs.lemmas.Bool.{true≢false}
use Rattle.std.proofs.lemmas.Bool.Decides.{Decides-eqb}
use Rattle.std.proofs.lemmas.List.Elements.{All-set}
use Rattle.std.proofs.lemmas.Map.Made.{AllPairs-from_IsDistinct}
use Rattle.relation_order.specs.Sets.{goes, has, below}
use Rattle.relation_order.specs.Least.{least_order}
use Rattle.relation_order.specs.Rows.{has_mark, row_at, marked_in, Fitting}
use Rattle.relation_order.proofs.LeastLaws.{least-distinct}
use Rattle.relation_order.proofs.MarkSteps.{unmarked}
use Rattle.relation_order.proofs.ClosureSteps.{all-taken, known-more, direct-before, order-inside}
use Rattle.relation_order.proofs.ClosureSteps.{order-short, rows-closures, all-in, marks-inside}
use Rattle.relation_order.proofs.closures.Closures.new.Goals as goal

pub row_of-requires-clause-place : goal.row_of-requires-clause-place
row_of-requires-clause-place c =
    rw c.index-x.ensures
    (order-inside (goes c.args.lists.now) (length c.args.lists.now) c.args.order.items
    c.requires.order c.loop-i.i c.index-x.result.now (omega arith))

pub row_of-requires-clause-known : goal.row_of-requires-clause-known
row_of-requires-clause-known c = λ y g.
    let order = c.args.order.items in
    let here : c.index-x.result.now ≡ get_or order c.loop-i.i 0
    = c.index-x.ensures
    ∙ get_or_default order c.loop-i.i c.index-x.result.now 0 (omega arith) in
    let inside : c.index-x.result.now < length c.args.lists.now
    = rw c.index-x.ensures
    (order-inside (goes c.args.lists.now) (length c.args.lists.now) order c.requires.order
    c.loop-i.i c.index-x.result.now (omega arith)) in
    λ z.
    ap (λ rows. has_mark (row_at rows y) z) c.deref.ensures.value
    ∙ c.loop-i.invariant.known y
    (direct-before c.args.lists.now order c.loop-i.i c.index-x.result.now c.requires.inside
    c.requires.order (omega arith) here inside y g) z

pub index_mut-requires : goal.index_mut-requires
index_mut-requires c =
    let inside : c.index-x.result.now < length c.args.lists.now
    = rw c.index-x.ensures
    (order-inside (goes c.args.lists.now) (length c.args.lists.now) c.args.order.items
    c.requires.order c.loop-i.i c.index-x.result.now (omega arith)) in
    omega (arith, c.loop-i.invariant.long, c.loop-i.rows.ok.0)

pub loop-i-preserved : goal.loop-i-preserved
loop-i-preserved c =
    let order = c.args.order.items in
    let rows = c.loop-i.rows.items in
    let x = c.index-x.result.now in
    let row = c.in_ok-rows-2.field-0 in
    let count = length c.args.lists.now in
    let inside : x < count
    = rw c.index-x.ensures
    (order-inside (goes c.args.lists.now) count order c.requires.order c.loop-i.i x
    (omega arith)) in
    let here : x ≡ get_or order c.loop-i.i 0
    = c.index-x.ensures ∙ get_or_default order c.loop-i.i x 0 (omega arith) in
    record {
      long = length-set rows x row ∙ c.loop-i.invariant.long;
      rows_long
          = All-set (λ row. length row.items ≤ div_ceil count 64) rows x row
          c.in_ok-rows-2.ensures.long c.loop-i.invariant.rows_long;
      in_order
          = All-set (λ row. (y : ℕ) → has_mark row.items y ≡ true → has order y ≡ true) rows x row
          (marks-inside (goes c.args.lists.now) count order c.requires.order c.requires.acyclic
          row.items x c.in_ok-rows-2.ensures.reached) c.loop-i.invariant.in_order;
      known
          = known-more (goes c.args.lists.now) count order rows c.loop-i.i x row (omega arith) here
          (omega (arith, c.loop-i.invariant.long)) c.in_ok-rows-2.ensures.reached
          c.loop-i.invariant.known;
    }

pub loop-i-init : goal.loop-i-init
loop-i-init c =
    record {
      long = c.in_ok-rows.ensures.long;
      rows_long = λ k d l. let e = ap length (c.in_ok-rows.ensures.empty k d l) in omega (arith, e);
      in_order
          = λ k d l y h. absurd
          (true≢false (sym h ∙ ap (λ ws. has_mark ws y) (c.in_ok-rows.ensures.empty k d l)
          ∙ unmarked 0 y));
      known = λ y h. absurd (true≢false (sym h));
    }

pub marked_anywhere-requires : goal.marked_anywhere-requires
marked_anywhere-requires c =
    subst (λ rows. All (λ (row : Vec ℕ). length row.items ≤ div_ceil (length rows) 64) rows)
    (sym c.deref-2.ensures.value)
    (λ k d l. subst (λ n. length (get_or c.loop-i.rows.items k d).items ≤ div_ceil n 64)
    (sym c.loop-i.invariant.long) (c.loop-i.invariant.rows_long k d l))

pub invariant_of-result : goal.invariant_of-result
invariant_of-result c =
    let rows = c.loop-i.rows.items in
    let order = c.args.order.items in
    let fitting : Fitting c.loop-i.rows.items c.args.order.items =
    record {
      order_long
          = omega (
            arith,
            c.loop-i.invariant.long,
            order-short (goes c.args.lists.now) (length c.args.lists.now) order c.requires.order,
          );
      order_once
          = subst (λ xs. AllPairs (λ x y. x ≢ y) xs) (sym c.requires.order)
          (AllPairs-from_IsDistinct Decides-eqb
          (least_order (goes c.args.lists.now) (below (length c.args.lists.now)))
          (least-distinct (goes c.args.lists.now) (below (length c.args.lists.now))));
      rows_long
          = λ k d l. subst (λ n. length (get_or rows k d).items ≤ div_ceil n 64)
          (sym c.loop-i.invariant.long) (c.loop-i.invariant.rows_long k d l);
      in_order = c.loop-i.invariant.in_order;
    } in
    subst (λ rows. Fitting rows c.in_ok-order.order.items) c.deref-2.ensures.value
    (c.in_ok-order.ensures.fitting
    (subst (Fitting c.deref-2.result.now) (sym c.deref-3.ensures.value)
    (subst (λ rows. Fitting rows c.args.order.items) (sym c.deref-2.ensures.value) fitting)))

pub returns : goal.returns
returns c =
    let order = c.args.order.items in
    ap (map (marked_in c.in_ok-order.order.items)) (sym c.deref-2.ensures.value)
    ∙ c.in_ok-order.ensures.same
    ∙ ap (λ o. map (marked_in o) c.deref-2.result.now) c.deref-3.ensures.value
    ∙ ap (map (marked_in order)) c.deref-2.ensures.value
    ∙ rows-closures (goes c.args.lists.now) (length c.args.lists.now) order c.loop-i.rows.items
    c.requires.order c.loop-i.invariant.long
    (λ y l. c.loop-i.invariant.known y
    (all-taken order c.loop-i.i y (omega arith)
    (all-in (goes c.args.lists.now) (length c.args.lists.now) order c.requires.order
    c.requires.acyclic y l)))
