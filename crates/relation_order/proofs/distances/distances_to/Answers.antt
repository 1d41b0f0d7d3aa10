use Rattle.std.proofs.Common.{◌≡◌, ◌<◌, ◌++◌, ℕ, [], ◌∷◌, length, arith, refl, sym, ap, ◌∙◌, subst}
use Rattle.std.specs.Prelude.{◌&&◌}
use Rattle.std.specs.List.{list_any}
use Rattle.std.proofs.lemmas.Bool.{and_parts}
use Rattle.std.proofs.lemmas.List.{length-set, length-replicate}
use Rattle.relation_order.specs.Sets.{has, goes, marked}
use Rattle.relation_order.specs.Rounds.{Finds}
use Rattle.relation_order.proofs.Nearness.{Table, Layer, table-first, layer-first, table-round}
use Rattle.relation_order.proofs.Nearness.{layer-round, table-distance}
use Rattle.relation_order.proofs.PlaceSteps.{all-within, member-inside}
use Rattle.relation_order.proofs.DistanceSteps.{filled-far, some-member, inside-from_goes}
use Rattle.relation_order.proofs.distances.distances_to.Goals as goal

pub reversed-requires : goal.reversed-requires
reversed-requires c =
    record {
      items
          = all-within (length c.args.graph.now.lists.now) c.deref.result.now
          (λ y h. let l
          = member-inside c.args.graph.now.members.now y
          (ap (λ xs. has xs y) (sym (c.deref.ensures.value ∙ c.in_ok-all.ensures)) ∙ h) in
          omega (arith, c.args.graph.now.long));
    }

pub index_mut-requires : goal.index_mut-requires
index_mut-requires c =
    let l = member-inside c.args.graph.now.members.now c.args.goal c.requires.goal in
    omega (
      arith,
      ap length c.in_ok-far.ensures,
      length-replicate (length c.args.graph.now.members.now) c.len.result,
      c.in_ok-far.far.ok.0,
    )

pub loop-round-init : goal.loop-round-init
loop-round-init c =
    let l = member-inside c.args.graph.now.members.now c.args.goal c.requires.goal in
    let long : length c.in_ok-far.far.items ≡ length c.args.graph.now.members.now
    = ap length c.in_ok-far.ensures ∙ length-replicate _ _ in
    let some = some-member (marked c.args.graph.now.members.now) c.args.goal c.requires.goal in
    let none
    = filled-far (length c.args.graph.now.members.now) c.len.result c.args.graph.now.members.now
    c.in_ok-far.far.items c.in_ok-far.ensures refl
    (omega (arith, c.len.ensures, c.in_ok-all.all.ok.0, ap length c.in_ok-all.ensures)) in
    record {
      long = length-set c.in_ok-far.far.items c.args.goal 0 ∙ long;
      table
          = table-first (goes c.args.graph.now.lists.now) (marked c.args.graph.now.members.now)
          c.args.goal c.in_ok-far.far.items (omega arith) some none;
      layer
          = subst (Layer (marked c.args.graph.now.members.now) 1 _)
          (sym (c.in_ok-push.ensures.items
          ∙ ap (λ xs. xs ++ c.args.goal ∷ []) c.new-last.ensures.items))
          (layer-first (marked c.args.graph.now.members.now) c.args.goal
          (length (marked c.args.graph.now.members.now)) c.in_ok-far.far.items (omega arith)
          c.requires.goal some none);
    }

pub find_round-requires-clause-inside : goal.find_round-requires-clause-inside
find_round-requires-clause-inside c =
    inside-from_goes c.deref-in-loop-round.result.now (length c.deref-in-loop-round.result.now) (λ y
    x h.
    let e
    = and_parts _ _
    (sym (c.in_ok-sources.ensures.goes y x)
    ∙ ap (λ v. goes v y x) (sym c.deref-in-loop-round.ensures.value) ∙ h) in
    let l
    = member-inside c.args.graph.now.members.now x
    (ap (λ xs. has xs x) (sym (c.deref.ensures.value ∙ c.in_ok-all.ensures)) ∙ e.0) in
    omega (
      arith,
      c.args.graph.now.long,
      c.in_ok-sources.ensures.long,
      ap length c.deref-in-loop-round.ensures.value,
    ))

pub find_round-requires-clause-last : goal.find_round-requires-clause-last
find_round-requires-clause-last c =
    all-within (length c.deref-in-loop-round.result.now) c.deref-in-loop-round-2.result.now (λ y h.
    let l
    = member-inside c.args.graph.now.members.now y
    (c.loop-round.invariant.layer.members y
    (ap (λ xs. has xs y) (sym c.deref-in-loop-round-2.ensures.value) ∙ h)) in
    omega (
      arith,
      c.args.graph.now.long,
      c.in_ok-sources.ensures.long,
      ap length c.deref-in-loop-round.ensures.value,
    ))

pub loop-round-preserved : goal.loop-round-preserved
loop-round-preserved c =
    let l = c.loop-round in
    let count : c.len-in-loop-round.result ≡ length (marked c.args.graph.now.members.now)
    = omega (
      arith,
      c.len-in-loop-round.ensures,
      c.in_ok-all.all.ok.0,
      ap length c.in_ok-all.ensures,
    ) in
    let few : l.round < length (marked c.args.graph.now.members.now)
    = omega
    (arith, c.len-round-end.ensures, c.in_ok-all.all.ok.0, ap length c.in_ok-all.ensures) in
    let layer
    = subst (Layer (marked c.args.graph.now.members.now) l.round l.far.items)
    (sym c.deref-in-loop-round-2.ensures.value) l.invariant.layer in
    let sources-are : (y x : ℕ)
    → goes c.deref-in-loop-round.result.now y x
    ≡ (has (marked c.args.graph.now.members.now) x
    && goes c.args.graph.now.lists.now x y)
    = λ y x. ap (λ v. goes v y x) c.deref-in-loop-round.ensures.value
    ∙ c.in_ok-sources.ensures.goes y x
    ∙ ap (λ xs. has xs x && goes c.args.graph.now.lists.now x y)
    (c.deref.ensures.value ∙ c.in_ok-all.ensures) in
    let finds
    = subst (λ n. Finds
    (λ x. list_any (λ y. goes c.deref-in-loop-round.result.now y x)
    c.deref-in-loop-round-2.result.now) l.round n l.far.items c.find_round.new.far.items
    [] c.in_ok-last.last.items) count c.in_ok-last.ensures.finds in
    record {
      long = c.in_ok-last.ensures.long ∙ l.invariant.long;
      table
          = table-round (goes c.args.graph.now.lists.now) (marked c.args.graph.now.members.now)
          c.args.goal l.round l.far.items c.find_round.new.far.items
          c.deref-in-loop-round-2.result.now c.in_ok-last.last.items
          (goes c.deref-in-loop-round.result.now) l.invariant.table layer c.requires.goal
          (omega arith) few sources-are finds;
      layer
          = layer-round (goes c.args.graph.now.lists.now) (marked c.args.graph.now.members.now)
          c.args.goal l.round l.far.items c.find_round.new.far.items
          c.deref-in-loop-round-2.result.now c.in_ok-last.last.items
          (goes c.deref-in-loop-round.result.now) l.invariant.table layer c.requires.goal
          (omega arith) few sources-are finds;
    }

pub returns-clause-far : goal.returns-clause-far
returns-clause-far c =
    let l = c.loop-round in
    let some = some-member (marked c.args.graph.now.members.now) c.args.goal c.requires.goal in
    let last : l.round ≡ length (marked c.args.graph.now.members.now)
    = omega
    (arith, c.len-round-end.ensures, c.in_ok-all.all.ok.0, ap length c.in_ok-all.ensures) in
    table-distance (goes c.args.graph.now.lists.now) (marked c.args.graph.now.members.now)
    c.args.goal l.far.items
    (subst (λ n. Table (goes c.args.graph.now.lists.now) (marked c.args.graph.now.members.now)
    c.args.goal n l.far.items) last l.invariant.table)
