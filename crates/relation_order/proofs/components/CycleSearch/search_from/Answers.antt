use Rattle.std.proofs.Common.{length, ◌<◌, arith, sym, ap, ◌∙◌, subst}
use Rattle.std.proofs.lemmas.List.{get_or_read}
use Rattle.relation_order.specs.Components.{SearchOf, KeepsMet, state_of, is_new}
use Rattle.relation_order.specs.declared.components.State.TheVariants.{New}
use Rattle.relation_order.specs.declared.components.CycleSearch.{CycleSearch}
use Rattle.relation_order.proofs.PlaceSteps.{member-inside}
use Rattle.relation_order.proofs.ComponentSearch.{entered-first, entered-met, entered-keeps}
use Rattle.relation_order.proofs.ComponentSearch.{not-new}
use Rattle.relation_order.proofs.components.CycleSearch.search_from.Goals as goal
use Rattle.relation_order.proofs.components.CycleSearch.search_from.Goals.{in-New+in_ok-enter}
use Rattle.relation_order.proofs.components.CycleSearch.search_from.Goals.{in_default}

pub index-requires : goal.index-requires
index-requires c =
    let l
    = member-inside c.args.graph.now.members.now c.args.start c.requires.member in omega (
      arith,
      c.requires.search.states_long,
      c.args.graph.now.long,
      c.args.self.now.states.ok.0,
    )

pub enter-requires : goal.enter-requires
enter-requires c =
    let l
    = member-inside c.args.graph.now.members.now c.args.start c.requires.member in omega
    (arith, c.requires.search.states_long, c.args.graph.now.long)

pub loop-at-init : goal.loop-at-init
loop-at-init c =
    let l = member-inside c.args.graph.now.members.now c.args.start c.requires.member in
    let inside : c.args.start < length c.args.self.now.states.items
    = omega (arith, c.requires.search.states_long, c.args.graph.now.long) in
    let is
    = get_or_read c.args.self.now.states.items c.args.start c.index.result.now inside
    c.index.ensures New in
    elim c.match-index.branch [
      | in-New+in_ok-enter w ↦ record {
        search
            = subst (λ (v : CycleSearch). SearchOf c.args.graph.now.lists.now
            c.args.graph.now.members.now v v.path.items) (sym w.self-is)
            (entered-first c.args.graph.now.lists.now c.args.graph.now.members.now
            c.args.self.now w.enter.new.self c.args.start c.requires.member inside
            (sym is ∙ w.in-New.is) w.in_ok-enter.ensures c.requires.path c.requires.search);
        met
            = ap (λ (v : CycleSearch). is_new (state_of v.states.items c.args.start)) w.self-is
            ∙ entered-met c.args.self.now w.enter.new.self c.args.start inside
            w.in_ok-enter.ensures;
        kept
            = subst (λ (v : CycleSearch). KeepsMet c.args.self.now.states.items v.states.items)
            (sym w.self-is)
            (entered-keeps c.args.self.now w.enter.new.self c.args.start inside
            w.in_ok-enter.ensures);
      }
      | in_default w ↦ record {
        search
            = subst (λ (v : CycleSearch). SearchOf c.args.graph.now.lists.now
            c.args.graph.now.members.now v v.path.items) (sym w.self-is)
            (subst (SearchOf c.args.graph.now.lists.now c.args.graph.now.members.now
            c.args.self.now) (sym c.requires.path) c.requires.search);
        met
            = ap (λ (v : CycleSearch). is_new (state_of v.states.items c.args.start)) w.self-is
            ∙ not-new _ (λ e. w.in_default.not-New (is ∙ e));
        kept
            = subst (λ (v : CycleSearch). KeepsMet c.args.self.now.states.items v.states.items)
            (sym w.self-is) (λ x m. m);
      }
    ]
