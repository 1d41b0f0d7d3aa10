use Rattle.std.proofs.Common.{◌≡◌, ap, sym, ◌∙◌, not, eqb, true, false}
use Rattle.std.specs.Prelude.{◌&&◌, ◌||◌}
use Rattle.name_table.specs.FirstSeen.{first_seen, is_among}
use Rattle.name_lookup.specs.Found.{is_blacklisted, is_dropped}
use Rattle.name_lookup.proofs.FoundSteps.{filter-same}
use Rattle.name_lookup.proofs.lookup.Lookup.kept.Goals as goal
use Rattle.name_lookup.proofs.lookup.Lookup.kept.Goals.{then-use_blacklist, else-use_blacklist}

pub returns : goal.returns
returns c =
    let rules = c.args.self.now.rules in
    let listed = c.self.inside.blacklisted in
    let drops : c.if-use_blacklist.drops ≡ (c.args.use_blacklist || eqb c.args.first.list 5) =
    elim c.if-use_blacklist.branch [
      | then-use_blacklist w ↦ w.drops-is ∙ w.if-use_blacklist.true
          ∙ ap (λ b. b || eqb c.args.first.list 5) (sym w.if-use_blacklist.true)
      | else-use_blacklist w ↦ w.drops-is
          ∙ ap (λ b. b || eqb c.args.first.list 5) (sym w.if-use_blacklist.false)
    ] in
    let same
    = filter-same (λ name. not (c.if-use_blacklist.drops && is_among listed name))
    (λ name. not (is_dropped rules c.args.use_blacklist c.args.first.list name))
    (λ name i. not (drops i
    && (c.self.invariant.are_blacklisted name
    ∙ ap (λ v. is_blacklisted v.rules name) c.self.view_is) i)) in
    ap (λ names. record { list = c.args.first.list; names = names })
    (c.in_ok-names_left.ensures ∙ same (first_seen c.args.first.names))
