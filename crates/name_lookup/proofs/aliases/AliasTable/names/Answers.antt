use Rattle.std.proofs.Common.{◌≡◌, ◌≤◌, ◌<◌, ◌+◌, ◌-◌, ◌++◌, ℕ, List, map, take, drop, length}
use Rattle.std.proofs.Common.{get_or, sym, ap, subst, ◌∙◌, arith}
use Rattle.std.proofs.lemmas.List.{length-drop, take_all}
use Rattle.name_lookup.specs.Groups.{group_of}
use Rattle.name_lookup.specs.Aliases.{Plain, count_before, names_before, shown_plain, shown_wild}
use Rattle.name_lookup.specs.declared.aliases.PlainAlias.{PlainAlias}
use Rattle.name_lookup.proofs.AliasLaws.{AreNames, names-taken, names-left, names-all, merged}
use Rattle.name_lookup.proofs.AliasLaws.{merged-is}
use Rattle.name_lookup.proofs.aliases.AliasTable.names.Goals as goal
use Rattle.name_lookup.proofs.aliases.AliasTable.names.Goals.{then-matches+in_ok-done+in_ok-push_name}
use Rattle.name_lookup.proofs.aliases.AliasTable.names.Goals.{else-matches}

-- what is left of a slice from a place on
rest : (xs : List PlainAlias) (n : ℕ) → take (length xs - n) (drop n xs) ≡ drop n xs
rest xs n = take_all (length xs - n) (drop n xs) (omega (arith, length-drop n xs))

pub loop-wild-preserved : goal.loop-wild-preserved
loop-wild-preserved c =
    let x = c.args.name.now in
    let plain = c.of-plain.result.now in
    let wild = c.args.self.now.wild.items in
    let done = c.loop-wild.done in
    let i = c.loop-wild.wild-index in
    let alias = c.wild-item.result in
    let whole = c.deref-wild-items.ensures.value in
    let low : c.loop-wild.wild-index < length c.args.self.now.wild.items
    = omega (arith, c.loop-wild-test.true, ap length whole) in
    let here : c.wild-item.result
    ≡ get_or c.args.self.now.wild.items c.loop-wild.wild-index c.wild-item.result
    = c.wild-item.is ∙ ap (λ ws. get_or ws i alias) whole in
    elim c.if-matches.branch [
      | then-matches+in_ok-done+in_ok-push_name w ↦
          let front = rest plain done in
          let count
          = w.in_ok-done.ensures.count
          ∙ ap (λ ps. count_before alias.place (map shown_plain ps)) front in
          let so_far
          = w.in_ok-done.ensures.names
          ∙ ap (λ ps. c.loop-wild.names ++ names_before alias.place (map shown_plain ps))
          front in
          record {
            within
                = omega (
                  arith,
                  w.done-is,
                  w.in_ok-done.ensures.within,
                  ap length front,
                  length-drop done plain,
                  c.loop-wild.invariant.within,
                );
            names =
                subst (λ n. AreNames c.args.name.now c.of-plain.result.now
                c.args.self.now.wild.items n (c.loop-wild.wild-index + 1) c.if-matches.names)
                (sym w.done-is)
                (names-taken x plain wild done i w.in_ok-done.field-0 alias c.loop-wild.names
                w.push_before.new.names c.if-matches.names c.loop-wild.invariant.names low
                here (sym c.matches.ensures ∙ w.if-matches.true) count so_far
                (w.names-is ∙ w.in_ok-push_name.ensures));
          }
      | else-matches w ↦
          record {
            within = omega (arith, w.done-is, c.loop-wild.invariant.within);
            names =
                subst (λ n. AreNames c.args.name.now c.of-plain.result.now
                c.args.self.now.wild.items n (c.loop-wild.wild-index + 1) c.if-matches.names)
                (sym w.done-is)
                (subst (λ ns. AreNames c.args.name.now c.of-plain.result.now
                c.args.self.now.wild.items c.loop-wild.done (c.loop-wild.wild-index + 1) ns)
                (sym w.names-is)
                (names-left x plain wild done i alias c.loop-wild.names c.loop-wild.invariant.names
                low here (sym c.matches.ensures ∙ w.if-matches.false)));
          }
    ]

pub returns : goal.returns
returns c = λ rules is.
    let x = c.args.name.now in
    let plain = c.of-plain.result.now in
    let wild = c.args.self.now.wild.items in
    let high : length c.args.self.now.wild.items ≤ c.loop-wild.wild-index
    = omega (arith, c.loop-wild-test.false, ap length c.deref-wild-items.ensures.value) in
    names-all x plain wild c.loop-wild.done c.loop-wild.wild-index c.loop-wild.names
    c.push_all.new.names c.loop-wild.invariant.names high
    (c.in_ok-push_all.ensures
    ∙ ap (λ ps. c.loop-wild.names ++ map (λ (p : Plain). p.1) (map shown_plain ps))
    (rest plain c.loop-wild.done))
    ∙ (λ j. merged x ((ap (map shown_plain) c.of-plain.ensures ∙ is.plain x) j) (is.wild j))
    ∙ merged-is x 0 rules
