use Rattle.std.proofs.Common.{◌≡◌, ◌-◌, ◌++◌, ◌∷◌, [], length, get_or, drop, reverse, flat_map, sym}
use Rattle.std.proofs.Common.{ap, ◌∙◌, arith}
use Rattle.std.proofs.lemmas.List.{drop_all, append-nil}
use Rattle.km_names.specs.declared.conf.TreeIndex.{TreeIndex}
use Rattle.stated_texts.specs.Text.{with_piece}
use Rattle.depmod_core.specs.Dependencies.{path_at}
use Rattle.stated_texts.proofs.TextSteps.{with-nothing, with_piece-append}
use Rattle.depmod_core.proofs.LineSteps.{put-turned, line-pieces}
use Rattle.depmod_core.proofs.dependencies.put_line.Goals as goal

pub loop-n-init : goal.loop-n-init
loop-n-init c =
    let f = λ (place : TreeIndex). 32 ∷ path_at c.args.tree.now place.0 in
    sym (
    ap (λ places. with_piece c.put_all.new.self (flat_map f (reverse places)))
    (drop_all (length c.as_slice-places.result.now) c.args.order.now
    (omega (arith, ap length c.as_slice-places.ensures)))
    ∙ with-nothing c.put_all.new.self)

pub loop-n-preserved : goal.loop-n-preserved
loop-n-preserved c =
    let f = λ (place : TreeIndex). 32 ∷ path_at c.args.tree.now place.0 in
    let d : TreeIndex = record { 0 = 0 } in
    let last = c.loop-n.n - 1 in
    put-turned f c.put_all.new.self c.loop-n.text c.put_all-in-loop-n.new.self c.args.order.now
    c.loop-n.n last d
    (omega (arith, c.loop-n-test.true))
    (omega (arith, c.loop-n-test.true, c.loop-n.auto.n, ap length c.as_slice-places.ensures))
    c.loop-n.invariant
    (c.in_ok-put_all-2.ensures
    ∙ ap (λ bytes. with_piece c.loop-n.text (32 ∷ bytes))
    (append-nil c.path_at.result.now ∙ c.path_at.ensures
    ∙ ap (λ places. path_at c.args.tree.now (get_or places last d).0)
    c.as_slice-places.ensures))

pub returns : goal.returns
returns c =
    let f = λ (place : TreeIndex). 32 ∷ path_at c.args.tree.now place.0 in
    let order = c.args.order.now in
    let paths = flat_map f (reverse order) in
    let done : c.loop-n.n ≡ 0 = omega (arith, c.loop-n-test.false) in
    c.loop-n.invariant
    ∙ ap (λ k. with_piece c.put_all.new.self (flat_map f (reverse (drop k order)))) done
    ∙ ap (λ t. with_piece t paths)
    (c.in_ok-put_all.ensures
    ∙ ap (λ path. with_piece c.args.text.now (path ++ 58 ∷ [])) c.as_bytes.ensures)
    ∙ with_piece-append c.args.text.now (c.args.facts.now.path ++ 58 ∷ []) paths
    ∙ ap (with_piece c.args.text.now) (line-pieces c.args.tree.now c.args.facts.now order)
