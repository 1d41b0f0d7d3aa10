use Rattle.std.proofs.Common.{◌++◌, ◌∷◌, ◌==◌, length, map, ap, sym, ◌∙◌, append_assoc, append-nil}
use Rattle.std.proofs.Common.{arith}
use Rattle.std.specs.List.{slice_split, before_first}
use Rattle.std.specs.Option.{option_to_list}
use Rattle.km_names.specs.Path.{module_name}
use Rattle.mod_tree.specs.DependencyLine.{needed_paths}
use Rattle.dependency_lines.specs.Modules.{place_of, places_of}
use Rattle.dependency_lines.proofs.Lines.{after-shorter, others-next, others-none, needed-is}
use Rattle.dependency_lines.proofs.places.push_needed.Goals as goal

pub loop-after-init : goal.loop-after-init
loop-after-init c =
    let ms = c.args.modules.now in
    ap (λ rest. c.args.places.now.items
    ++ places_of ms (map module_name (needed_paths (slice_split (λ b. b == 32) rest))))
    c.split_at_byte.ensures.after
    ∙ ap (λ names. c.args.places.now.items ++ places_of ms names) (sym (needed-is c.args.line.now))

pub loop-after-smaller : goal.loop-after-smaller
loop-after-smaller c =
    let shorter = after-shorter (λ b. b == 32) c.loop-after.rest.now c.in-Some.ensures.0 in
    let after = ap length c.in-Some.ensures.1 in
    omega (arith, shorter, after)

pub loop-after-preserved : goal.loop-after-preserved
loop-after-preserved c =
    let ms = c.args.modules.now in
    let w = c.in-Some.ensures in
    let before = c.loop-after.places.items in
    let left
    = places_of ms
    (map module_name (needed_paths (slice_split (λ b. b == 32) c.in-Some.after.now))) in
    let next
    = others-next (λ b. b == 32) c.loop-after.rest.now w.0
    ∙ ap (λ ys. before_first (λ b. b == 32) ys
    ∷ needed_paths (slice_split (λ b. b == 32) ys)) (sym w.1) in
    let one
    = c.in_ok-push_at.ensures
    ∙ ap (λ path. before ++ option_to_list (place_of ms (module_name path)))
    c.split_at_byte-in-Some.ensures.before in
    ap (λ ps. ps ++ left) one
    ∙ append_assoc before
    (option_to_list
    (place_of ms (module_name (before_first (λ b. b == 32) c.in-Some.after.now)))) left
    ∙ ap (λ ps. before ++ places_of ms (map module_name ps)) (sym next)
    ∙ c.loop-after.invariant

pub returns : goal.returns
returns c =
    let ms = c.args.modules.now in
    sym (append-nil c.loop-after.places.items)
    ∙ ap (λ ps. c.loop-after.places.items ++ places_of ms (map module_name ps))
    (sym (others-none (λ b. b == 32) c.loop-after.rest.now c.in_default.ensures))
    ∙ c.loop-after.invariant
