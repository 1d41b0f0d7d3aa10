use Rattle.std.proofs.Common.{subst, ◌≡◌, sym, ap, ◌∙◌, None, Err, inr, arith, List, ℕ, length}
use Rattle.std.specs.Prelude.{filter}
use Rattle.std.proofs.lemmas.List.{length-map}
use Rattle.mod_tree.specs.Shown.{referents}
use Rattle.mod_tree.specs.Tree.{is_module_path, bad_path, name_count}
use Rattle.mod_tree.specs.Chosen.{HasChosen}
use Rattle.std.specs.Borrow.{Bor}
use Rattle.mod_tree.specs.declared.tree.TreeFault.TheVariants.{BadPath}
use Rattle.mod_tree.proofs.ListingSteps.{tree-bad, tree-many, tree-ok}
use Rattle.mod_tree.proofs.tree.choose.Goals as goal

pub returns-in-Some-clause-err : goal.returns-in-Some-clause-err
returns-in-Some-clause-err c =
    let ms : List (List ℕ) = referents c.as_slice.result.now in
    let is : ms ≡ filter is_module_path c.args.paths.now
    = ap referents c.as_slice.ensures.value ∙ c.in_ok-modules.ensures in
    inr (tree-bad c.args.paths.now ms c.args.order_file.now c.args.search.now c.in-Some.path.now is
    c.in-Some.ensures
    ∙ ap (λ p. Err (BadPath p)) (sym (c.in_ok-from_slice.ensures ∙ c.as_bytes.ensures)))

pub returns-then-len-gt-MODULE_LIMIT-clause-err : goal.returns-then-len-gt-MODULE_LIMIT-clause-err
returns-then-len-gt-MODULE_LIMIT-clause-err c =
    let ms : List (List ℕ) = referents c.as_slice-2.result.now in
    let is : ms ≡ filter is_module_path c.args.paths.now
    = ap referents c.as_slice-2.ensures.value ∙ c.in_ok-modules.ensures in
    let good : None ≡ bad_path ms
    = c.in_default.ensures
    ∙ ap (λ (rs : List (Bor (List ℕ))). bad_path (referents rs))
    (c.as_slice.ensures.value ∙ sym c.as_slice-2.ensures.value) in
    let has : HasChosen c.args.search.now ms (referents c.in_ok-chosen.chosen.items)
    = c.in_ok-chosen.ensures in
    let many : length c.in_ok-chosen.chosen.items ≡ name_count ms
    = sym (length-map c.in_ok-chosen.chosen.items (λ (r : Bor (List ℕ)). r.now)) ∙ has.count in
    let count : c.len-then-len-gt-MODULE_LIMIT.result ≡ name_count ms
    = c.len-then-len-gt-MODULE_LIMIT.ensures ∙ c.in_ok-chosen.chosen.ok.0 ∙ many in
    inr (tree-many c.args.paths.now ms c.args.order_file.now c.args.search.now
    c.len-then-len-gt-MODULE_LIMIT.result is good count (omega arith))

pub returns-clause-ok : goal.returns-clause-ok
returns-clause-ok c =
    let ms : List (List ℕ) = referents c.as_slice-2.result.now in
    let is : ms ≡ filter is_module_path c.args.paths.now
    = ap referents c.as_slice-2.ensures.value ∙ c.in_ok-modules.ensures in
    let good : None ≡ bad_path ms
    = c.in_default.ensures
    ∙ ap (λ (rs : List (Bor (List ℕ))). bad_path (referents rs))
    (c.as_slice.ensures.value ∙ sym c.as_slice-2.ensures.value) in
    let has : HasChosen c.args.search.now ms (referents c.in_ok-chosen.chosen.items)
    = c.in_ok-chosen.ensures in
    let many : length c.in_ok-chosen.chosen.items ≡ name_count ms
    = sym (length-map c.in_ok-chosen.chosen.items (λ (r : Bor (List ℕ)). r.now)) ∙ has.count in
    let count : c.len.result ≡ name_count ms = c.len.ensures ∙ c.in_ok-chosen.chosen.ok.0 ∙ many in
    let made
    = c.in_ok-tree_in_order.ensures c.args.search.now ms
    (subst (λ (rs : List (Bor (List ℕ))). HasChosen c.args.search.now ms (referents rs))
    (sym c.as_slice-3.ensures.value) has) in
    tree-ok c.args.paths.now ms c.args.order_file.now c.args.search.now c.len.result _ is good count
    (omega arith) made
