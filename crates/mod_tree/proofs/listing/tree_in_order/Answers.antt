use Rattle.std.proofs.Common.{ap, ◌∙◌}
use Rattle.std.specs.Prelude.{map}
use Rattle.std.proofs.lemmas.Result.{IfOk-weaker}
use Rattle.km_names.specs.Lines.{lines_of}
use Rattle.mod_tree.specs.Shown.{referents}
use Rattle.mod_tree.specs.Listing.{listed_path}
use Rattle.mod_tree.proofs.ListingSteps.{sorted-tree}
use Rattle.mod_tree.proofs.listing.tree_in_order.Goals as goal

pub returns : goal.returns
returns c =
    let lines = lines_of c.args.order_file.now in
    let made = c.in_ok-list.ensures in
    IfOk-weaker c.listed_paths.result _ _ (λ tree is words ms has.
    is ∙ ap (map listed_path) c.as_slice.ensures.value
    ∙ sorted-tree lines words ms (referents c.args.chosen.now) _ _ has made.paths
    (made.each lines c.in_ok-places.ensures) c.in_ok-sort.ensures.permutation
    c.in_ok-sort.ensures.sorted) c.listed_paths.ensures
