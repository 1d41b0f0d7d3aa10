use Rattle.std.proofs.Common.{◌≡◌, ℕ, ◌<◌, ◌+◌, ◌++◌, ◌∷◌, [], List, Option, Some, None, length}
use Rattle.std.proofs.Common.{take, get_or, sym, ap, ◌∙◌, append-nil}
use Rattle.std.specs.List.{filter_map, cons_option}
use Rattle.std.proofs.lemmas.List.{take_more}
use Rattle.std.proofs.lemmas.List.Elements.{filter_map-append}
use Rattle.module_facts.specs.declared.facts.Facts.{Facts}
use Rattle.devname_nodes.specs.declared.node.Node.{Node}
use Rattle.devname_nodes.specs.Nodes.{node_of}
use Rattle.devname_nodes.proofs.node.nodes.Goals as goal
use Rattle.devname_nodes.proofs.node.nodes.Goals.{in-Some+in_ok-push, in_default}

-- the nodes of one module more
node-more : (tree : List Facts) (i : ℕ) (f : Facts) (o : Option Node) → i < length tree
    → f ≡ get_or tree i f → o ≡ node_of f
    → filter_map node_of (take (i + 1) tree) ≡ filter_map node_of (take i tree) ++ cons_option o []
node-more tree i f o inside at is =
    ap (filter_map node_of) (take_more tree i f inside)
    ∙ filter_map-append node_of (take i tree) (get_or tree i f ∷ [])
    ∙ ap (λ g. filter_map node_of (take i tree) ++ cons_option (node_of g) []) (sym at)
    ∙ ap (λ p. filter_map node_of (take i tree) ++ cons_option p []) (sym is)

pub loop-facts-preserved : goal.loop-facts-preserved
loop-facts-preserved c =
    let items = c.as_slice-facts-items.result.now in
    let i = c.loop-facts.facts-index in
    let same = c.as_slice-facts-items.ensures in
    elim c.match-made.branch [
      | in-Some+in_ok-push w ↦
          w.list-is ∙ w.in_ok-push.ensures.ok
          ∙ ap (λ l. l ++ w.in-Some.node ∷ [])
          (c.loop-facts.invariant ∙ ap (λ t. filter_map node_of (take i t)) (sym same))
          ∙ sym (node-more items i c.facts-item.result (Some w.in-Some.node) c.loop-facts-test.true
          c.facts-item.is (sym w.in-Some.is ∙ c.in_ok-made.ensures))
          ∙ ap (λ t. filter_map node_of (take (i + 1) t)) same
      | in_default w ↦
          w.list-is ∙ c.loop-facts.invariant ∙ ap (λ t. filter_map node_of (take i t)) (sym same)
          ∙ sym (append-nil (filter_map node_of (take i items)))
          ∙ sym (node-more items i c.facts-item.result None c.loop-facts-test.true c.facts-item.is
          (sym w.in_default.is ∙ c.in_ok-made.ensures))
          ∙ ap (λ t. filter_map node_of (take (i + 1) t)) same
    ]
