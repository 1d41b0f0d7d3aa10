use Rattle.std.proofs.Common.{◌≡◌, sym, subst, ◌+◌, length, drop, true, arith}
use Rattle.std.proofs.lemmas.List.{length-drop}
use Rattle.index_format.specs.declared.numbers.TheConstants.{HAS_PREFIX}
use Rattle.index_format.specs.Link.{place_of}
use Rattle.index_format.specs.Node.{text}
use Rattle.index_format.specs.Check.{prefix_fits}
use Rattle.index_nodes.specs.Fields.{IsPrefixEnd}
use Rattle.index_nodes.specs.TextEnds.{IsTextEnd}
use Rattle.index_nodes.proofs.FieldLemmas.{bit_set, bit_clear, without_prefix, with_prefix}
use Rattle.index_nodes.proofs.FieldLemmas.{cut_prefix}
use Rattle.index_nodes.proofs.TextEndLemmas.{length-text_end}
use Rattle.index_nodes.proofs.fields.prefix_end.Goals as goal
use Rattle.index_nodes.proofs.fields.prefix_end.Goals.{After-end-end}

end_is : (c : After-end-end) → IsTextEnd c.args.bytes.now (place_of c.args.link) c.end-end.result
end_is c =
    subst (λ n. IsTextEnd c.args.bytes.now n c.end-end.result) c.place-start.ensures.place
    c.end-end.ensures

pub returns-then-link-eq0 : goal.returns-then-link-eq0
returns-then-link-eq0 c =
    let b = c.args.bytes.now in
    let link = c.args.link in
    subst (λ n. (prefix_fits b link ≡ true) × IsPrefixEnd b link n)
    (sym c.place-start.ensures.place)
    (without_prefix b link (bit_clear link HAS_PREFIX c.if-link-eq0.true) c.requires.within)

pub returns-then-end-bytes : goal.returns-then-end-bytes
returns-then-end-bytes c =
    let b = c.args.bytes.now in
    let link = c.args.link in
    let start = place_of link in
    let e = end_is (goal.at.returns-then-end-bytes c).After-end-end in
    let size = length-text_end b start c.end-end.result e in
    let there : start + length (text (drop start b)) ≡ c.end-end.result
    = omega (arith, size, e.low) in
    subst (λ n. (prefix_fits b link ≡ true) × IsPrefixEnd b link (n + 1)) there
    (with_prefix b link (bit_set link HAS_PREFIX c.if-link-eq0.false) c.requires.within
    (omega (arith, size, length-drop start b, e.low, c.if-end-bytes.true)))

pub returns-else-end-bytes : goal.returns-else-end-bytes
returns-else-end-bytes c =
    let b = c.args.bytes.now in
    let link = c.args.link in
    let start = place_of link in
    let e = end_is (goal.at.returns-else-end-bytes c).After-end-end in
    let size = length-text_end b start c.end-end.result e in
    cut_prefix b link (bit_set link HAS_PREFIX c.if-link-eq0.false)
    (omega (arith, size, length-drop start b, e.low, c.if-end-bytes.false))
