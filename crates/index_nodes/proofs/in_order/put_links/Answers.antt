use Rattle.std.proofs.Common.{◌≡◌, sym, ap, ◌∙◌, ⊎_elim, suc, ◌+◌, ◌-◌, ◌*◌, ◌++◌, take, rules}
use Rattle.std.proofs.Common.{arith}
use Rattle.std.proofs.Math.ListN.{set}
use Rattle.std.proofs.lemmas.Bool.{cases_eq, eq-eqb, ne_eqb}
use Rattle.std.proofs.lemmas.List.{append-nil}
use Rattle.index_format.specs.Link.{place_of}
use Rattle.index_nodes.specs.Pending.{links_at}
use Rattle.index_nodes.proofs.PutLemmas.{put_next}
use Rattle.index_nodes.proofs.in_order.put_links.Goals as goal

pub loop-n-preserved : goal.loop-n-preserved
loop-n-preserved c =
    let b = c.args.bytes.now in
    let p = c.args.children.now in
    let w = c.loop-n.invariant in
    let link = c.be_u32_at-link.result in
    let added = c.from-filled.result in
    let here = p.next + 4 * c.loop-n.n in
    let m = p.left - (c.loop-n.n + 1) in
    let one : suc m ≡ p.left - c.loop-n.n = omega (arith, c.loop-n-test.true) in
    let on : p.next + 4 * (c.loop-n.n + 1) ≡ here + 4 = omega arith in
    let absent : place_of link ≡ 0 → added ≡ 0
    = λ none. rw (eq-eqb c.place.result 0 (c.place.ensures.place ∙ none)) at
    c.from-filled.ensures in
    let present : (place_of link ≡ 0 → ⊥) → added ≡ 1
    = λ some. rw (ne_eqb c.place.result 0 (λ none. some (sym c.place.ensures.place ∙ none))) at
    c.from-filled.ensures in
    record {
      size = search rules;
      low
          = ⊎_elim (λ none. omega (arith, w.low, absent none))
          (λ some. omega (arith, w.low, present some)) (cases_eq (place_of link) 0);
      put =
          ap (λ k. take (c.loop-n.filled + added) (set c.loop-n.links c.loop-n.filled link)
          ++ links_at b k m) on
          ∙ put_next b c.loop-n.links c.loop-n.filled here m link added c.be_u32_at-link.ensures
          (omega (arith, w.low, w.size, c.requires.room, c.loop-n-test.true)) absent present
          ∙ ap (λ n. take c.loop-n.filled c.loop-n.links ++ links_at b here n) one
          ∙ w.put;
    }

pub returns-clause-links : goal.returns-clause-links
unfolding links_at
returns-clause-links c =
    let p = c.args.children.now in
    let done : p.left - c.loop-n.n ≡ 0 = omega (arith, c.loop-n-test.false) in
    sym (ap (λ n. take c.loop-n.filled c.loop-n.links
    ++ links_at c.args.bytes.now (p.next + 4 * c.loop-n.n) n) done
    ∙ append-nil _)
    ∙ c.loop-n.invariant.put
