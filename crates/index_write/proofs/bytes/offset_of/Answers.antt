use Rattle.std.proofs.Common.{◌∙◌, sym, drop, ◌+◌}
use Rattle.index_write.specs.Links.{links_of}
use Rattle.index_write.proofs.SizeLemmas.{drop-at}
use Rattle.index_write.proofs.WriteLemmas.{offset-here, offset-later}
use Rattle.index_write.proofs.bytes.offset_of.Goals as goal

pub returns-then-from-byte : goal.returns-then-from-byte
returns-then-from-byte c =
    let here
    = drop-at (λ l. (l.byte, l.offset)) c.args.links.now c.loop-link.link-index
    (record { byte = 0; offset = 0 }) c.loop-link-test.true in
    offset-here (drop c.loop-link.link-index (links_of c.args.links.now))
    (drop (c.loop-link.link-index + 1) (links_of c.args.links.now)) _ _ c.args.byte here
    (sym c.from.ensures ∙ c.if-from-byte.true)
    ∙ c.loop-link.invariant

pub loop-link-preserved : goal.loop-link-preserved
loop-link-preserved c =
    let here
    = drop-at (λ l. (l.byte, l.offset)) c.args.links.now c.loop-link.link-index
    (record { byte = 0; offset = 0 }) c.loop-link-test.true in
    offset-later (drop c.loop-link.link-index (links_of c.args.links.now))
    (drop (c.loop-link.link-index + 1) (links_of c.args.links.now)) _ _ c.args.byte here
    (λ e. c.if-from-byte.false (c.from.ensures ∙ e))
    ∙ c.loop-link.invariant
