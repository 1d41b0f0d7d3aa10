use Rattle.std.proofs.Common.{◌∙◌, ap, length}
use Rattle.image_layout.specs.Offsets.{image_size}
use Rattle.image_layout.specs.Plain.{pieces}
use Rattle.image_layout.specs.Laid.{patches}
use Rattle.image_layout.proofs.PlainLemmas.{length-filled}
use Rattle.image_layout.proofs.LaidLemmas.{length-patched}
use Rattle.image_layout.proofs.laid.image_at.Goals as goal

pub relocate-requires-clause-image : goal.relocate-requires-clause-image
relocate-requires-clause-image c =
    let o = c.args.object.now in
    ap length c.in_ok-image.ensures ∙ length-filled (image_size o.sections) (pieces o)

pub returns-clause-length : goal.returns-clause-length
returns-clause-length c =
    let o = c.args.object.now in
    ap length c.in_ok-relocate.ensures.image
    ∙ length-patched c.in_ok-image.image (patches o c.args.base c.args.addresses.now)
    ∙ ap length c.in_ok-image.ensures ∙ length-filled (image_size o.sections) (pieces o)
