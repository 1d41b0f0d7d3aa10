use Rattle.std.proofs.Common.{◌≡◌, take}
use Rattle.sheet_object.specs.Further.{crc_bytes}
use Rattle.sheet_object.proofs.further.crcs.Given as goal

abbrev pub invariant-loop-version : goal.invariant-loop-version
invariant-loop-version l = l.content.items ≡ crc_bytes (take l.version-index l.ext)
