use Rattle.std.proofs.Common.{◌≡◌, take}
use Rattle.sheet_object.specs.Further.{name_bytes}
use Rattle.sheet_object.proofs.further.version_names.Given as goal

abbrev pub invariant-loop-version : goal.invariant-loop-version
invariant-loop-version l = l.content.items ≡ name_bytes (take l.version-index l.ext)
