use Rattle.std.proofs.Common.{◌≡◌, take}
use Rattle.std.specs.List.{flat_map}
use Rattle.sheet_object.specs.Contents.{version_bytes}
use Rattle.sheet_object.proofs.content.versions.Given as goal

abbrev pub invariant-loop-version : goal.invariant-loop-version
invariant-loop-version l =
    l.content.items ≡ flat_map version_bytes (take l.version-index l.versions)
