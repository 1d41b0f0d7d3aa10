-- What is written out, as sheets.
use Rattle.std.specs.Prelude.{ℕ, List, map}
use Rattle.std.specs.Borrow.{Bor}
use Rattle.sheet_object.specs.declared.sheet.Sheet.{Sheet}
use Rattle.sheet_object.specs.declared.sheet.SheetExport.{SheetExport}
use Rattle.sheet_object.specs.declared.sheet.SheetMore.{SheetMore}
use Rattle.sheet_object.specs.declared.sheet.SheetNeed.{SheetNeed}
use Rattle.sheet_object.specs.declared.sheet.SheetPlace.{SheetPlace}
use Rattle.sheet_object.specs.declared.sheet.SheetSpace.{SheetSpace}
use Rattle.sheet_object.specs.declared.sheet.SheetVersion.{SheetVersion}
use Rattle.test_objects.specs.declared.row.ExportRow.{ExportRow}
use Rattle.test_objects.specs.declared.row.MoreRow.{MoreRow}
use Rattle.test_objects.specs.declared.row.NeedRow.{NeedRow}
use Rattle.test_objects.specs.declared.row.PlaceRow.{PlaceRow}
use Rattle.test_objects.specs.declared.row.SheetRow.{SheetRow}
use Rattle.test_objects.specs.declared.row.SpaceRow.{SpaceRow}
use Rattle.test_objects.specs.declared.row.VersionRow.{VersionRow}

-- The bytes of slices, in their order.
abbrev pub slices_of : List (Bor (List ℕ)) → List (List ℕ)
slices_of rows = map (λ (row : Bor (List ℕ)). row.now) rows

-- The version that a row writes out.
abbrev pub version_of : VersionRow → SheetVersion
version_of row = record { name = row.name.now; crc = row.crc }

-- The export that a row writes out.
abbrev pub export_of : ExportRow → SheetExport
export_of row = record { name = row.name.now; crc = row.crc }

-- The need that a row writes out.
abbrev pub need_of : NeedRow → SheetNeed
need_of row = record { name = row.name.now; weak = row.weak }

-- The relocated word that a row writes out.
abbrev pub place_of : PlaceRow → SheetPlace
place_of row = record { kind = row.kind; symbol = row.symbol.now; addend = row.addend }

-- The namespace that a row writes out.
abbrev pub space_of : SpaceRow → SheetSpace
space_of row = record { name = row.name.now; space = row.space.now }

-- The sheet that a row writes out.
abbrev pub sheet_of : SheetRow → Sheet
sheet_of row = record {
  texts = slices_of row.texts.now;
  versions = map version_of row.versions.now;
  exports = map export_of row.exports.now;
  needs = map need_of row.needs.now;
  places = map place_of row.places.now;
}

-- What a row writes out besides a sheet.
abbrev pub more_of : MoreRow → SheetMore
more_of row = record {
  ext = map version_of row.ext.now;
  gpl = slices_of row.gpl.now;
  spaces = map space_of row.spaces.now;
}
