-- The tests of a module's needs and exports, and the addresses of its needs, by a table.
use Rattle.std.specs.Prelude.{ℕ, ◌==◌, Bool, List, [], ◌∷◌, map, find, Option, option_map}
use Rattle.std.specs.Prelude.{unwrap_or, if◌then◌else◌}
use Rattle.std.specs.Option.{option_map_or}
use Rattle.km_names.specs.First.{first}
use Rattle.module_symbols.specs.declared.exports.Export.{Export as FactsExport}
use Rattle.module_symbols.specs.declared.needs.Need.{Need as FactsNeed}
use Rattle.module_facts.specs.declared.facts.Facts.{Facts}
use Rattle.provider_rel.specs.Faces.{face_of, need_of_facts}
use Rattle.export_table.specs.declared.standing.ExportTable.{ExportTable}
use Rattle.export_table.specs.Exports.{standing_export}
use Rattle.export_table.specs.Standing.{standing_of}
use Rattle.symbol_binding.specs.Unmet.{vmlinux}
use Rattle.symbol_binding.specs.Needs.{NeedTest, is_seen, is_missing, is_hidden, is_other_version}
use Rattle.symbol_binding.specs.Needs.{is_barred}
use Rattle.export_table.specs.declared.needs.Check.{Check}
use Rattle.export_table.specs.declared.needs.Check.TheVariants.{Missing, Hidden, OtherVersion}
use Rattle.export_table.specs.declared.needs.Check.TheVariants.{Barred}
use Rattle.load_fault.specs.declared.fault.LoadFault.{LoadFault}
use Rattle.load_fault.specs.declared.fault.LoadFault.TheVariants.{MissingSymbol, GplOnly}
use Rattle.load_fault.specs.declared.fault.LoadFault.TheVariants.{VersionDiffers, NotImported}
use Rattle.load_fault.specs.declared.fault.LoadFault.TheVariants.{ExportTaken}

-- Whether a need of a module fails a test, by a table.
abbrev pub need_fails : NeedTest → ExportTable → Facts → FactsNeed → Bool
need_fails test table f n =
    test (option_map (standing_export n.name) (standing_of table n.name)) (face_of f)
    (need_of_facts n)

-- The refusal for the first need of a module that fails a test, by a table.
abbrev pub failed_need : ExportTable → Facts → NeedTest → (List ℕ → LoadFault) → Option LoadFault
failed_need table f test fault =
    option_map (λ n. fault n.name) (find (need_fails test table f) f.needs)

-- The refusal for an export whose name a table has.
abbrev pub taken_by : ExportTable → FactsExport → Option LoadFault
taken_by table e =
    option_map (λ s. ExportTaken e.name (unwrap_or s.owner vmlinux)) (standing_of table e.name)

-- The tests of the needs and the exports of a module, in order, by a table.
abbrev pub binding_tests : ExportTable → Facts → List (Option LoadFault)
binding_tests table f =
    failed_need table f is_missing MissingSymbol
    ∷ failed_need table f is_hidden GplOnly
    ∷ failed_need table f is_other_version VersionDiffers
    ∷ failed_need table f is_barred NotImported
    ∷ first (map (taken_by table) f.exports)
    ∷ []

-- The address of a need of a module, by a table.
abbrev pub kept_address : ExportTable → Facts → FactsNeed → ℕ
kept_address table f n =
    option_map_or (λ s. if is_seen f.free s.gpl then s.address else 0) (standing_of table n.name) 0

-- The address of the symbol k by these needs, if it is defined elsewhere.
abbrev pub given_by : ExportTable → Facts → List FactsNeed → ℕ → ℕ
given_by table f needs k = option_map_or (kept_address table f) (find (λ n. n.symbol == k) needs) 0

-- The tests of needs, as the code names them: each test, and the refusal of a load if it fails.
abbrev pub test_of : Check → NeedTest
test_of Missing = is_missing
test_of Hidden = is_hidden
test_of OtherVersion = is_other_version
test_of Barred = is_barred

abbrev pub fault_of : Check → List ℕ → LoadFault
fault_of Missing = MissingSymbol
fault_of Hidden = GplOnly
fault_of OtherVersion = VersionDiffers
fault_of Barred = NotImported
