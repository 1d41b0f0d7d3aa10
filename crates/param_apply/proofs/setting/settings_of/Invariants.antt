use Rattle.std.proofs.Common.{◌≡◌, List, map, take}
use Rattle.std.specs.List.{filter_map}
use Rattle.name_table.specs.NameTable.{IsTableOf}
use Rattle.param_apply.specs.Naming.{kept_name}
use Rattle.param_apply.specs.Words.{Parameter, setting}
use Rattle.param_apply.proofs.setting.settings_of.Given as goal

abbrev pub invariant-loop-word : goal.invariant-loop-word
invariant-loop-word l =
    (params : List Parameter) → IsTableOf l.table (map (kept_name l.words) params)
    → l.settings.items ≡ filter_map (setting params) (take l.word-index l.words)
