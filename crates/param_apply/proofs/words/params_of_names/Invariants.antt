use Rattle.std.proofs.Common.{◌≡◌, ℕ, List, map, take}
use Rattle.name_table.specs.NameTable.{IsTableOf}
use Rattle.param_apply.specs.Naming.{AreWordNames, kept_name, parameters_of}
use Rattle.param_apply.proofs.words.params_of_names.Given as goal

abbrev pub invariant-loop-k : goal.invariant-loop-k
invariant-loop-k l = record {
  table : (words : List (List ℕ)) → AreWordNames l.names words
      → IsTableOf l.table (map (kept_name words) (take l.k (parameters_of l.params)));
  count : l.table.count ≡ l.k;
}
