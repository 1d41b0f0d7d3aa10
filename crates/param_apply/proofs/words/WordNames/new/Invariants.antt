use Rattle.std.proofs.Common.{◌≡◌, ◌<◌, ◌≤◌, ℕ, Some, [], map, take, length, get_or}
use Rattle.km_names.specs.Path.{underscored}
use Rattle.name_table.specs.NameTable.{IsTableOf}
use Rattle.param_apply.specs.Words.{word_name}
use Rattle.param_apply.proofs.words.WordNames.new.Given as goal

abbrev pub invariant-loop-word : goal.invariant-loop-word
invariant-loop-word l = record {
  table : IsTableOf l.table
      (map (λ w. Some (underscored (word_name w))) (take l.word-index l.words));
  count : l.table.count ≡ l.word-index;
  longest : (i : ℕ) → i < l.word-index
      → length (word_name (get_or l.words i [])) ≤ l.longest;
}
