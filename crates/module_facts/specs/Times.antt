-- How often a table has seen each name.
-- It belongs to the code: no public meaning rests on it.
use Rattle.std.specs.Prelude.{◌≡◌, ℕ, zero, suc, Bool, true, false, List, Option, Some, None}
use Rattle.std.specs.List.{count_by}
use Rattle.std.specs.HashMap.{get_by}
use Rattle.std.specs.Str.{bytes_eq}
use Rattle.module_symbols.specs.declared.exports.Export.{Export}
use Rattle.module_facts.specs.declared.seen.SeenNames.{SeenNames}
use Rattle.module_facts.specs.declared.seen.Times.{Times}
use Rattle.module_facts.specs.declared.seen.Times.TheVariants.{Once, More}

-- What a table has for a name.
abbrev pub times_seen : SeenNames → List ℕ → Option Times
times_seen t name = get_by (λ k. bytes_eq name k.bytes.now) t.times

-- What a table has for a name that was seen so often.
abbrev pub seen : ℕ → Option Times
seen zero = None
seen (suc zero) = Some Once
seen (suc (suc n)) = Some More

-- Whether a name was seen more than once.
abbrev pub is_repeated : Option Times → Bool
is_repeated (Some More) = true
is_repeated (Some Once) = false
is_repeated None = false

-- The number of exports with this name.
abbrev pub times : List Export → List ℕ → ℕ
times exports name = count_by (λ e. bytes_eq e.name name) exports

-- The table has seen the names of the exports.
pub record HasSeen (t : SeenNames) (exports : List Export) : Type 0 where
  pub at : (name : List ℕ) → times_seen t name ≡ seen (times exports name)
