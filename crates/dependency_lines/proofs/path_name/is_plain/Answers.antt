use Rattle.std.proofs.Common.{◌≡◌, ℕ, false, List, Option, Some, None, ap, ◌∙◌}
use Rattle.std.specs.Prelude.{not, is_some}
use Rattle.std.proofs.lemmas.Bool.{true≢false}
use Rattle.memchr.specs.Find.{IsFirstByte, is_byte}
use Rattle.km_names.specs.Path.{underscored}
use Rattle.dependency_lines.proofs.Stems.{plain-none}
use Rattle.dependency_lines.proofs.path_name.is_plain.Goals as goal

-- a text in which no `-` was found
by : (text : List ℕ) (found : Option ℕ) → IsFirstByte (is_byte 45) text found
    → is_some found ≡ false → underscored text ≡ text
by text None first none = plain-none text first
by text (Some place) first none = absurd (true≢false none)

pub returns : goal.returns
returns c =
    λ plain. by c.args.text.now c.memchr.result c.memchr.ensures (c.is_none.ensures ∙ ap not plain)
