-- The types of parameters. The kernel's include/linux/moduleparam.h, module_param.
use Rattle.std.specs.Prelude.{ℕ, if◌then◌else◌, List, codes, Option, Some, None, take}
use Rattle.std.specs.Int.{w64, to_le_bytes}
use Rattle.std.specs.Str.{bytes_eq}
use Rattle.param_apply.specs.declared.kind.ParamType.{ParamType}
use Rattle.param_apply.specs.declared.kind.ParamType.TheVariants.{Unsigned, Signed, Truth}
use Rattle.param_apply.specs.declared.kind.Width.TheVariants.{One, Two, Four, Eight}
use Rattle.param_apply.specs.Numbers.{bytes_in, unsigned, signed, truth}

-- The type that a text names.
unfoldable pub kind_of : List ℕ → Option ParamType
kind_of text =
    if bytes_eq text (codes "byte") then Some (Unsigned One)
    else if bytes_eq text (codes "ushort") then Some (Unsigned Two)
    else if bytes_eq text (codes "uint") then Some (Unsigned Four)
    else if bytes_eq text (codes "ulong") then Some (Unsigned Eight)
    else if bytes_eq text (codes "ullong") then Some (Unsigned Eight)
    else if bytes_eq text (codes "short") then Some (Signed Two)
    else if bytes_eq text (codes "int") then Some (Signed Four)
    else if bytes_eq text (codes "long") then Some (Signed Eight)
    else if bytes_eq text (codes "bool") then Some Truth
    else None

-- The number of bytes of its values.
abbrev pub width_of : ParamType → ℕ
width_of (Unsigned w) = bytes_in w
width_of (Signed w) = bytes_in w
width_of Truth = 1

-- The number that a text states as a value of a type.
abbrev pub stated : ParamType → List ℕ → Option ℕ
stated (Unsigned w) text = unsigned w text
stated (Signed w) text = signed w text
stated Truth text = truth text

-- The number of a word without a text.
abbrev pub unstated : ParamType → Option ℕ
unstated Truth = Some 1
unstated kind = None

-- The number of a value of a type, by the text that a word states for it, or by none.
unfoldable pub number_of : ParamType → Option (List ℕ) → Option ℕ
number_of kind None = unstated kind
number_of kind (Some text) = stated kind text

-- The bytes of the number, the lowest first.
unfoldable pub bytes_of : ParamType → ℕ → List ℕ
bytes_of kind n = take (width_of kind) (to_le_bytes w64 n)
