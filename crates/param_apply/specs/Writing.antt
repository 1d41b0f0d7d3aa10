-- What is kept while words are written into an image.
-- It belongs to the code: no public meaning rests on it.
use Rattle.std.specs.Prelude.{◌≡◌, ℕ, ◌<◌, ◌||◌, Bool, true, false, List, length, map, take}
use Rattle.std.specs.Prelude.{slice_get, Some, None, get_or}
use Rattle.std.specs.List.{list_any}
use Rattle.elf_object.specs.Object.{FileObject}
use Rattle.param_apply.specs.declared.kind.ParamType.{ParamType}
use Rattle.param_apply.specs.declared.claims.Claims.{Claims}
use Rattle.param_apply.specs.declared.claims.Value.{Value}
use Rattle.param_apply.specs.Kinds.{number_of, width_of}
use Rattle.param_apply.specs.Words.{Parameter, Setting}
use Rattle.param_apply.specs.Places.{is_in_value, is_misplaced, is_reserved}
use Rattle.param_apply.specs.Applied.{fault_at, is_named, piece, with_pieces}

-- Whether the byte at x is in the value of a parameter that one of the words names.
abbrev pub is_of_any : List Parameter → ℕ → List Setting → Bool
is_of_any params x ss = list_any (λ (s : Setting). is_in_value params s.number x) ss

-- After these words the flags are the ones of the bytes and of the parameters, and the value of
-- each named parameter isn't misplaced.
pub record AreClaims (c : Claims) (o : FileObject) (params : List Parameter) (done : List Setting) :
    Type 0 where
  pub taken : (x : ℕ) → x < length c.taken.items
      → get_or c.taken.items x false ≡ (is_reserved o x || is_of_any params x done)
  pub count : length c.named.items ≡ length params
  pub named : (k : ℕ) → k < length params → get_or c.named.items k false ≡ is_named done k
  pub placed : (k : ℕ) (p : Parameter) → slice_get params k ≡ Some p → is_named done k ≡ true
      → is_misplaced o params (length c.taken.items) done k p ≡ false

-- The first i of these words are written into a copy of the image.
pub record IsWritten (image copy : List ℕ) (c : Claims) (o : FileObject) (params : List Parameter)
    (ss : List Setting) (i : ℕ) : Type 0 where
  pub claims : AreClaims c o params (take i ss)
  pub taken : length c.taken.items ≡ length image
  pub bytes : copy ≡ with_pieces image (map (piece params) (take i ss))
  pub long : length copy ≡ length image
  pub passed : (j : ℕ) → j < i → fault_at o params (length image) ss j ≡ None

-- The value is the one that the word states for its parameter.
pub record IsValueOf (v : Value) (p : Parameter) (s : Setting) : Type 0 where
  pub kind : ParamType
  pub known : p.kind ≡ Some kind
  pub number : number_of kind s.text ≡ Some v.number
  pub width : v.width ≡ width_of kind
