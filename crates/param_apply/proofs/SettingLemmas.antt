-- What a word states for its parameter.
use Rattle.std.proofs.Common.{◌≡◌, ℕ, true, false, List, Some, None, refl, sym, take}
use Rattle.std.specs.Prelude.{slice_get}
use Rattle.std.specs.Int.{w64, to_le_bytes}
use Rattle.elf_object.specs.Object.{FileObject}
use Rattle.param_apply.specs.declared.fault.ParamFault.{ParamFault}
use Rattle.param_apply.specs.declared.fault.ParamFault.TheVariants.{BadParamPlace}
use Rattle.param_apply.specs.declared.claims.Value.{Value}
use Rattle.param_apply.specs.Kinds.{bytes_of}
use Rattle.param_apply.specs.Places.{is_misplaced, value_width}
use Rattle.param_apply.specs.Words.{Parameter, Setting}
use Rattle.param_apply.specs.Applied.{piece, setting_fault, value_bytes, value_test}
use Rattle.param_apply.specs.Writing.{IsValueOf}

-- A word that states a value passes the test of it.
pub value-passed : (v : Value) (p : Parameter) (s : Setting) → IsValueOf v p s
    → value_test s p p.kind ≡ None
value-passed v p s is = rw (is.known, is.number) refl

pub value-width : (v : Value) (p : Parameter) (s : Setting) → IsValueOf v p s
    → value_width p ≡ v.width
value-width v p s is = rw is.known (sym is.width)

-- The bytes that are written.
pub value-bytes : (v : Value) (p : Parameter) (s : Setting) → IsValueOf v p s
    → value_bytes s p ≡ take v.width (to_le_bytes w64 v.number)
unfolding bytes_of
value-bytes v p s is = rw (is.known, is.number, is.width) refl

pub piece-at : (params : List Parameter) (p : Parameter) (s : Setting)
    → slice_get params s.number ≡ Some p → (piece params s).at ≡ p.at
unfolding piece
piece-at params p s is = rw is refl

pub piece-bytes : (params : List Parameter) (p : Parameter) (s : Setting)
    → slice_get params s.number ≡ Some p → (piece params s).bytes ≡ value_bytes s p
unfolding piece
piece-bytes params p s is = rw is refl

-- The fault of a word, by its two tests.
pub setting-passed : (o : FileObject) (params : List Parameter) (len : ℕ) (done : List Setting)
    (s : Setting) (p : Parameter)
    → slice_get params s.number ≡ Some p → value_test s p p.kind ≡ None
    → is_misplaced o params len done s.number p ≡ false → setting_fault o params len done s ≡ None
unfolding setting_fault
setting-passed o params len done s p is value placed = rw (is, value, placed) refl

pub setting-value : (o : FileObject) (params : List Parameter) (len : ℕ) (done : List Setting)
    (s : Setting) (p : Parameter) (fault : ParamFault)
    → slice_get params s.number ≡ Some p → value_test s p p.kind ≡ Some fault
    → setting_fault o params len done s ≡ Some fault
unfolding setting_fault
setting-value o params len done s p fault is value = rw (is, value) refl

pub setting-place : (o : FileObject) (params : List Parameter) (len : ℕ) (done : List Setting)
    (s : Setting) (p : Parameter)
    → slice_get params s.number ≡ Some p → value_test s p p.kind ≡ None
    → is_misplaced o params len done s.number p ≡ true
    → setting_fault o params len done s ≡ Some (BadParamPlace p.name)
unfolding setting_fault
setting-place o params len done s p is value placed = rw (is, value, placed) refl
