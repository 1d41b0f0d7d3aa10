use Rattle.std.proofs.Common.{◌≡◌, ◌≤◌, ◌∙◌, ℕ, Bool, List, Some, true, false, inl, inr}
use Rattle.std.proofs.Common.{sym, ap, arith, length, take}
use Rattle.std.specs.Prelude.{slice_get}
use Rattle.std.specs.Int.{w64, to_le_bytes}
use Rattle.std.proofs.lemmas.List.{length-take}
use Rattle.std.proofs.lemmas.Result.{err_from_is_err_and}
use Rattle.elf_object.specs.Object.{FileObject}
use Rattle.raw_image.specs.Bytes.{with_bytes}
use Rattle.param_apply.specs.Applied.{piece}
use Rattle.param_apply.specs.Naming.{parameters_of}
use Rattle.param_apply.specs.Places.{is_misplaced}
use Rattle.param_apply.specs.Words.{Parameter, Setting}
use Rattle.param_apply.proofs.SettingLemmas.{piece-at, piece-bytes, setting-passed, setting-place}
use Rattle.param_apply.proofs.SettingLemmas.{setting-value, value-bytes, value-passed, value-width}
use Rattle.param_apply.proofs.written.write.Goals as goal

misplaced-as : (o : FileObject) (params : List Parameter) (len len2 : ℕ) (done : List Setting)
    (k k2 : ℕ) (p : Parameter) (b : Bool)
    → len ≡ len2 → k ≡ k2 → is_misplaced o params len done k p ≡ b
    → is_misplaced o params len2 done k2 p ≡ b
misplaced-as o params len len2 done k k2 p b e f is = rw (← e, ← f) is

put-as : (image new : List ℕ) (at at2 : ℕ) (bytes bytes2 : List ℕ) → new ≡ with_bytes image at bytes
    → at ≡ at2 → bytes ≡ bytes2 → new ≡ with_bytes image at2 bytes2
put-as image new at at2 bytes bytes2 is e f = rw (← e, ← f) is

pub returns-in_err-value-clause-fault : goal.returns-in_err-value-clause-fault
returns-in_err-value-clause-fault c =
    let params = parameters_of c.args.params.now in
    let s = c.args.setting.now in
    let q = c.in_ok-param.param in
    let named : slice_get params s.number ≡ Some q
    = ap (slice_get params) (sym (ap (λ (s : Setting). s.number) c.setting.view_is))
    ∙ c.in_ok-param.ensures in
    let p = err_from_is_err_and c.from_residual-in_err-value.result
    c.from_residual-in_err-value.ensures.1 in
    rw (p.1, p.2)
    (elim c.in_err-value.ensures.fault [
      | inl memory ↦ inl memory
      | inr failed ↦ inr
          (λ o done are. setting-value o params (length c.args.image.now) done s q _ named failed)
    ])

pub claim-requires-clause-number : goal.claim-requires-clause-number
claim-requires-clause-number c =
    omega (
      arith,
      c.requires.number,
      c.requires.named,
      ap (λ (s : Setting). s.number) c.setting.view_is,
    )

pub claim-requires-clause-width : goal.claim-requires-clause-width
claim-requires-clause-width c = c.in_ok-value.ensures.small

pub returns-in_err-claim-clause-fault : goal.returns-in_err-claim-clause-fault
returns-in_err-claim-clause-fault c =
    let params = parameters_of c.args.params.now in
    let s = c.args.setting.now in
    let q = c.in_ok-param.param in
    let v = c.in_ok-value.value in
    let number : c.setting.inside.number ≡ s.number
    = ap (λ (s : Setting). s.number) c.setting.view_is in
    let named : slice_get params s.number ≡ Some q
    = ap (slice_get params) (sym number) ∙ c.in_ok-param.ensures in
    let p
    = err_from_is_err_and c.from_residual-in_err-claim.result
    c.from_residual-in_err-claim.ensures.1 in
    rw (p.1, p.2)
    (elim c.in_err-claim.ensures.fault [
      | inl memory ↦ inl memory
      | inr place ↦
          inr (λ o done are.
          setting-place o params (length c.args.image.now) done s q named
          (value-passed v q s c.in_ok-value.ensures.value)
          (misplaced-as o params (length c.args.claims.now.taken.items) (length c.args.image.now)
          done c.setting.inside.number s.number q true c.requires.taken number
          (place.1 o params done are (ap (slice_get params) number ∙ named)
          (value-width v q s c.in_ok-value.ensures.value)))
          ∙ ap Some (sym place.0))
    ])

pub copy_in-requires : goal.copy_in-requires
copy_in-requires c =
    let place : c.param.inside.at ≡ c.in_ok-param.param.at
    = ap (λ (p : Parameter). p.at) c.param.view_is in
    omega (
      arith,
      place,
      c.in_ok-claim.ensures.inside,
      c.requires.taken,
      length-take c.in_ok-value.value.width c.to_le_bytes-bytes.result,
    )

pub returns-clause-same : goal.returns-clause-same
returns-clause-same c = c.in_ok-claim.ensures.same

pub returns-clause-count : goal.returns-clause-count
returns-clause-count c = c.in_ok-claim.ensures.count

pub returns-clause-bytes : goal.returns-clause-bytes
returns-clause-bytes c =
    let params = parameters_of c.args.params.now in
    let s = c.args.setting.now in
    let q = c.in_ok-param.param in
    let v = c.in_ok-value.value in
    let named : slice_get params s.number ≡ Some q
    = ap (slice_get params) (sym (ap (λ (s : Setting). s.number) c.setting.view_is))
    ∙ c.in_ok-param.ensures in
    let place : c.param.inside.at ≡ q.at = ap (λ (p : Parameter). p.at) c.param.view_is in
    let bytes : (piece params s).bytes ≡ take v.width c.to_le_bytes-bytes.result =
    piece-bytes params q s named ∙ value-bytes v q s c.in_ok-value.ensures.value
    ∙ ap (take v.width) (sym c.to_le_bytes-bytes.ensures) in
    put-as c.args.image.now _ c.param.inside.at (piece params s).at
    (take v.width c.to_le_bytes-bytes.result) (piece params s).bytes c.copy_in.ensures.bytes
    (place ∙ sym (piece-at params q s named)) (sym bytes)

pub returns-clause-inside : goal.returns-clause-inside
returns-clause-inside c =
    let params = parameters_of c.args.params.now in
    let s = c.args.setting.now in
    let q = c.in_ok-param.param in
    let v = c.in_ok-value.value in
    let named : slice_get params s.number ≡ Some q
    = ap (slice_get params) (sym (ap (λ (s : Setting). s.number) c.setting.view_is))
    ∙ c.in_ok-param.ensures in
    let bytes : (piece params s).bytes ≡ take v.width (to_le_bytes w64 v.number)
    = piece-bytes params q s named ∙ value-bytes v q s c.in_ok-value.ensures.value in
    let long : length (piece params s).bytes ≤ v.width
    = omega (arith, ap length bytes, length-take v.width (to_le_bytes w64 v.number)) in
    omega (arith, piece-at params q s named, long, c.in_ok-claim.ensures.inside, c.requires.taken)

pub returns-clause-claims : goal.returns-clause-claims
returns-clause-claims c = λ o done are.
    let params = parameters_of c.args.params.now in
    let s = c.args.setting.now in
    let q = c.in_ok-param.param in
    let number : c.setting.inside.number ≡ s.number
    = ap (λ (s : Setting). s.number) c.setting.view_is in
    let named : slice_get params s.number ≡ Some q
    = ap (slice_get params) (sym number) ∙ c.in_ok-param.ensures in
    (c.in_ok-claim.ensures.claims o params done s are (ap (slice_get params) number ∙ named)
    (value-width c.in_ok-value.value q s c.in_ok-value.ensures.value) (sym number)).1

pub returns-clause-passed : goal.returns-clause-passed
returns-clause-passed c = λ o done are.
    let params = parameters_of c.args.params.now in
    let s = c.args.setting.now in
    let q = c.in_ok-param.param in
    let v = c.in_ok-value.value in
    let number : c.setting.inside.number ≡ s.number
    = ap (λ (s : Setting). s.number) c.setting.view_is in
    let named : slice_get params s.number ≡ Some q
    = ap (slice_get params) (sym number) ∙ c.in_ok-param.ensures in
    setting-passed o params (length c.args.image.now) done s q named
    (value-passed v q s c.in_ok-value.ensures.value)
    (misplaced-as o params (length c.args.claims.now.taken.items) (length c.args.image.now) done
    c.setting.inside.number s.number q false c.requires.taken number
    (c.in_ok-claim.ensures.claims o params done s are (ap (slice_get params) number ∙ named)
    (value-width v q s c.in_ok-value.ensures.value) (sym number)).0)
