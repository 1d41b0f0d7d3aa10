use Rattle.std.proofs.Common.{◌≡◌, ◌≤◌, ◌<◌, ◌+◌, ◌∙◌, ◌⊎◌, inl, inr, ℕ, Bool, List, true, false}
use Rattle.std.proofs.Common.{refl, sym, ap, arith, length, get_or}
use Rattle.std.specs.Prelude.{◌||◌, ◌==◌}
use Rattle.std.proofs.Math.ListN.{set}
use Rattle.std.proofs.Common.{get_or-set_other, get_or-set_same}
use Rattle.std.proofs.lemmas.List.{get_or_read, length-set}
use Rattle.std.proofs.lemmas.Bool.{cases_eq, eq-eqb, ne_eqb, or_right}
use Rattle.elf_object.specs.Object.{FileObject}
use Rattle.param_apply.specs.declared.claims.Claims.{Claims}
use Rattle.param_apply.specs.Applied.{is_named}
use Rattle.param_apply.specs.Places.{is_among, is_misplaced, value_width}
use Rattle.param_apply.specs.Words.{Parameter, Setting}
use Rattle.param_apply.specs.Writing.{AreClaims}
use Rattle.param_apply.proofs.ClaimLemmas.{claims-more, free-placed, misplaced-past}
use Rattle.param_apply.proofs.ClaimLemmas.{taken-misplaced, taken-named}
use Rattle.param_apply.proofs.claims.Claims.claim.Goals as goal

or-none : (b : Bool) → b ≡ (b || false)
or-none true = refl
or-none false = refl

-- A flag that is set already.
set-before : (flags : List Bool) (e k : ℕ) → get_or flags e false ≡ true
    → get_or flags k false ≡ (get_or flags k false || (e == k))
set-before flags e k is =
    elim (cases_eq e k) [
      | inl same ↦ let here : get_or flags k false ≡ true
          = ap (λ n. get_or flags n false) (sym same) ∙ is in here
          ∙ sym (or_right _ _ (eq-eqb e k same))
      | inr other ↦ or-none (get_or flags k false)
          ∙ ap (λ b. get_or flags k false || b) (sym (ne_eqb e k other))
    ]

-- A flag that is set now.
set-now : (flags : List Bool) (e k : ℕ) → e < length flags
    → get_or (set flags e true) k false ≡ (get_or flags k false || (e == k))
set-now flags e k inside =
    elim (cases_eq e k) [
      | inl same ↦
          ap (λ n. get_or (set flags e true) n false) (sym same)
          ∙ get_or-set_same flags e true false inside
          ∙ sym (or_right _ _ (eq-eqb e k same))
      | inr other ↦
          get_or-set_other flags e k true false (λ is. other (sym is))
          ∙ or-none (get_or flags k false)
          ∙ ap (λ b. get_or flags k false || b) (sym (ne_eqb e k other))
    ]

-- A value of whose bytes one isn't free.
not-free : (c : Claims) (o : FileObject) (list : List Parameter) (done : List Setting) (e : ℕ)
    (p : Parameter) (at size : ℕ) (bytes : List Bool)
    → AreClaims c o list done → is_named done e ≡ false → at ≡ p.at → value_width p ≡ size
    → bytes ≡ c.taken.items → at + size ≤ length c.taken.items
    → (length bytes < at + size)
    ⊎ ((x : ℕ) × (at ≤ x) × (x < at + size) × (get_or bytes x false ≡ true))
    → is_misplaced o list (length c.taken.items) done e p ≡ true
not-free c o list done e p at size bytes are unnamed place width same fits either =
    elim either [
      | inl past ↦ absurd (omega (arith, ap length same))
      | inr here ↦
          taken-misplaced c o list done e p here.0 are unnamed (omega (arith, here.1))
          (omega (arith, here.2)) (omega (arith, here.2))
          (ap (λ (bs : List Bool). get_or bs here.0 false) (sym same) ∙ here.3)
    ]

-- A value whose bytes are free.
free-from : (c : Claims) (o : FileObject) (list : List Parameter) (done : List Setting) (e : ℕ)
    (p : Parameter) (at size : ℕ) (bytes : List Bool)
    → AreClaims c o list done → is_named done e ≡ false → at ≡ p.at → value_width p ≡ size
    → bytes ≡ c.taken.items → at + size ≤ length c.taken.items
    → ((x : ℕ) → at ≤ x → x < at + size → get_or bytes x false ≡ false)
    → is_misplaced o list (length c.taken.items) done e p ≡ false
free-from c o list done e p at size bytes are unnamed place width same fits free =
    free-placed c o list done e p are unnamed (omega arith)
    (λ x low high. ap (λ (bs : List Bool). get_or bs x false) (sym same)
    ∙ free x (omega arith) (omega arith))

marked-as : (new b : Bool) (at size x place width : ℕ) → new ≡ (b || is_among at size x)
    → at ≡ place → size ≡ width → new ≡ (b || is_among place width x)
marked-as new b at size x place width is e f = rw (← e, ← f) is

pub returns-then-len-from-clause-fault : goal.returns-then-len-from-clause-fault
returns-then-len-from-clause-fault c =
    let place : c.param.inside.at ≡ c.args.param.now.at
    = ap (λ (p : Parameter). p.at) c.param.view_is in
    elim c.bad_place.ensures [
      | inl memory ↦ inl memory
      | inr is ↦ inr (
        is,
        λ o list done are at width. misplaced-past o list (length c.args.self.now.taken.items)
            done c.args.number c.args.param.now (omega (arith, width, place)),
      )
    ]

pub returns-then-index-clause-claims : goal.returns-then-index-clause-claims
returns-then-index-clause-claims c = λ o list done s are is width number.
    let e = c.args.number in
    let p = c.args.param.now in
    let flags = c.args.self.now.named.items in
    let flag : get_or flags e false ≡ true
    = sym (get_or_read flags e c.index.result.now c.requires.number c.index.ensures false)
    ∙ c.if-index.true in
    let named : is_named done e ≡ true
    = sym (are.named e (omega (arith, are.count, c.requires.number))) ∙ flag in
    let placed = are.placed e p is named in (
      placed,
      claims-more c.args.self.now c.args.self.now o list done s e p are is number placed refl
          refl (λ x less. taken-named c.args.self.now o list done e p x are is named less)
          (λ k less. set-before flags e k flag),
    )

pub returns-then-not-are_free-clause-fault : goal.returns-then-not-are_free-clause-fault
returns-then-not-are_free-clause-fault c =
    let e = c.args.number in
    let flags = c.args.self.now.named.items in
    let place : c.param.inside.at ≡ c.args.param.now.at
    = ap (λ (p : Parameter). p.at) c.param.view_is in
    let flag : get_or flags e false ≡ false
    = sym (get_or_read flags e c.index.result.now c.requires.number c.index.ensures false)
    ∙ c.if-index.false in
    elim c.bad_place-then-not-are_free.ensures [
      | inl memory ↦ inl memory
      | inr is ↦
          inr (
            is,
            λ o list done are at width.
                not-free c.args.self.now o list done e c.args.param.now c.param.inside.at
                c.args.width c.deref.result.now are
                (sym (are.named e (omega (arith, are.count, c.requires.number))) ∙ flag) place width
                c.deref.ensures.value (omega arith)
                (c.are_free.ensures.taken c.if-not-are_free.true),
          )
    ]

pub returns-clause-claims : goal.returns-clause-claims
returns-clause-claims c = λ o list done s are is width number.
    let e = c.args.number in
    let p = c.args.param.now in
    let flags = c.args.self.now.named.items in
    let place : c.param.inside.at ≡ p.at = ap (λ (p : Parameter). p.at) c.param.view_is in
    let flag : get_or flags e false ≡ false
    = sym (get_or_read flags e c.index.result.now c.requires.number c.index.ensures false)
    ∙ c.if-index.false in
    let unnamed : is_named done e ≡ false
    = sym (are.named e (omega (arith, are.count, c.requires.number))) ∙ flag in
    let placed =
    free-from c.args.self.now o list done e p c.param.inside.at c.args.width c.deref.result.now are
    unnamed place width c.deref.ensures.value (omega arith)
    (c.are_free.ensures.free c.if-not-are_free.false) in (
      placed,
      claims-more c.args.self.now _ o list done s e p are is number placed c.mark.ensures.same
          (length-set flags e true)
          (λ x less. marked-as _ _ _ _ x p.at (value_width p) (c.mark.ensures.marked x less)
          (c.from-2.ensures ∙ place) (sym width))
          (λ k less. set-now flags e k c.requires.number),
    )
