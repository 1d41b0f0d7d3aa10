-- Flags that are set one after the other.
use Rattle.std.proofs.Common.{◌≡◌, ◌≤◌, ◌<◌, ◌+◌, ◌∙◌, inl, inr, ℕ, Bool, true, false, List, refl}
use Rattle.std.proofs.Common.{sym, ap, arith, length, get_or, min}
use Rattle.std.specs.Prelude.{nat_lt, nat_le, ◌&&◌, ◌||◌}
use Rattle.std.proofs.Math.ListN.{set}
use Rattle.std.proofs.lemmas.Bool.{cases_lt, cases_eq, le-leb, lt-leb, lt-ltb, le-ltb, and_left}
use Rattle.std.proofs.lemmas.Bool.{and_right, and_from, or_right}
use Rattle.std.proofs.Common.{get_or-set_other, get_or-set_same}
use Rattle.param_apply.specs.Places.{is_among}

-- Before the first flag is set.
pub mark-none : (b : Bool) (start y : ℕ) → b ≡ (b || (nat_le start y && nat_lt y start))
mark-none true start y = refl
mark-none false start y =
    elim (cases_lt y start) [
      | inl low ↦ sym (and_left _ _ (lt-leb start y low))
      | inr high ↦ sym (and_right _ _ (le-ltb y start high))
    ]

within-same : (start x y : ℕ) → (y ≡ x → ⊥) → nat_lt y x ≡ nat_lt y (x + 1)
within-same start x y other =
    elim (cases_lt y x) [
      | inl low ↦ lt-ltb y x low ∙ sym (lt-ltb y (x + 1) (omega arith))
      | inr high ↦ le-ltb y x high ∙ sym (le-ltb y (x + 1) (omega arith))
    ]

-- One flag more.
pub mark-more : (xs : List Bool) (b : Bool) (start x y : ℕ) → start ≤ x → x < length xs
    → get_or xs y false ≡ (b || (nat_le start y && nat_lt y x))
    → get_or (set xs x true) y false ≡ (b || (nat_le start y && nat_lt y (x + 1)))
mark-more xs b start x y from inside before =
    elim (cases_eq y x) [
      | inl here ↦
          ap (λ k. get_or (set xs x true) k false) here ∙ get_or-set_same xs x true false inside
          ∙ sym (or_right b _
          (and_from _ _ (le-leb start y (omega arith)) (lt-ltb y (x + 1) (omega arith))))
      | inr other ↦ get_or-set_other xs x y true false other ∙ before
          ∙ ap (λ t. b || (nat_le start y && t)) (within-same start x y other)
    ]

-- After the last.
pub mark-all : (at size len y start end : ℕ) → y < len → start ≡ min at len
    → end ≡ min (at + size) len → (nat_le start y && nat_lt y end) ≡ is_among at size y
mark-all at size len y start end inside first last =
    elim (cases_lt y at) [
      | inl low ↦ and_left _ _ (lt-leb start y (omega arith)) ∙ sym (and_left _ _ (lt-leb at y low))
      | inr high ↦
          elim (cases_lt y (at + size)) [
            | inl under ↦
                and_from _ _ (le-leb start y (omega arith)) (lt-ltb y end (omega arith))
                ∙ sym (and_from _ _ (le-leb at y high) (lt-ltb y (at + size) under))
            | inr over ↦ and_right _ _ (le-ltb y end (omega arith))
                ∙ sym (and_right _ _ (le-ltb y (at + size) over))
          ]
    ]
