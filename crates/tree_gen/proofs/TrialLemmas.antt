-- The made tree of a trial: what is drawn, and that each module has a sheet.
use Rattle.std.proofs.Common.{◌≡◌, ℕ, zero, suc, ◌+◌, ◌-◌, ◌*◌, ◌/◌, ◌%◌, ◌^◌, ◌<◌, ◌==◌, ◌≢◌, All}
use Rattle.std.proofs.Common.{true, false, not, nat_le, List, [], ◌∷◌, ◌++◌, length, get_or, codes}
use Rattle.std.proofs.Common.{fold, refl, sym, ap, ◌∙◌, arith, add-zero, add-one}
use Rattle.std.proofs.Math.Nat.{mod-add-mod}
use Rattle.std.proofs.lemmas.Bool.{ne_eqb, false_from_ne_true, cond_both, eqb-false}
use Rattle.std.proofs.lemmas.Cmp.{nat_list_eq_equiv}
use Rattle.std.proofs.lemmas.List.Elements.{All-nil, All-cons}
use Rattle.std.proofs.lemmas.List.Sums.{fold-append}
use Rattle.std.proofs.lemmas.Nat.{mod_below}
use Rattle.std.proofs.lemmas.Slice.Eq.{bytes_eq-Decides}
use Rattle.std.specs.List.{list_any, range_with_len}
use Rattle.std.specs.Str.{bytes_eq}
use Rattle.sheet_object.specs.Sheet.{is_text, is_sheet, are_few, are_texts, are_known, no_more}
use Rattle.tree_gen.specs.Trial.{next, after, draw, drawn, without_twin, start_of, digit}
use Rattle.tree_gen.specs.Trial.{four_digits, name_of, symbol_name, module_sheet, with_module}
use Rattle.tree_gen.specs.Trial.{kernel_contents, trial_contents}

-- the next number, where product and sum are cut to 64 bits one after the other
pub next_wraps : (x : ℕ)
    → ((x * 6364136223846793005) % 2 ^ 64 + 1442695040888963407) % 2 ^ 64 ≡ next x
unfolding next
next_wraps x = mod-add-mod (x * 6364136223846793005) (2 ^ 64) 1442695040888963407

-- the number after which the next module draws
pub start_more : (seed m x : ℕ) → 0 < m → x ≡ start_of seed m
    → next (next x) ≡ start_of seed (m + 1)
start_more seed m x some is =
    let twice : 2 * (m + 1 - 1) ≡ suc (suc (2 * (m - 1)))
    = omega arith in rw twice (ap (λ y. next (next y)) is)

-- the first module draws nothing
pub start_first : (seed m x : ℕ) → m ≡ 0 → x ≡ start_of seed m → x ≡ start_of seed (m + 1)
start_first seed zero x first is = is
start_first seed (suc m) x first is = absurd (omega arith)

digit-no_nul : (n : ℕ) → (digit n == 0) ≡ false
digit-no_nul n = ne_eqb (digit n) 0 (λ e. omega arith)

digits-no_nul : (i : ℕ) → list_any (λ b. b == 0) (four_digits i) ≡ false
digits-no_nul i = simp digit-no_nul

symbol-text : (i : ℕ) → is_text (symbol_name i) ≡ true
unfolding is_text symbol_name
symbol-text i = ap not (digits-no_nul i)

symbol-short : (i : ℕ) → nat_le (length (symbol_name i)) 55 ≡ true
unfolding symbol_name
symbol-short i = refl

printk-text : is_text (codes "printk") ≡ true
unfolding is_text
printk-text = refl

license-text : is_text (codes "license=GPL") ≡ true
unfolding is_text
license-text = refl

alias-text : (i : ℕ) → is_text (codes "alias=trial:" ++ name_of i) ≡ true
unfolding is_text
alias-text i = ap not (digits-no_nul i)

-- a number below 10,000 by its digits
same-number : (a b : ℕ) → a < 10000 → b < 10000 → symbol_name a ≡ symbol_name b → a ≡ b
unfolding symbol_name
same-number a b small-a small-b same =
    let thousands : digit (a / 1000) ≡ digit (b / 1000) = ap (λ l. get_or l 1 0) same in
    let hundreds : digit (a / 100) ≡ digit (b / 100) = ap (λ l. get_or l 2 0) same in
    let tens : digit (a / 10) ≡ digit (b / 10) = ap (λ l. get_or l 3 0) same in
    let ones : digit a ≡ digit b = ap (λ l. get_or l 4 0) same in
    omega arith

other-symbol : (a b : ℕ) → a < 10000 → b < 10000 → (a ≡ b → ⊥)
    → bytes_eq (symbol_name a) (symbol_name b) ≡ false
other-symbol a b small-a small-b other =
    false_from_ne_true (bytes_eq (symbol_name a) (symbol_name b))
    (λ e. other (same-number a b small-a small-b
    ((bytes_eq-Decides (symbol_name a) (symbol_name b)).0 e)))

same-symbol : (a : ℕ) → bytes_eq (symbol_name a) (symbol_name a) ≡ true
same-symbol a = nat_list_eq_equiv.refl (symbol_name a)

symbol-no_printk : (a : ℕ) → bytes_eq (symbol_name a) (codes "printk") ≡ false
unfolding symbol_name
symbol-no_printk a = refl

printk-no_symbol : (a : ℕ) → bytes_eq (codes "printk") (symbol_name a) ≡ false
unfolding symbol_name
printk-no_symbol a = refl

sheet-none : (i : ℕ) → is_sheet (module_sheet i []) no_more ≡ true
unfolding is_sheet are_few are_texts are_known module_sheet
sheet-none i =
    simp (license-text, alias-text, printk-text, symbol-text, symbol-no_printk, printk-no_symbol)

sheet-one : (i a : ℕ) → i < 10000 → a < i → is_sheet (module_sheet i (a ∷ [])) no_more ≡ true
unfolding is_sheet are_few are_texts are_known module_sheet
sheet-one i a small less =
    let ia = other-symbol i a small (omega arith) (λ e. omega arith) in
    let ai = other-symbol a i (omega arith) small (λ e. omega arith) in
    simp (
      license-text,
      alias-text,
      printk-text,
      symbol-text,
      symbol-short,
      symbol-no_printk,
      printk-no_symbol,
      same-symbol,
      ia,
      ai,
    )

sheet-two : (i a b : ℕ) → i < 10000 → a < i → b < i → (a ≡ b → ⊥)
    → is_sheet (module_sheet i (a ∷ b ∷ [])) no_more ≡ true
unfolding is_sheet are_few are_texts are_known module_sheet
sheet-two i a b small less-a less-b other =
    let ia = other-symbol i a small (omega arith) (λ e. omega arith) in
    let ai = other-symbol a i (omega arith) small (λ e. omega arith) in
    let ib = other-symbol i b small (omega arith) (λ e. omega arith) in
    let bi = other-symbol b i (omega arith) small (λ e. omega arith) in
    let ab = other-symbol a b (omega arith) (omega arith) other in
    let ba = other-symbol b a (omega arith) (omega arith) (λ e. other (sym e)) in
    simp (
      license-text,
      alias-text,
      printk-text,
      symbol-text,
      symbol-short,
      symbol-no_printk,
      printk-no_symbol,
      same-symbol,
      ia,
      ai,
      ib,
      bi,
      ab,
      ba,
    )

-- what holds of no module, of one and of two before it, holds of what a module draws
drawn_by : (P : List ℕ → Type 0) (i x : ℕ) → P [] → ((a : ℕ) → a < i → P (a ∷ []))
    → ((a b : ℕ) → a < i → b < i → (a ≡ b → ⊥) → P (a ∷ b ∷ []))
    → P (drawn i x)
unfolding drawn
drawn_by P i x none one two =
    let a : ℕ = draw i (after 1 x) in
    let b : ℕ = draw i (after 2 x) in
    cond_both (i == 0) [] (without_twin a b) P
    (λ _. none)
    (λ e.
    let some : i ≢ 0 = eqb-false i 0 e in
    let less-a : a < i = mod_below (after 1 x / 2 ^ 33) i (omega arith) in
    let less-b : b < i = mod_below (after 2 x / 2 ^ 33) i (omega arith) in
    cond_both (a == b) (a ∷ []) (a ∷ b ∷ []) P (λ _. one a less-a)
    (λ d. two a b less-a less-b (eqb-false a b d)))

-- each module that is made has a sheet
pub is_sheet_made : (i x : ℕ) → i < 10000 → is_sheet (module_sheet i (drawn i x)) no_more ≡ true
is_sheet_made i x small =
    drawn_by (λ l. is_sheet (module_sheet i l) no_more ≡ true) i x (sheet-none i)
    (λ a. sheet-one i a small) (λ a b. sheet-two i a b small)

-- what a module draws stands before it
pub drawn_before : (i x : ℕ) → All (λ k. k < i) (drawn i x)
drawn_before i x =
    let Before : ℕ → Type 0 = λ k. k < i in
    drawn_by (All Before) i x (All-nil Before)
    (λ a less. All-cons Before a [] less (All-nil Before))
    (λ a b less-a less-b _. All-cons Before a (b ∷ []) less-a
    (All-cons Before b [] less-b (All-nil Before)))

range-more : (a n : ℕ) → range_with_len a (suc n) ≡ range_with_len a n ++ (a + n) ∷ []
range-more a zero = ap (λ k. k ∷ []) (sym (add-zero a))
range-more a (suc n) =
    let next : a + 1 + n ≡ a + suc n
    = omega arith in ap (λ l. a ∷ l)
    (range-more (a + 1) n ∙ ap (λ k. range_with_len (a + 1) n ++ k ∷ []) next)

-- the tree with a module more
pub trial_more : (seed n : ℕ)
    → trial_contents seed (n + 1) ≡ with_module seed (trial_contents seed n) n
unfolding trial_contents
trial_more seed n =
    let last : 0 + n ≡ n = omega arith in
    ap (λ k. fold (with_module seed) kernel_contents (range_with_len 0 k)) (add-one n)
    ∙ ap (fold (with_module seed) kernel_contents)
    (range-more 0 n ∙ ap (λ k. range_with_len 0 n ++ k ∷ []) last)
    ∙ fold-append (with_module seed) kernel_contents (range_with_len 0 n) (n ∷ [])
