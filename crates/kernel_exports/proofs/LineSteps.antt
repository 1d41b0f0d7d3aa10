-- The lines of a table, one after the other.
use Rattle.std.proofs.Common.{◌≡◌, ℕ, ◌+◌, Bool, true, false, ◌&&◌, not, List, [], ◌∷◌, ◌++◌}
use Rattle.std.proofs.Common.{length, cond, Option, Some, None, option_map, refl, sym, ap, ◌∙◌}
use Rattle.std.proofs.Common.{append_assoc, length-append, ◌<◌, ◌≤◌, arith}
use Rattle.std.proofs.lemmas.Iterator.Adapters.{position_from-zero}
use Rattle.std.specs.List.{cons_option, position_from, filter_map}
use Rattle.std.specs.Option.{is_none}
use Rattle.std.specs.Result.{result_err}
use Rattle.km_names.specs.Lines.{lines_of}
use Rattle.km_names.specs.Statements.{unless_fault}
use Rattle.kernel_exports.specs.TableLines.{is_blank, is_refused, refused_line, stated}

-- the number of the first of some lines that is refused, of which the first line has a number
pub refused_from : {X : Type 0} → (List ℕ → Option X) → ℕ → List (List ℕ) → Option ℕ
refused_from read number lines = position_from (is_refused read) number lines

counted : (p : List ℕ → Bool) (k : ℕ) (xs : List (List ℕ))
    → position_from p (k + 1) xs ≡ option_map (λ i. i + 1) (position_from p k xs)
counted p k [] = refl
counted p k (x ∷ xs) =
    elim (p x) as
    (λ b. cond b (Some (k + 1)) (position_from p (k + 1 + 1) xs)
    ≡ option_map (λ i. i + 1) (cond b (Some k) (position_from p (k + 1) xs))) [
      | true ↦ refl
      | false ↦ counted p (k + 1) xs
    ]

-- the number of a table is that of its lines from 1
pub refused-begins : {X : Type 0} (read : List ℕ → Option X) (bytes : List ℕ)
    → refused_from read 1 (lines_of bytes) ≡ refused_line read bytes
unfolding refused_line refused_from
refused-begins read bytes =
    let lines = lines_of bytes in
    counted (is_refused read) 0 lines
    ∙ ap (option_map (λ i. i + 1)) (sym (position_from-zero (is_refused read) lines))

-- of no lines none is refused
pub refused-none : {X : Type 0} (read : List ℕ → Option X) (number : ℕ)
    → refused_from read number [] ≡ None
unfolding refused_from
refused-none read number = refl

-- a line that isn't refused
pub refused-passed : {X : Type 0} (read : List ℕ → Option X) (number : ℕ) (line : List ℕ)
    (lines : List (List ℕ))
    → is_refused read line ≡ false
    → refused_from read number (line ∷ lines) ≡ refused_from read (number + 1) lines
unfolding refused_from
refused-passed read number line lines passed =
    ap (λ b. cond b (Some number) (position_from (is_refused read) (number + 1) lines)) passed

-- a line that is
pub refused-here : {X : Type 0} (read : List ℕ → Option X) (number : ℕ) (line : List ℕ)
    (lines : List (List ℕ))
    → is_refused read line ≡ true → refused_from read number (line ∷ lines) ≡ Some number
unfolding refused_from
refused-here read number line lines refused =
    ap (λ b. cond b (Some number) (position_from (is_refused read) (number + 1) lines)) refused

-- the refusal of what is stated unless a line is refused
pub refusal_of : {X F : Type 0} (o : Option F) (x : X) → result_err (unless_fault o x) ≡ o
refusal_of None x = refl
refusal_of (Some fault) x = refl

closed : (b : Bool) → (b && false) ≡ false
closed true = refl
closed false = refl

-- a line that is read isn't refused
pub read-passed : {X : Type 0} (read : List ℕ → Option X) (line : List ℕ) (x : X)
    → Some x ≡ read line → is_refused read line ≡ false
read-passed read line x is =
    ap (λ o. not (is_blank line) && is_none o) (sym is) ∙ closed (not (is_blank line))

-- nor is a blank one
pub blank-passed : {X : Type 0} (read : List ℕ → Option X) (line : List ℕ) → is_blank line ≡ true
    → is_refused read line ≡ false
blank-passed read line blank = ap (λ b. not b && is_none (read line)) blank

-- any other is refused where it isn't read
pub unread-refused : {X : Type 0} (read : List ℕ → Option X) (line : List ℕ) → None ≡ read line
    → is_blank line ≡ false → is_refused read line ≡ true
unread-refused read line is some = ap (λ b. not b && is_none (read line)) some ∙ ap is_none (sym is)

-- what a table states, from its lines on
pub stated-begins : {X : Type 0} (read : List ℕ → Option X) (bytes : List ℕ)
    → filter_map read (lines_of bytes) ≡ stated read bytes
unfolding stated
stated-begins read bytes = refl

-- a line that states something
pub stated-more : {X : Type 0} (read : List ℕ → Option X) (done : List X) (line : List ℕ)
    (lines : List (List ℕ)) (x : X)
    → Some x ≡ read line
    → (done ++ x ∷ []) ++ filter_map read lines ≡ done ++ filter_map read (line ∷ lines)
stated-more read done line lines x is =
    append_assoc done (x ∷ []) (filter_map read lines)
    ∙ ap (λ o. done ++ cons_option o (filter_map read lines)) is

-- a line that states nothing
pub stated-same : {X : Type 0} (read : List ℕ → Option X) (line : List ℕ) (lines : List (List ℕ))
    → None ≡ read line → filter_map read lines ≡ filter_map read (line ∷ lines)
stated-same read line lines is = ap (λ o. cons_option o (filter_map read lines)) is

-- an empty text has no line
pub no-lines : (bytes : List ℕ) → length bytes ≡ 0 → lines_of bytes ≡ []
unfolding lines_of
no-lines [] is = refl
no-lines (b ∷ bs) is = absurd (omega arith)

-- a line takes a byte at the least, and states one thing at the most
pub room-more : {X : Type 0} (items items' : List X) (x : X) (next rest n : ℕ)
    → items' ≡ items ++ x ∷ [] → next < rest → length items + rest ≤ n → length items' + next ≤ n
room-more items items' x next rest n is shorter room =
    omega (arith, ap length is, length-append items (x ∷ []))

pub room-same : {X : Type 0} (items items' : List X) (next rest n : ℕ) → items' ≡ items
    → next < rest → length items + rest ≤ n → length items' + next ≤ n
room-same items items' next rest n is shorter room = omega (arith, ap length is)
