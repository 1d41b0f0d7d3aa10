-- How often names are seen.
use Rattle.std.proofs.Common.{◌≡◌, ℕ, zero, suc, ◌+◌, ◌<◌, Bool, true, false, List, [], ◌∷◌, ◌++◌}
use Rattle.std.proofs.Common.{cond, length, take, get_or, Option, Some, is_some, refl, sym, ap, ◌∙◌}
use Rattle.std.proofs.Common.{add-zero, add-one, ltb, arith}
use Rattle.std.proofs.lemmas.Bool.{lt-ltb}
use Rattle.std.proofs.lemmas.List.{take_more}
use Rattle.std.proofs.lemmas.List.Sums.{sum_by_push}
use Rattle.std.specs.Str.{bytes_eq}
use Rattle.module_symbols.specs.declared.exports.Export.{Export}
use Rattle.module_facts.specs.declared.seen.Times.{Times}
use Rattle.module_facts.specs.declared.seen.Times.TheVariants.{Once, More}
use Rattle.module_facts.specs.Times.{is_repeated, seen, times}

-- with one export more
times-more : (exports : List Export) (i : ℕ) (e : Export) (name : List ℕ) → i < length exports
    → e ≡ get_or exports i e
    → times (take (i + 1) exports) name
    ≡ times (take i exports) name + cond (bytes_eq e.name name) 1 0
times-more exports i e name within is =
    ap (λ l. times l name)
    (take_more exports i e within ∙ ap (λ y. take i exports ++ y ∷ []) (sym is))
    ∙ sum_by_push (λ (x : Export). cond (bytes_eq x.name name) 1 0) (take i exports) e

seen-either : (same : Bool) (n : ℕ) (now : Times) (before : Option Times) → before ≡ seen n
    → (same ≡ true → Some now ≡ seen (n + 1))
    → cond same (Some now) before ≡ seen (n + cond same 1 0)
seen-either true n now before is next = next refl
seen-either false n now before is next = rw (add-zero n) is

-- what is put at the name of one export more
pub seen-more : (exports : List Export) (i : ℕ) (e : Export) (name : List ℕ) (now : Times)
    (before : Option Times)
    → i < length exports → e ≡ get_or exports i e → before ≡ seen (times (take i exports) name)
    → (bytes_eq e.name name ≡ true → Some now ≡ seen (times (take i exports) name + 1))
    → cond (bytes_eq e.name name) (Some now) before ≡ seen (times (take (i + 1) exports) name)
seen-more exports i e name now before within is old next =
    seen-either (bytes_eq e.name name) (times (take i exports) name) now before old next
    ∙ ap seen (sym (times-more exports i e name within is))

-- a name that was seen is seen twice
pub seen-again : (n : ℕ) → is_some (seen n) ≡ true → Some More ≡ seen (n + 1)
seen-again zero was = cc
seen-again (suc n) was = rw add-one refl

-- one that wasn't is seen once
pub seen-first : (n : ℕ) → is_some (seen n) ≡ false → Some Once ≡ seen (n + 1)
seen-first zero was = refl
seen-first (suc zero) was = cc
seen-first (suc (suc n)) was = cc

-- seen more than once
pub seen-twice : (n : ℕ) → is_repeated (seen n) ≡ ltb 1 n
seen-twice zero = refl
seen-twice (suc zero) = refl
seen-twice (suc (suc n)) = sym (lt-ltb 1 (suc (suc n)) (omega arith))
