-- One write after another.
use Rattle.std.proofs.Common.{◌≡◌, ℕ, ◌+◌, ◌<◌, List, [], ◌∷◌, ◌++◌, take, length, refl, sym, ◌∙◌}
use Rattle.std.proofs.Common.{ap, subst, arith, append_assoc, length-append}
use Rattle.std.proofs.Math.Seq.{take-append-add}
use Rattle.std.proofs.lemmas.List.{take-append-le}
use Rattle.std.specs.Prelude.{codes}
use Rattle.km_course.specs.Lines.{too_large}
use Rattle.std.specs.Prelude.{Option, Some, None, Result, Ok, Err, IfSome, ⊤}
use Rattle.std.specs.Option.{option_map}
use Rattle.outside_calls.specs.OutSeen.{OutSeen, WriteAnswers, appended, failed}
use Rattle.outside_calls.specs.declared.out.OutFailed.{OutFailed}

told-twice : (told : Option (List ℕ)) (a b : List ℕ)
    → option_map (λ bytes. bytes ++ b) (option_map (λ bytes. bytes ++ a) told)
    ≡ option_map (λ bytes. bytes ++ (a ++ b)) told
told-twice None a b = refl
told-twice (Some bytes) a b = ap Some (append_assoc bytes a b)

appended-twice : (out : OutSeen) (a b : List ℕ)
    → appended (appended out a) b ≡ appended out (a ++ b)
appended-twice out a b = ap (λ t. record out { told = t }) (told-twice out.told a b)

lacks_on : (told : Option (List ℕ)) (room : Option ℕ) (a b : List ℕ)
    → IfSome (option_map (λ bytes. bytes ++ a) told)
    (λ bytes. IfSome room (λ n. n < length bytes + length b))
    → IfSome told (λ bytes. IfSome room (λ n. n < length bytes + length (a ++ b)))
lacks_on None room a b h = h
lacks_on (Some bytes) None a b h = h
lacks_on (Some bytes) (Some n) a b h = omega (arith, length-append bytes a, length-append a b)

-- a piece was written, and then a second one was written or failed
pub writes_on : (a b : List ℕ) (old mid new : OutSeen) (r : Result ⊤ OutFailed)
    → WriteAnswers a old mid (Ok tt) → WriteAnswers b mid new r → WriteAnswers (a ++ b) old new r
writes_on a b old mid new r h k = onto r (subst (λ m. WriteAnswers b m new r) h.0 k)
  where
    onto : (r : Result ⊤ OutFailed) → WriteAnswers b (appended old a) new r
        → WriteAnswers (a ++ b) old new r
    onto (Ok _) k = (k.0 ∙ appended-twice old a b, k.1)
    onto (Err e) k = (
      (
        length a + k.0.0,
        omega (arith, length-append a b, k.0.1),
        k.0.2 ∙ ap failed (appended-twice old a (take k.0.0 b))
            ∙ ap (λ piece. failed (appended old piece)) (sym (take-append-add a b k.0.0)),
      ),
      k.1,
      lacks_on old.told old.room a b k.2,
    )

-- a piece failed, so it and what was to follow failed
pub writes_cut : (a b : List ℕ) (old new : OutSeen) (e : OutFailed) → WriteAnswers a old new (Err e)
    → WriteAnswers (a ++ b) old new (Err e)
writes_cut a b old new e k =
    let same : take k.0.0 (a ++ b) ≡ take k.0.0 a = take-append-le k.0.0 a b k.0.1 in (
      (
        k.0.0,
        omega (arith, length-append a b, k.0.1),
        k.0.2 ∙ ap (λ piece. failed (appended old piece)) (sym same),
      ),
      k.1,
      lacks_more old.told old.room a b k.2,
    )
  where
    lacks_more : (told : Option (List ℕ)) (room : Option ℕ) (a b : List ℕ)
        → IfSome told (λ bytes. IfSome room (λ n. n < length bytes + length a))
        → IfSome told (λ bytes. IfSome room (λ n. n < length bytes + length (a ++ b)))
    lacks_more None room a b h = h
    lacks_more (Some bytes) None a b h = h
    lacks_more (Some bytes) (Some n) a b h = omega (arith, length-append a b)

-- the pieces of the line on a file past the limit
pub too_large-pieces : (path : List ℕ)
    → (codes "kmod: " ++ path) ++ codes ": too large\n" ≡ too_large path
too_large-pieces path =
    append_assoc (codes "kmod: ") path (codes ": too large\n")
    ∙ sym (append_assoc (codes "kmod: ") (path ++ codes ": too large") (10 ∷ [])
    ∙ ap (λ l. codes "kmod: " ++ l) (append_assoc path (codes ": too large") (10 ∷ [])))
