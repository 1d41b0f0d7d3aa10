-- What a reader gave, read by read, into a buffer whose filled part grows.
use Rattle.std.proofs.Common.{◌≡◌, ℕ, ◌+◌, ◌≤◌, ◌⊎◌, List, ◌++◌, length, take, drop, Option, Some}
use Rattle.std.proofs.Common.{None, IfSome, sym, ap, subst, inl, inr, ◌∙◌, append-nil, take_all}
use Rattle.std.proofs.lemmas.List.{take_at}
use Rattle.std.proofs.Math.Seq.{take-add}
use Rattle.std.specs.Io.KnownBytes.{Consumes, IsAtEnd}
use Rattle.std.proofs.KnownBytes.{Consumes-trans}

-- One more read is added to the filled part.
pub read_added : (a b c : Option (List ℕ)) (old new : List ℕ) (filled n : ℕ)
    → Consumes a b (take filled old) → take filled new ≡ take filled old
    → Consumes b c (take n (drop filled new)) → Consumes a c (take (filled + n) new)
read_added a b c old new filled n before front read =
    subst (Consumes a c) (sym (take-add filled n new))
    (Consumes-trans a b c _ _ (subst (Consumes a b) (sym front) before) read)

-- What was read up to a limit, or up to the end, is what was left up to that limit.
pub read_whole : (a b : Option (List ℕ)) (bs : List ℕ) (most : ℕ) → Consumes a b bs
    → length bs ≤ most → (length bs ≡ most) ⊎ IsAtEnd b → IfSome a (λ left. bs ≡ take most left)
read_whole None b bs most read within end = tt
read_whole (Some xs) None bs most read within end = absurd read
read_whole (Some xs) (Some ys) bs most read within (inl full) =
    sym (ap (take most) read ∙ take_at bs ys most full)
read_whole (Some xs) (Some ys) bs most read within (inr end) =
    sym (ap (take most) (read ∙ ap (λ l. bs ++ l) end ∙ append-nil bs) ∙ take_all most bs within)
