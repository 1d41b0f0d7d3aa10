use Rattle.std.proofs.Common.{◌≢◌, sym, ap, ◌∙◌, suc, ◌*◌, ◌&&◌, ◌∷◌, length, slice_index, arith}
use Rattle.std.proofs.Common.{rules}
use Rattle.glob_pattern.specs.Pattern.{star, question}
use Rattle.glob_match.specs.Words.{is_between}
use Rattle.glob_match.specs.Ends.{is_end}
use Rattle.glob_match.proofs.ReadLemmas.{same_bits}
use Rattle.glob_match.proofs.EndLemmas.{star_before, question_before, byte_before, no_end_past}
use Rattle.glob_match.proofs.backward.take_byte.Goals as goal

pub returns-in-42 : goal.returns-in-42
returns-in-42 c text pattern t h =
    rw (c.in-42.is)
    (c.fill_down.ensures (is_end pattern text) (is_end (star ∷ pattern) text) h
    (star_before pattern text)
    (no_end_past (star ∷ pattern) text (length c.args.ends.now)
    (omega (arith, c.requires.ends, t.size_is)) (64 * length c.args.ends.now)
    (omega arith)))

pub returns-in-63 : goal.returns-in-63
returns-in-63 c text pattern t h =
    rw (c.in-63.is)
    (same_bits c.shift_down.new.words (λ n. is_end pattern text (suc n))
    (is_end (question ∷ pattern) text) (λ n. sym (question_before pattern text n))
    (c.shift_down.ensures (is_end pattern text) h
    (no_end_past pattern text _ (omega (arith, c.requires.ends, t.size_is)))))

pub returns-in_default : goal.returns-in_default
returns-in_default c text pattern t h =
    let byte = c.args.byte in
    let other : byte ≢ star = search rules in
    let another : byte ≢ question = search rules in
    same_bits c.keep_range.new.words
    (λ n. is_end pattern text (suc n) && is_between byte byte (slice_index c.args.bytes.now n))
    (is_end (byte ∷ pattern) text)
    (λ n. ap (λ x. is_end pattern text (suc n) && is_between byte byte x) (t.same n)
    ∙ sym (byte_before byte pattern text n other another c.requires.byte))
    (c.keep_range.ensures (λ n. is_end pattern text (suc n))
    (c.shift_down-in_default.ensures (is_end pattern text) h
    (no_end_past pattern text _ (omega (arith, c.requires.ends, t.size_is)))))
