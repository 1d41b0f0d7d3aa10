use Rattle.std.proofs.Common.{sym, arith, ◌<◌, ◌^◌}
use Rattle.std.proofs.lemmas.Int.{ints}
use Rattle.x86_relocate.proofs.Words.{fits_sign_extended, low_sign_extended, high_sign_extended}
use Rattle.x86_relocate.proofs.word.signed_four.Goals as goal
use Rattle.x86_relocate.proofs.word.signed_four.Goals.{then-signed-lt-LEAST-via-then-signed-lt-LEAST}
use Rattle.x86_relocate.proofs.word.signed_four.Goals.{then-signed-lt-LEAST-via-else-signed-lt-LEAST+then-signed-gt-GREATEST}

pub returns-then-signed-lt-LEAST : goal.returns-then-signed-lt-LEAST
returns-then-signed-lt-LEAST c =
    let v = c.args.value in
    let small : v < 2 ^ 64 = omega arith in
    elim c.then-signed-lt-LEAST.branch [
      | then-signed-lt-LEAST-via-then-signed-lt-LEAST w ↦ sym
          (low_sign_extended v small (grind (arith, ints)))
      | then-signed-lt-LEAST-via-else-signed-lt-LEAST+then-signed-gt-GREATEST w ↦ sym
          (high_sign_extended v small (grind (arith, ints)))
    ]

pub returns : goal.returns
returns c =
    let v = c.args.value in
    let small : v < 2 ^ 64 = omega arith in
    sym (fits_sign_extended v small (grind (arith, ints)) (grind (arith, ints)))
