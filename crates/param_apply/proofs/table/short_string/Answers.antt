use Rattle.std.proofs.Common.{◌≡◌, ◌+◌, ◌-◌, ◌∙◌, List, ℕ, ap, arith, drop, length, take}
use Rattle.std.proofs.lemmas.List.{length-drop, take_all}
use Rattle.km_names.specs.Strings.{first_string as string_of}
use Rattle.param_apply.proofs.EndLemmas.{string-longer, string-past, string-read}
use Rattle.param_apply.proofs.table.short_string.Goals as goal

-- What is left of a list from a place on.
rest-is : (bytes : List ℕ) (at : ℕ)
    → take (length bytes - at) (drop at bytes) ≡ drop at bytes
rest-is bytes at =
    take_all (length bytes - at) (drop at bytes) (omega (arith, length-drop at bytes))

pub returns-then-image-at-clause-longer : goal.returns-then-image-at-clause-longer
returns-then-image-at-clause-longer c =
    rw (string-past c.args.image.now c.args.at (omega arith)) tt

pub returns-then-longest-rest-clause-string : goal.returns-then-longest-rest-clause-string
returns-then-longest-rest-clause-string c =
    string-read (drop c.args.at c.args.image.now) (c.args.longest + 1) c.first_string.result
    (c.first_string.ensures.string
    ∙ ap (λ (bs : List ℕ). string_of (take (c.args.longest + 1) bs))
    (rest-is c.args.image.now c.args.at))

pub returns-then-longest-rest-clause-longer : goal.returns-then-longest-rest-clause-longer
returns-then-longest-rest-clause-longer c =
    string-longer (drop c.args.at c.args.image.now) c.args.longest c.first_string.result
    (c.first_string.ensures.string
    ∙ ap (λ (bs : List ℕ). string_of (take (c.args.longest + 1) bs))
    (rest-is c.args.image.now c.args.at))
