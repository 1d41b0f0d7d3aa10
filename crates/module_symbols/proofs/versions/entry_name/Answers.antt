use Rattle.std.proofs.Common.{◌≡◌, ◌+◌, ◌-◌, ◌*◌, ◌∙◌, take, drop, ap, arith}
use Rattle.km_names.specs.Strings.{first_string}
use Rattle.module_symbols.specs.Versions.{entry_name}
use Rattle.module_symbols.proofs.versions.entry_name.Goals as goal

pub returns : goal.returns
unfolding entry_name
returns c =
    let start = 64 * c.args.k + 8 in
    let size : start + 56 - start ≡ 56 = omega arith in
    c.first_string.ensures.string
    ∙ ap (λ n. first_string (take n (drop start c.args.bytes.now))) size
