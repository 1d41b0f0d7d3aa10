use Rattle.std.proofs.Common.{take, Some, None, ap}
use Rattle.std.specs.Prelude.{option_map}
use Rattle.memchr.specs.Find.{is_byte}
use Rattle.km_names.proofs.Positions.{first_byte-position}
use Rattle.km_names.specs.Strings.{first_string as string_of}
use Rattle.km_names.proofs.string.first_string.Goals as goal

pub returns-in-Some-clause-string : goal.returns-in-Some-clause-string
unfolding string_of
returns-in-Some-clause-string c =
    let bytes = c.args.bytes.now in
    ap (option_map (λ n. take n bytes))
    (first_byte-position (is_byte 0) bytes (Some c.in-Some.end) c.in-Some.ensures)

pub returns-in-None-clause-string : goal.returns-in-None-clause-string
unfolding string_of
returns-in-None-clause-string c =
    let bytes = c.args.bytes.now in
    ap (option_map (λ n. take n bytes))
    (first_byte-position (is_byte 0) bytes None c.in-None.ensures)
