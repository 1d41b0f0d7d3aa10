use Rattle.std.proofs.Common.{◌+◌, ◌-◌, length, drop, arith}
use Rattle.std.proofs.lemmas.List.{length-drop, take_all}
use Rattle.module_symbols.proofs.versions.after_name.Goals as goal

pub returns : goal.returns
returns c =
    let rest = drop (length c.args.name.now + 1) c.args.bytes.now in
    take_all (length c.args.bytes.now - (length c.args.name.now + 1)) rest
    (omega (arith, length-drop (length c.args.name.now + 1) c.args.bytes.now))
