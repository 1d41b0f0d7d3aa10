use Rattle.std.proofs.Common.{sym, arith}
use Rattle.std.proofs.lemmas.List.{length-take-le}
use Rattle.module_symbols.proofs.stated_names.StatedKeyHash.hash.Goals as goal

pub slice_bounds-write-end : goal.slice_bounds-write-end
slice_bounds-write-end g c =
    sym (length-take-le 2048 c.args.self.now.bytes.now
    (omega (arith, c.if-length-le-HASHED.false)))
