use Rattle.std.proofs.Common.{leb, w8, arith}
use Rattle.std.proofs.lemmas.Simd.{bitmask_splat}
use Rattle.glob_match.proofs.words.at_most.Goals as goal

pub returns : goal.returns
returns c = bitmask_splat w8 leb c.args.bytes 64 c.args.high c.fits-bytes.0 (omega arith)
