use Rattle.std.proofs.Common.{◌≤◌, length, refl, arith}
use Rattle.km_names.proofs.NearLemmas.{near_found, near_first, near_none}
use Rattle.km_names.proofs.string.near_nul.Goals as goal

pub returns-then-found-eq0-clause-near : goal.returns-then-found-eq0-clause-near
returns-then-found-eq0-clause-near c room =
    near_none c.args.bytes.now c.nuls-found.result room c.nuls-found.ensures c.if-found-eq0.true

pub returns-clause-first : goal.returns-clause-first
returns-clause-first c =
    let room : 32 ≤ length c.args.bytes.now = omega (arith, c.if-bytes-lt-NEAR.false) in
    near_first c.args.bytes.now _ room
    (near_found c.args.bytes.now c.nuls-found.result _ room c.nuls-found.ensures
    c.if-found-eq0.false refl)

pub returns-clause-near : goal.returns-clause-near
returns-clause-near c room =
    near_found c.args.bytes.now c.nuls-found.result _ room c.nuls-found.ensures
    c.if-found-eq0.false refl
