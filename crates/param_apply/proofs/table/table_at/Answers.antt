use Rattle.std.proofs.Common.{ap, arith, length}
use Rattle.param_apply.proofs.TableLemmas.{bytes-short}
use Rattle.param_apply.proofs.table.table_at.Goals as goal

pub returns-clause-within : goal.returns-clause-within
returns-clause-within c =
    let s = c.section.result.now in
    let is = c.section.ensures.section in
    let at = rw is at c.section_at.ensures.within in
    let bytes = rw is at c.section_bytes.ensures.bytes in
    omega (arith, at, ap length bytes, bytes-short c.args.object.now.file s)
