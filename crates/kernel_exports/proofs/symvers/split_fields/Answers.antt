use Rattle.kernel_exports.proofs.FieldSteps.{field-here, field-later}
use Rattle.kernel_exports.proofs.symvers.split_fields.Goals as goal

pub returns : goal.returns
returns c =
    let t0 = c.args.line.now in
    let t1 = c.split_at_byte.result.1.now in
    let t2 = c.split_at_byte-2.result.1.now in
    let t3 = c.split_at_byte-3.result.1.now in
    let t4 = c.split_at_byte-4.result.1.now in
    let e1 = c.split_at_byte.ensures.after in
    let e2 = c.split_at_byte-2.ensures.after in
    let e3 = c.split_at_byte-3.ensures.after in
    let e4 = c.split_at_byte-4.ensures.after in
    let w0 = c.split_at_byte.result.0.now in
    let w1 = c.split_at_byte-2.result.0.now in
    let w2 = c.split_at_byte-3.result.0.now in
    let w3 = c.split_at_byte-4.result.0.now in
    let w4 = c.split_at_byte-5.result.0.now in
    record {
      crc = field-here t0 w0 c.split_at_byte.ensures.before;
      name = field-later t0 t1 w1 0 e1 (field-here t1 w1 c.split_at_byte-2.ensures.before);
      owner
          = field-later t0 t1 w2 1 e1
          (field-later t1 t2 w2 0 e2 (field-here t2 w2 c.split_at_byte-3.ensures.before));
      kind
          = field-later t0 t1 w3 2 e1
          (field-later t1 t2 w3 1 e2
          (field-later t2 t3 w3 0 e3 (field-here t3 w3 c.split_at_byte-4.ensures.before)));
      space
          = field-later t0 t1 w4 3 e1
          (field-later t1 t2 w4 2 e2
          (field-later t2 t3 w4 1 e3
          (field-later t3 t4 w4 0 e4
          (field-here t4 w4 c.split_at_byte-5.ensures.before))));
    }
