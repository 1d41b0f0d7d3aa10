use Rattle.std.proofs.Common.{◌≤◌, All, length, sym, subst, ap, ◌∙◌, arith}
use Rattle.sheet_object.proofs.PartLemmas.{parts-few, parts-short}
use Rattle.sheet_object.proofs.object_file.object_more.Goals as goal

pub file_of-requires-clause-few : goal.file_of-requires-clause-few
file_of-requires-clause-few c =
    omega (
      arith,
      ap length c.deref.ensures.value,
      ap length c.in_ok-parts.ensures,
      parts-few c.args.sheet.now c.args.more.now,
    )

pub file_of-requires-clause-short : goal.file_of-requires-clause-short
file_of-requires-clause-short c =
    subst (λ ps. All (λ p. length p.name ≤ 32) ps)
    (sym (c.deref.ensures.value ∙ c.in_ok-parts.ensures))
    (parts-short c.args.sheet.now c.args.more.now)
