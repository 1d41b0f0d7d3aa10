use Rattle.std.proofs.Common.{◌≡◌, ◌∙◌, [], Some, None, ap, sym, arith, cond, length}
use Rattle.std.proofs.lemmas.List.{nil_from_length}
use Rattle.std.specs.Option.{option_or}
use Rattle.std.specs.Str.{bytes_eq}
use Rattle.export_table.specs.Standing.{standing_in, standing_of}
use Rattle.export_table.proofs.TableLemmas.{or-none, or-assoc, standing_in-cons}
use Rattle.export_table.proofs.standing.ExportTable.enter_all.Goals as goal

pub loop-next-preserved : goal.loop-next-preserved
loop-next-preserved c = record {
  room
      = omega (
        arith,
        ap length c.in-Some.ensures.items,
        c.enter.ensures.room,
        c.loop-next.invariant.room,
      );
  at = λ x.
      let next = c.in-Some.next in
      let rest = c.pop_front.new.self.items in
      ap (λ o. option_or o (standing_in x rest)) (c.enter.ensures.at x)
      ∙ or-assoc (standing_of c.loop-next.self x)
      (cond (bytes_eq next.name.items x) (Some next.standing) None) (standing_in x rest)
      ∙ ap (option_or (standing_of c.loop-next.self x))
      (sym (standing_in-cons x next rest) ∙ ap (standing_in x) (sym c.in-Some.ensures.items))
      ∙ c.loop-next.invariant.at x;
}

pub returns : goal.returns
returns c = λ x.
    let none : c.loop-next.rest.items ≡ []
    = nil_from_length c.loop-next.rest.items
    (omega (arith, c.loop-next.rest.ok, c.in_default.ensures.cases.0)) in
    sym (or-none (standing_of c.loop-next.self x))
    ∙ ap (λ rest. option_or (standing_of c.loop-next.self x) (standing_in x rest)) (sym none)
    ∙ c.loop-next.invariant.at x
