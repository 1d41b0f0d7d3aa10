use Rattle.std.proofs.Common.{◌≡◌, ℕ, List, map, Some, ap, subst, ◌∙◌}
use Rattle.name_table.specs.NameTable.{IsTableOf}
use Rattle.sheet_object.specs.declared.sheet.SheetSpace.{SheetSpace}
use Rattle.sheet_object.specs.Sheet.{spaced_names}
use Rattle.sheet_object.proofs.NameLemmas.{map-same}
use Rattle.sheet_object.proofs.further.Further.new.Goals as goal

pub invariant_of-result : goal.invariant_of-result
invariant_of-result c =
    let m = c.args.more.now in
    let gpl : map (λ (n : List ℕ). n) c.as_slice-2.result.now ≡ m.gpl
    = ap (map (λ (n : List ℕ). n)) c.as_slice-2.ensures ∙ map-same m.gpl in
    let spaces : map (λ (p : SheetSpace). p.name) c.as_slice-3.result.now ≡ spaced_names m
    = ap (map (λ (p : SheetSpace). p.name)) c.as_slice-3.ensures in
    record {
      gpl_names
          = subst (λ l. IsTableOf c.in_ok-gpl.gpl (map (λ n. Some n) l)) gpl c.in_ok-gpl.ensures;
      space_names
          = subst (λ l. IsTableOf c.in_ok-spaces.spaces (map (λ n. Some n) l)) spaces
          c.in_ok-spaces.ensures;
      text_places = rw c.as_slice.ensures at c.in_ok-places.ensures;
    }
