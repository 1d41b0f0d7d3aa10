use Rattle.std.proofs.Common.{◌≡◌, ◌++◌, ◌∷◌, [], List, ℕ, false, not, eqb, None, All, AllPairs}
use Rattle.std.proofs.Common.{IsTrue, sym, ap, subst, ◌∙◌, rules}
use Rattle.std.proofs.lemmas.List.Elements.{All-nil, All-cons}
use Rattle.std.specs.List.{list_any}
use Rattle.km_names.specs.Ascii.{is_graphic}
use Rattle.module_symbols.specs.declared.exports.Export.{Export}
use Rattle.module_symbols.specs.declared.needs.Need.{Need}
use Rattle.test_relations.proofs.TreeSteps.{no-pair}
use Rattle.test_relations.proofs.kernels.needing.Goals as goal

pub returns : goal.returns
unfolding is_graphic
returns c =
    let needed = λ (n : Need). IsTrue (is_graphic n.name) in
    let exported = λ (e : Export). IsTrue (is_graphic e.name) in
    let pairs = λ (es : List Export). AllPairs (λ (a b : Export). a.name ≡ b.name → ⊥) es in
    let word = λ (text : List ℕ). IsTrue (is_graphic text) in
    record {
      distinct = subst pairs (sym c.new.ensures) (no-pair (λ (a b : Export). a.name ≡ b.name → ⊥));
      path = subst word (sym c.in_ok-from_slice-2.ensures) (search rules);
      name = subst word (sym c.in_ok-from_slice-3.ensures) (search rules);
      exports = subst (All exported) (sym c.new.ensures) (All-nil exported);
      needs
          = subst (All needed)
          (sym (c.in_ok-push.ensures.ok
          ∙ ap (λ l. l
          ++ record {
            name = c.in_ok-from_slice.field-0;
            symbol = 1;
            weak = false;
            crc = None;
          }
          ∷ []) c.new-needs.ensures))
          (All-cons needed _ [] (subst word (sym c.in_ok-from_slice.ensures) (search rules))
          (All-nil needed));
      colon
          = subst (λ (text : List ℕ). IsTrue (not (list_any (λ b. eqb b 58) text)))
          (sym c.in_ok-from_slice-2.ensures) (search rules);
    }
