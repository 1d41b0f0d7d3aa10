use Rattle.std.proofs.Common.{◌≡◌, ◌++◌, ◌∷◌, [], List, ℕ, false, not, eqb, None, All, AllPairs}
use Rattle.std.proofs.Common.{IsTrue, sym, ap, subst, ◌∙◌, rules}
use Rattle.std.proofs.lemmas.List.Elements.{All-nil, All-cons}
use Rattle.std.specs.List.{list_any}
use Rattle.km_names.specs.Ascii.{is_graphic}
use Rattle.module_symbols.specs.declared.exports.Export.{Export}
use Rattle.module_symbols.specs.declared.needs.Need.{Need}
use Rattle.test_relations.proofs.TreeSteps.{one-pair}
use Rattle.test_relations.proofs.files.facts.Goals as goal

pub returns : goal.returns
unfolding is_graphic
returns c =
    let apart = λ (a b : Export). a.name ≡ b.name → ⊥ in
    let pairs = λ (es : List Export). AllPairs apart es in
    let exported = λ (e : Export). IsTrue (is_graphic e.name) in
    let needed = λ (n : Need). IsTrue (is_graphic n.name) in
    let word = λ (text : List ℕ). IsTrue (is_graphic text) in
    let export : Export
    = record {
      name = c.in_ok-from_slice.field-0;
      symbol = 1;
      crc = None;
      gpl = false;
      space = c.new.result;
    } in
    let need : Need
    = record { name = c.in_ok-from_slice-2.field-0; symbol = 2; weak = false; crc = None } in
    let exports : c.exports-2.inside.elements.items ≡ export ∷ []
    = c.exports-2.view_is ∙ c.in_ok-push.ensures.ok
    ∙ ap (λ l. l ++ export ∷ []) c.new-exports.ensures in
    let needs : c.needs-2.inside.elements.items ≡ need ∷ []
    = c.needs-2.view_is ∙ c.in_ok-push-2.ensures.ok
    ∙ ap (λ l. l ++ need ∷ []) c.new-needs.ensures in
    record {
      distinct = subst pairs (sym exports) (one-pair apart export);
      path = subst word (sym c.in_ok-from_slice-3.ensures) (search rules);
      name = subst word (sym c.in_ok-from_slice-4.ensures) (search rules);
      exports
          = subst (All exported) (sym exports)
          (All-cons exported export []
          (subst word (sym c.in_ok-from_slice.ensures) (search rules)) (All-nil exported));
      needs
          = subst (All needed) (sym needs)
          (All-cons needed need []
          (subst word (sym c.in_ok-from_slice-2.ensures) (search rules)) (All-nil needed));
      colon
          = subst (λ (text : List ℕ). IsTrue (not (list_any (λ b. eqb b 58) text)))
          (sym c.in_ok-from_slice-3.ensures) (search rules);
    }
