-- The stages of the modules of a tree.
use Rattle.std.proofs.Common.{◌≡◌, ℕ, ◌+◌, ◌<◌, ◌≤◌, List, [], ◌∷◌, ◌++◌, length, take, get_or}
use Rattle.std.proofs.Common.{refl, sym, ap, subst, ◌∙◌, inl, inr, arith}
use Rattle.std.specs.Prelude.{Option, Some, None, ◌⊎◌, ◌==◌, map, All, IsTrue, not}
use Rattle.std.specs.List.{list_any}
use Rattle.std.proofs.lemmas.List.{map_push, take_more, take_all, length-map, get_or-map}
use Rattle.std.proofs.lemmas.List.Elements.{All-push}
use Rattle.km_names.specs.Ascii.{is_graphic}
use Rattle.km_names.specs.Path.{module_name}
use Rattle.elf_object.specs.Object.{FileObject}
use Rattle.module_facts.specs.declared.facts.Facts.{Facts}
use Rattle.module_facts.specs.declared.fault.ModuleFault.{ModuleFault}
use Rattle.module_facts.specs.declared.fault.ModuleFault.TheVariants.{Memory}
use Rattle.module_facts.specs.Facts.{facts_of, object_facts}
use Rattle.module_facts.specs.Faults.{fact_fault}
use Rattle.module_facts.specs.FaultText.{module_fault_text}
use Rattle.module_facts.specs.Module.{IsSound}
use Rattle.provider_rel.specs.Tree.{IsTree}
use Rattle.km_course.specs.Course.{Stage, given, gives, each_from}
use Rattle.km_course.specs.Course.Outcome.{value, end}
use Rattle.km_course.specs.declared.end.End.TheVariants.{Refused}
use Rattle.km_course.specs.declared.refusal.Refusal.TheVariants.{BadModule}
use Rattle.command_depmod.specs.Tree.{AreTreePaths}
use Rattle.command_depmod.specs.Modules.{facts_outcome, adds_facts, AreFactsAt}

-- the stage after a module was read
abbrev pub checked : List ℕ → List ℕ → Stage Facts
checked path bytes = given (facts_outcome path bytes (fact_fault path bytes))

-- the stage after a module's facts were taken
abbrev pub added : List Facts → Facts → Stage (List Facts)
added before facts = gives (before ++ facts ∷ [])

-- the stage after a module more
abbrev pub the_others : List ℕ → List (List ℕ) → List Facts → Stage (List Facts)
the_others folder paths before = each_from (adds_facts folder) before paths

pub checked_ok : (path bytes : List ℕ) (facts : Facts) (o : Option ModuleFault)
    → facts ≡ facts_of path bytes → o ≡ None → facts_outcome path bytes o ≡ value facts
unfolding facts_outcome
checked_ok path bytes facts o is passed = ap (facts_outcome path bytes) passed ∙ ap value (sym is)

-- a fault that isn't out of memory is the first test that fails
pub checked_not : (path bytes text named : List ℕ) (o : Option ModuleFault) (fault : ModuleFault)
    → (fault ≡ Memory) ⊎ (o ≡ Some fault) → (fault ≡ Memory → ⊥) → text ≡ module_fault_text fault
    → named ≡ path → facts_outcome path bytes o ≡ end (Refused (BadModule named text))
unfolding facts_outcome
checked_not path bytes text named o fault (inl m) wanting is same = absurd (wanting m)
checked_not path bytes text named o fault (inr f) wanting is same =
    ap (facts_outcome path bytes) f ∙ ap (λ t. end (Refused (BadModule path t))) (sym is)
    ∙ ap (λ p. end (Refused (BadModule p text))) (sym same)

-- what is known of the facts of a module that was read
pub facts-at : (path bytes : List ℕ) (object : FileObject) (facts : Facts)
    → facts ≡ facts_of path bytes → facts.path ≡ path → IsSound object facts → AreFactsAt path facts
unfolding object_facts
facts-at path bytes object facts is at sound = record {
  path_is = at;
  name_is = ap (λ (f : Facts). f.name) is;
  name = sound.name;
  exports = sound.exports;
  needs = sound.needs;
  distinct = sound.distinct;
}

-- the facts of the first paths
pub record AreFactsOf (paths : List (List ℕ)) (count : ℕ) (tree : List Facts) : Type 0 where
  pub named : map (λ (f : Facts). f.path) tree ≡ take count paths
  pub each : All (λ (f : Facts). AreFactsAt f.path f) tree

pub no-facts : (paths : List (List ℕ)) → AreFactsOf paths 0 []
no-facts paths = record { named = refl; each = λ k d l. absurd (omega (arith, l)) }

pub facts-more : (paths : List (List ℕ)) (i : ℕ) (path : List ℕ) (tree more : List Facts)
    (facts : Facts)
    → i < length paths → path ≡ get_or paths i path → AreFactsAt path facts
    → more ≡ tree ++ facts ∷ [] → AreFactsOf paths i tree → AreFactsOf paths (i + 1) more
facts-more paths i path tree more facts h is at pushed before =
    let own : AreFactsAt facts.path facts = subst (λ p. AreFactsAt p facts) (sym at.path_is) at in
    subst (AreFactsOf paths (i + 1)) (sym pushed) (record {
      named
          = map_push (λ (f : Facts). f.path) tree facts
          ∙ ap (λ ps. ps ++ facts.path ∷ []) before.named
          ∙ ap (λ p. take i paths ++ p ∷ []) (at.path_is ∙ is) ∙ sym (take_more paths i path h);
      each = All-push (λ (f : Facts). AreFactsAt f.path f) tree facts before.each own;
    })

-- the facts of all paths of a tree are those of a tree
pub facts-tree : (paths : List (List ℕ)) (i : ℕ) (tree : List Facts) → length paths ≤ i
    → AreTreePaths paths → AreFactsOf paths i tree → IsTree tree
facts-tree paths i tree past known facts = record {
  few = omega (arith, long, known.few);
  distinct = λ j k d l m same.
      known.distinct j k d.path l (omega (arith, long))
      (sym (name-at j d (omega arith)) ∙ same ∙ name-at k d m);
  modules = λ k d m.
      let f = facts.each k d m in
      record {
        distinct = f.distinct;
        path
            = subst (λ p. IsTrue (is_graphic p)) (sym (path-at k d m))
            (known.graphic k d.path (omega (arith, long)));
        name = f.name;
        exports = f.exports;
        needs = f.needs;
        colon
            = subst (λ p. IsTrue (not (list_any (λ b. b == 58) p))) (sym (path-at k d m))
            (known.colon k d.path (omega (arith, long)));
      };
}
  where
    names : map (λ (f : Facts). f.path) tree ≡ paths
    names = facts.named ∙ take_all i paths past

    long : length tree ≡ length paths
    long = sym (length-map tree (λ (f : Facts). f.path)) ∙ ap length names

    path-at : (k : ℕ) (d : Facts) → k < length tree → (get_or tree k d).path ≡ get_or paths k d.path
    path-at k d m
        = sym (get_or-map (λ (f : Facts). f.path) tree k d d.path m)
        ∙ ap (λ ps. get_or ps k d.path) names

    name-at : (k : ℕ) (d : Facts) → k < length tree
        → (get_or tree k d).name ≡ module_name (get_or paths k d.path)
    name-at k d m = (facts.each k d m).name_is ∙ ap module_name (path-at k d m)
