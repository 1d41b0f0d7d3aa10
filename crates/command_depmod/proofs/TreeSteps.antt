-- The stages of the tree.
use Rattle.std.proofs.Common.{◌≡◌, ℕ, Bool, true, false, List, [], ◌∷◌, refl, sym, ap, subst, ◌∙◌}
use Rattle.std.proofs.Common.{inl, inr}
use Rattle.std.specs.Prelude.{nat_lt, filter, if◌then◌else◌, Option, Some, None, option_map, Result}
use Rattle.std.specs.Prelude.{Ok, Err, codes, ◌⊎◌}
use Rattle.km_names.specs.First.{first}
use Rattle.km_names.specs.Lines.{lines_of}
use Rattle.km_names.specs.Path.{path_below}
use Rattle.elf_sections.specs.Shape.{fault_if}
use Rattle.mod_tree.specs.Tree.{bad_path, is_module_path, name_count, tree_of, tree_paths}
use Rattle.mod_tree.specs.Tree.{tree_unless}
use Rattle.mod_tree.specs.declared.tree.TreeFault.{TreeFault}
use Rattle.mod_tree.specs.declared.tree.TreeFault.TheVariants.{BadPath, TooManyModules, Memory}
use Rattle.km_course.specs.Course.{Outcome, Stage, ◌>>=◌, given, reads_any}
use Rattle.km_course.specs.Course.Outcome.{value, end}
use Rattle.km_course.specs.Follows.{Answers}
use Rattle.km_course.specs.declared.end.End.TheVariants.{Refused}
use Rattle.km_course.specs.declared.refusal.Refusal.TheVariants as refusals
use Rattle.km_course.specs.declared.stop.Stop.{Stop}
use Rattle.km_course.specs.Course.{value_unless}
use Rattle.command_depmod.specs.Tree.{tree_outcome, tree_stop}

-- the stage after modules.order was read
abbrev pub ordered : List (List ℕ) → List (List ℕ) → List ℕ → Stage (List (List ℕ))
ordered search listed order = given (tree_outcome listed order search)

-- the stage after the folder was listed
abbrev pub listed : List ℕ → List (List ℕ) → List (List ℕ) → Stage (List (List ℕ))
listed folder search paths =
    reads_any (path_below folder (codes "modules.order")) >>= λ order. ordered search paths order

-- the tree of paths, or its fault, as an outcome; no tree has the fault of memory
abbrev tree_end : Result (List (List ℕ)) TreeFault → Outcome (List (List ℕ))
tree_end (Ok paths) = value paths
tree_end (Err (BadPath path)) = end (Refused (refusals.BadPath path))
tree_end (Err (TooManyModules count)) = end (Refused refusals.TooManyModules)
tree_end (Err Memory) = end (Refused refusals.TooManyModules)

refused-alike : (bad : Option (List ℕ)) (count : ℕ) (paths : List (List ℕ))
    → value_unless (λ refusal. refusal) (first
    (option_map refusals.BadPath bad
    ∷ fault_if (nat_lt 10000 count) refusals.TooManyModules ∷ [])) paths
    ≡ tree_end (tree_unless bad count paths)
refused-alike (Some path) count paths = refl
refused-alike None count paths = go (nat_lt 10000 count)
  where
    go : (many : Bool)
        → value_unless (λ refusal. refusal)
        (first (fault_if many refusals.TooManyModules ∷ [])) paths
        ≡ tree_end (if many then Err (TooManyModules count) else Ok paths)
    go true = refl
    go false = refl

-- the refusals are those of the faults of a tree
outcome-alike : (listed : List (List ℕ)) (order : List ℕ) (search : List (List ℕ))
    → tree_outcome listed order search ≡ tree_end (tree_of listed order search)
unfolding tree_outcome tree_of
outcome-alike listed order search =
    let paths = filter is_module_path listed in
    refused-alike (bad_path paths) (name_count paths) (tree_paths search (lines_of order) paths)

pub chosen_ok : (listed : List (List ℕ)) (order : List ℕ) (search paths : List (List ℕ))
    → tree_of listed order search ≡ Ok paths → tree_outcome listed order search ≡ value paths
chosen_ok listed order search paths is = outcome-alike listed order search ∙ ap tree_end is

was-tree : (o : Result (List (List ℕ)) TreeFault) (paths : List (List ℕ)) → tree_end o ≡ value paths
    → o ≡ Ok paths
was-tree (Ok others) paths is = cc
was-tree (Err (BadPath path)) paths is = absurd (cc)
was-tree (Err (TooManyModules count)) paths is = absurd (cc)
was-tree (Err Memory) paths is = absurd (cc)

-- and back
pub was-chosen : (listed : List (List ℕ)) (order : List ℕ) (search paths : List (List ℕ))
    → tree_outcome listed order search ≡ value paths → tree_of listed order search ≡ Ok paths
was-chosen listed order search paths is =
    was-tree (tree_of listed order search) paths (sym (outcome-alike listed order search) ∙ is)

pub chosen_not : (listed : List (List ℕ)) (order : List ℕ) (search : List (List ℕ))
    (fault : TreeFault) (stop : Stop)
    → (fault ≡ Memory) ⊎ (tree_of listed order search ≡ Err fault) → stop ≡ tree_stop fault
    → Answers (λ (x : List (List ℕ)). x) (tree_outcome listed order search) (Err stop)
chosen_not listed order search Memory stop cause is =
    subst (λ s. Answers (λ (x : List (List ℕ)). x) (tree_outcome listed order search) (Err s))
    (sym is) tt
chosen_not listed order search (BadPath path) stop (inl m) is = cc
chosen_not listed order search (BadPath path) stop (inr f) is =
    subst (λ s. Answers (λ (x : List (List ℕ)). x) (tree_outcome listed order search) (Err s))
    (sym is) (outcome-alike listed order search ∙ ap tree_end f)
chosen_not listed order search (TooManyModules count) stop (inl m) is = cc
chosen_not listed order search (TooManyModules count) stop (inr f) is =
    subst (λ s. Answers (λ (x : List (List ℕ)). x) (tree_outcome listed order search) (Err s))
    (sym is) (outcome-alike listed order search ∙ ap tree_end f)
