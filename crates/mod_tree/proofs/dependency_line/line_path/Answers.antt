use Rattle.std.proofs.Common.{◌∙◌, ◌≡◌, ◌-◌, ◌<◌, ℕ, List, Bool, Some, None, true, false, cond}
use Rattle.std.proofs.Common.{length, take, drop, sym, ap, inl, inr, arith}
use Rattle.std.specs.Prelude.{◌&&◌, ◌==◌}
use Rattle.std.specs.List.{slice_split}
use Rattle.std.proofs.lemmas.Bool.{eqb-true, and_left, and_right}
use Rattle.std.proofs.lemmas.List.{take_rest}
use Rattle.mod_tree.specs.Tree.{is_module_path}
use Rattle.mod_tree.specs.DependencyLine.{are_needed}
use Rattle.mod_tree.proofs.SeparatorSteps.{no-line, line-by-parts}
use Rattle.mod_tree.proofs.dependency_line.line_path.Goals as goal
use Rattle.mod_tree.proofs.dependency_line.line_path.Goals.{then-is_empty-via-then-is_empty}
use Rattle.mod_tree.proofs.dependency_line.line_path.Goals.{then-is_empty-via-else-is_empty+then-rest-ne58}
use Rattle.mod_tree.proofs.dependency_line.line_path.Goals.{else-is_module_path-via-then-is_module_path+else-are_paths}
use Rattle.mod_tree.proofs.dependency_line.line_path.Goals.{else-is_module_path-via-else-is_module_path}

needed : (rest : List ℕ) (answer : Bool)
    → answer ≡ are_needed (slice_split (λ b. b == 32) (take (length rest - 1) (drop 1 rest)))
    → are_needed (slice_split (λ b. b == 32) (drop 1 rest)) ≡ answer
needed rest answer e =
    ap (λ t. are_needed (slice_split (λ b. b == 32) t)) (sym (take_rest rest 1)) ∙ sym e

pub returns-then-is_empty : goal.returns-then-is_empty
returns-then-is_empty c =
    let none
    = no-line c.args.line.now c.split_at_separator.result.0.now
    c.split_at_separator.result.1.now c.split_at_separator.ensures.before
    c.split_at_separator.ensures.rest in
    elim c.then-is_empty.branch [
      | then-is_empty-via-then-is_empty w ↦ sym
          (none (inl (eqb-true _ _ (sym c.is_empty.ensures ∙ w.if-is_empty.true))))
      | then-is_empty-via-else-is_empty+then-rest-ne58 w ↦ sym (none (inr w.if-rest-ne58.true))
    ]

pub returns-then-are_paths : goal.returns-then-are_paths
returns-then-are_paths c =
    let own = c.split_at_separator.result.0.now in
    let rest = c.split_at_separator.result.1.now in
    let some : 0 < length rest = grind arith in
    let whole
    = line-by-parts c.args.line.now own rest c.split_at_separator.ensures.before
    c.split_at_separator.ensures.rest some c.if-rest-ne58.false in
    let path : is_module_path own ≡ true
    = sym c.is_module_path.ensures ∙ c.if-is_module_path.true in
    let paths : are_needed (slice_split (λ b. b == 32) (drop 1 rest)) ≡ true
    = needed rest c.are_paths.result c.are_paths.ensures ∙ c.if-are_paths.true in
    sym (whole ∙ (λ i. cond (path i && paths i) (Some own) None))

pub returns-else-is_module_path : goal.returns-else-is_module_path
returns-else-is_module_path c =
    let own = c.split_at_separator.result.0.now in
    let rest = c.split_at_separator.result.1.now in
    let some : 0 < length rest = grind arith in
    let whole
    = line-by-parts c.args.line.now own rest c.split_at_separator.ensures.before
    c.split_at_separator.ensures.rest some c.if-rest-ne58.false in
    let fails : (is_module_path own && are_needed (slice_split (λ b. b == 32) (drop 1 rest)))
    ≡ false
    =
    elim c.else-is_module_path.branch [
      | else-is_module_path-via-then-is_module_path+else-are_paths w ↦ and_right _ _
          (needed rest w.are_paths.result w.are_paths.ensures ∙ w.if-are_paths.false)
      | else-is_module_path-via-else-is_module_path w ↦ and_left _ _
          (sym c.is_module_path.ensures ∙ w.if-is_module_path.false)
    ] in
    sym (whole ∙ ap (λ b. cond b (Some own) None) fails)
