use Rattle.std.proofs.Common.{◌≡◌, ◌+◌, List, ℕ, take, true, false, sym, refl, subst, ◌∙◌, arith}
use Rattle.std.specs.Prelude.{codes}
use Rattle.std.specs.Str.{bytes_eq}
use Rattle.std.proofs.lemmas.Bool.{true≢false}
use Rattle.mod_tree.proofs.SearchSteps.{command-is}
use Rattle.mod_tree.proofs.Folders.{FolderSoFar, folder-skip, folder-take, folder-all}
use Rattle.mod_tree.proofs.chosen.folder_place.Goals as goal
use Rattle.mod_tree.proofs.chosen.folder_place.Goals.{then-path-end-eq47+then-ne}
use Rattle.mod_tree.proofs.chosen.folder_place.Goals.{else-path-end-eq47}
use Rattle.mod_tree.proofs.chosen.folder_place.Goals.{else-path-end-eq47-via-then-path-end-eq47+else-ne}
use Rattle.mod_tree.proofs.chosen.folder_place.Goals.{else-path-end-eq47-via-else-path-end-eq47}

pub loop-end-preserved : goal.loop-end-preserved
loop-end-preserved c = λ words was.
    let so = c.loop-end.invariant words was in
    let end : ℕ = c.loop-end.end in
    let path : List ℕ = c.args.path.now in
    elim c.if-path-end-eq47.branch [
      | then-path-end-eq47+then-ne w ↦
          let other : bytes_eq (take end path) (codes "built-in") ≡ false
          = command-is false refl w.as_slice.ensures w.ne.ensures w.if-ne.true in
          subst (λ n. FolderSoFar words path (end + 1) n) (sym (w.least-is ∙ w.min-least.ensures))
          (folder-take words path end c.loop-end.least w.first_place.result so (omega arith)
          w.if-path-end-eq47.true other (w.first_place.ensures words was))
      | else-path-end-eq47 w ↦ elim w.else-path-end-eq47.branch [
        | else-path-end-eq47-via-then-path-end-eq47+else-ne w' ↦
            let same : bytes_eq (take end path) (codes "built-in") ≡ true
            = command-is true refl w'.as_slice.ensures w'.ne.ensures w'.if-ne.false in
            subst (λ n. FolderSoFar words path (end + 1) n) (sym w.least-is)
            (folder-skip words path end c.loop-end.least so
            (λ slash other. true≢false (sym same ∙ other)))
        | else-path-end-eq47-via-else-path-end-eq47 w' ↦
            subst (λ n. FolderSoFar words path (end + 1) n) (sym w.least-is)
            (folder-skip words path end c.loop-end.least so
            (λ slash other. w'.if-path-end-eq47.false slash))
      ]
    ]

pub returns : goal.returns
returns c =
    λ words was. folder-all words c.args.path.now c.loop-end.end c.loop-end.least
    (c.loop-end.invariant words was) (omega arith)
