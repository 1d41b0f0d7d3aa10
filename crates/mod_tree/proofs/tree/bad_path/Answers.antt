use Rattle.std.proofs.Common.{◌≡◌, ℕ, drop, ap, ◌∙◌, arith}
use Rattle.std.specs.Prelude.{filter}
use Rattle.std.specs.List.{list_any}
use Rattle.mod_tree.specs.Shown.{referents}
use Rattle.mod_tree.specs.Tree.{is_bad_byte, least, bad_path}
use Rattle.mod_tree.proofs.tree.bad_path.Goals as goal

pub returns : goal.returns
unfolding bad_path
returns c =
    let start : c.loop-at.at ≡ 0 = omega arith in
    c.loop-at.invariant.0
    ∙ ap (λ (n : ℕ). least
    (filter (list_any is_bad_byte) (referents (drop n c.args.modules.now)))) start
