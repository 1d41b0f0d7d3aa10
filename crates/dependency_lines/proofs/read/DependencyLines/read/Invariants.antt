use Rattle.std.proofs.Common.{◌≡◌, ◌++◌, true, length}
use Rattle.std.specs.Prelude.{All}
use Rattle.std.specs.FinMap.{entries}
use Rattle.index_read.specs.Contents.{contents}
use Rattle.index_read.specs.Firsts.{firsts_of}
use Rattle.dependency_lines.specs.GoodPaths.{begins_line}
use Rattle.dependency_lines.proofs.read.DependencyLines.read.Given as goal

abbrev pub invariant-loop-walk : goal.invariant-loop-walk
invariant-loop-walk l =
    record {
      parts : l.lines ++ l.walk.left ≡ firsts_of (entries (contents l.index.nodes));
      begin : All (λ m. begins_line m.0 m.1.1 ≡ true) l.lines;
    }

abbrev pub decreases-loop-walk : goal.decreases-loop-walk
decreases-loop-walk l = length l.walk.left
