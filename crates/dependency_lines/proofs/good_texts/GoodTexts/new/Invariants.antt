use Rattle.std.proofs.Common.{◌≡◌, length}
use Rattle.std.specs.List.{All}
use Rattle.dependency_lines.proofs.good_texts.GoodTexts.new.Given as goal

-- no text yet
abbrev pub invariant-loop : goal.invariant-loop
invariant-loop l = All (λ text. length text.now ≡ 0) l.slots.items
