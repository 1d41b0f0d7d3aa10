use Rattle.std.proofs.Common.{◌≡◌, ◌<◌, ℕ, List, true, length}
use Rattle.std.specs.Borrow.{Bor}
use Rattle.std.proofs.lemmas.List.Elements.{All-set}
use Rattle.dependency_lines.proofs.good_texts.GoodTexts.put.Goals as goal

pub returns-then-slot-len : goal.returns-then-slot-len
returns-then-slot-len c = λ test old good.
    All-set (λ (text : Bor (List ℕ)). 0 < length text.now → test text.now ≡ true)
    c.args.self.now.slots.items c.args.slot c.args.text (λ _. good) old
