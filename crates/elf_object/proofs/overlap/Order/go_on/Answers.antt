use Rattle.std.proofs.Common.{◌≡◌, ◌≤◌, ◌+◌, ◌*◌, true, false, ap, ◌∙◌, arith}
use Rattle.elf_object.specs.Overlap.{place_end, place_start}
use Rattle.elf_object.proofs.SpanLemmas.{IsApart-push, IsApart-push_empty}
use Rattle.elf_object.proofs.overlap.Order.go_on.Goals as goal
use Rattle.elf_object.proofs.overlap.Order.go_on.Goals.{then-start-self, else-start-self}

pub returns-then-width-eq0 : goal.returns-then-width-eq0
returns-then-width-eq0 c = λ places before holds.
    let p = c.args.place.now in
    IsApart-push_empty place_start place_end places p c.args.self.now.end (before holds)
    (ap (λ n. place_start p + n) (c.requires.width ∙ c.if-width-eq0.true))

pub returns : goal.returns
returns c = λ places before holds.
    let p = c.args.place.now in
    elim c.if-start-self.branch [
      | then-start-self w ↦ let other : false ≡ true = rw w.self-is at holds in absurd (cc)
      | else-start-self w ↦
          let was : c.args.self.now.holds ≡ true = rw w.self-is at holds in
          let low : c.args.self.now.end ≤ place_start p = omega arith in
          let end : c.from.result * 4294967296 + p.offset + c.from-2.result ≡ place_end p
          = omega arith in
          rw end (IsApart-push place_start place_end places p c.args.self.now.end (before was) low
          (omega arith))
    ]
