use Rattle.std.proofs.Common.{◌≡◌, ◌-◌, sym, ap, subst, ◌∙◌, ◌∷◌, ◌++◌, [], length, take, arith}
use Rattle.std.specs.Prelude.{vec_len}
use Rattle.index_read.specs.Walks.{IsWritten}
use Rattle.index_read.proofs.walk.KeyWalk.go_up.Goals as goal

pub leave-requires-clause-written : goal.leave-requires-clause-written
leave-requires-clause-written c =
    let v = c.args.self.now.levels in
    let level = c.args.level.now in
    let size : vec_len v ≡ length v.items = omega (arith, v.ok.0) in
    subst (IsWritten c.args.nodes.now c.args.self.now.key.items c.args.self.now.written)
    (c.requires.top
    ∙ ap (λ n. take (n - 1) v.items ++ level ∷ []) (sym (c.len.ensures ∙ size))
    ∙ ap (λ ms. ms ++ level ∷ []) (sym c.truncate.ensures.items))
    c.requires.written

pub returns-clause-levels : goal.returns-clause-levels
returns-clause-levels c =
    let v = c.args.self.now.levels in
    let size : vec_len v ≡ length v.items = omega (arith, v.ok.0) in
    c.leave.ensures.levels ∙ c.truncate.ensures.items
    ∙ ap (λ n. take (n - 1) v.items) (c.len.ensures ∙ size)
