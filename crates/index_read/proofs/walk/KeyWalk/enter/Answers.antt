use Rattle.std.proofs.Common.{◌≡◌, ◌-◌, ap, ◌∙◌, ◌∷◌, ◌++◌, [], length, get_or, Some}
use Rattle.std.proofs.Common.{slice_set, arith}
use Rattle.std.specs.Prelude.{vec_len}
use Rattle.index_read.specs.Walks.{front, after_byte, level_of}
use Rattle.index_read.proofs.KeyLemmas.{top_read, top_write}
use Rattle.index_read.proofs.walk.KeyWalk.enter.Goals as goal

pub returns-clause-levels : goal.returns-clause-levels
returns-clause-levels c level ends =
    let v = c.args.self.now.levels in
    let ls = v.items in
    let byte = c.args.byte in
    let own = level_of c.args.node.now (Some byte) in
    let size : vec_len v ≡ length ls = omega (arith, v.ok.0) in
    let last = ap (λ n. n - 1) (c.len-top.ensures ∙ size) in
    let read
    = c.index_mut.ensures.value ∙ ap (λ n. get_or ls n c.index_mut.result.now) last
    ∙ top_read ls level c.index_mut.result.now ends in
    c.in_ok-push.ensures.items
    ∙ ap (λ n. slice_set ls n (after_byte c.index_mut.result.now byte) ++ own ∷ []) last
    ∙ ap (λ m. m ++ own ∷ [])
    (top_write ls level (after_byte c.index_mut.result.now byte) ends)
    ∙ ap (λ m. (front ls ++ after_byte m byte ∷ []) ++ own ∷ []) read
