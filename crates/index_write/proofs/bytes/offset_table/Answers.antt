use Rattle.std.proofs.Common.{◌≡◌, refl, sym, ap, ◌∙◌, ℕ, ◌+◌, ◌-◌, ◌<◌, cond, ◌==◌, ⊎_elim, List}
use Rattle.std.proofs.Common.{length, get_or, drop, arith}
use Rattle.std.proofs.Math.ListN.{set}
use Rattle.std.proofs.lemmas.Bool.{cases_eq, eq-eqb, ne_eqb}
use Rattle.std.proofs.lemmas.List.{get_or-replicate, get_or-set_same, get_or-set_other, drop_all}
use Rattle.std.proofs.lemmas.List.{drop_more, length-set}
use Rattle.index_format.specs.File.{offset}
use Rattle.index_write.specs.declared.bytes.ChildLink.{ChildLink}
use Rattle.index_write.specs.Links.{links_of}
use Rattle.index_write.proofs.bytes.offset_table.Goals as goal

table_set : (table : List ℕ) (at o byte rest : ℕ) → byte < length table → get_or table byte 0 ≡ rest
    → get_or (set table at o) byte 0 ≡ cond (at == byte) o rest
table_set table at o byte rest h e =
    ⊎_elim
    (λ same. ap (λ k. get_or (set table k o) byte 0) same ∙ get_or-set_same table byte o 0 h
    ∙ sym (ap (λ t. cond t o rest) (eq-eqb at byte same)))
    (λ apart. get_or-set_other table at byte o 0 (λ q. apart (sym q)) ∙ e
    ∙ sym (ap (λ t. cond t o rest) (ne_eqb at byte apart)))
    (cases_eq at byte)

next_link : (links : List ChildLink) (n byte : ℕ) (d : ChildLink) → 0 < n → n < length links + 1
    → offset (links_of (drop (n - 1) links)) byte
    ≡ cond ((get_or links (n - 1) d).byte == byte) (get_or links (n - 1) d).offset
    (offset (links_of (drop n links)) byte)
next_link links n byte d pos within =
    let back : n - 1 + 1 ≡ n = omega arith in
    ap (λ ls. offset (links_of ls) byte) (drop_more links (n - 1) d (omega arith))
    ∙ ap (λ k. cond ((get_or links (n - 1) d).byte == byte) (get_or links (n - 1) d).offset
    (offset (links_of (drop k links)) byte)) back

pub loop-n-init : goal.loop-n-init
loop-n-init c =
    let links = c.args.links.now in (
      refl,
      λ byte h. get_or-replicate 256 byte 0 0 h
          ∙ sym (ap (λ ls. offset (links_of ls) byte)
          (drop_all (length links) links (omega arith))),
    )

pub loop-n-preserved : goal.loop-n-preserved
loop-n-preserved c =
    let links = c.args.links.now in
    let table = c.loop-n.table in
    let whole = c.loop-n.invariant.0 in
    let d : ChildLink = record { byte = 0; offset = 0 } in (
      length-set table c.from.result (get_or links (c.loop-n.n - 1) d).offset ∙ whole,
      λ byte h.
          table_set table c.from.result (get_or links (c.loop-n.n - 1) d).offset byte _
          (omega (arith, h, whole)) (c.loop-n.invariant.1 byte h)
          ∙ ap (λ k. cond (k == byte) (get_or links (c.loop-n.n - 1) d).offset
          (offset (links_of (drop c.loop-n.n links)) byte)) c.from.ensures
          ∙ sym (next_link links c.loop-n.n byte d c.loop-n-test.true
          (omega (arith, c.loop-n.auto.n))),
    )

pub returns : goal.returns
returns c =
    let done : c.loop-n.n ≡ 0 = omega arith in
    λ byte h. c.loop-n.invariant.1 byte h
    ∙ ap (λ k. offset (links_of (drop k c.args.links.now)) byte) done
