use Rattle.std.proofs.Common.{◌≡◌, ap, ◌∙◌, sym, subst, arith, length, map}
use Rattle.index_format.specs.Tree.{tree, Rises}
use Rattle.index_write.specs.Parts.{parts_of, with_parts, headed}
use Rattle.index_write.specs.Groups.{entries_shown, part_of}
use Rattle.index_write.proofs.WriteLemmas.{file-size, rooted-file, length-rooted}
use Rattle.index_format.specs.Holds.{Holds}
use Rattle.index_write.proofs.Standing.{holds}
use Rattle.index_write.proofs.file.encode.Goals as goal

pub nodes-requires : goal.nodes-requires
nodes-requires c =
    subst Rises (sym (ap entries_shown c.deref.ensures.value ∙ c.in_ok-entries.ensures.shown))
    c.in_ok-entries.ensures.rises

pub returns-then-length-clause-too_large : goal.returns-then-length-clause-too_large
returns-then-length-clause-too_large c =
    let parts
    = ap (map part_of) c.deref-2.ensures.value ∙ c.in_ok-nodes.ensures
    ∙ ap (λ es. parts_of (tree es))
    (ap entries_shown c.deref.ensures.value ∙ c.in_ok-entries.ensures.shown) in
    λ n e. omega (arith, file-size c.args.map.now (map part_of c.deref-2.result.now) parts)

pub returns-then-length-clause-length : goal.returns-then-length-clause-length
returns-then-length-clause-length c =
    let parts
    = ap (map part_of) c.deref-2.ensures.value ∙ c.in_ok-nodes.ensures
    ∙ ap (λ es. parts_of (tree es))
    (ap entries_shown c.deref.ensures.value ∙ c.in_ok-entries.ensures.shown) in
    λ n e. let same : n ≡ c.file_size-length.result
    = cc in omega
    (arith, same, file-size c.args.map.now (map part_of c.deref-2.result.now) parts)

pub write-requires : goal.write-requires
write-requires c =
    let parts
    = ap (map part_of) c.deref-3.ensures.value ∙ c.in_ok-nodes.ensures
    ∙ ap (λ es. parts_of (tree es))
    (ap entries_shown c.deref.ensures.value ∙ c.in_ok-entries.ensures.shown) in
    let same
    = ap (λ ns. length (with_parts (map part_of ns) headed).bytes)
    (c.deref-3.ensures.value ∙ sym c.deref-2.ensures.value) in
    let parts-2
    = ap (map part_of) c.deref-2.ensures.value ∙ c.in_ok-nodes.ensures
    ∙ ap (λ es. parts_of (tree es))
    (ap entries_shown c.deref.ensures.value ∙ c.in_ok-entries.ensures.shown) in
    omega (
      arith,
      same,
      length-rooted c.args.map.now (map part_of c.deref-2.result.now) parts-2,
      file-size c.args.map.now (map part_of c.deref-2.result.now) parts-2,
    )

pub returns-clause-file : goal.returns-clause-file
returns-clause-file c =
    let parts
    = ap (map part_of) c.deref-3.ensures.value ∙ c.in_ok-nodes.ensures
    ∙ ap (λ es. parts_of (tree es))
    (ap entries_shown c.deref.ensures.value ∙ c.in_ok-entries.ensures.shown) in
    c.from_vec.ensures ∙ c.in_ok-bytes.ensures
    ∙ rooted-file c.args.map.now (map part_of c.deref-3.result.now) parts

pub returns-clause-within : goal.returns-clause-within
returns-clause-within c =
    let parts
    = ap (map part_of) c.deref-2.ensures.value ∙ c.in_ok-nodes.ensures
    ∙ ap (λ es. parts_of (tree es))
    (ap entries_shown c.deref.ensures.value ∙ c.in_ok-entries.ensures.shown) in
    omega (arith, file-size c.args.map.now (map part_of c.deref-2.result.now) parts)

pub returns-clause-holds : goal.returns-clause-holds
returns-clause-holds c =
    let parts
    = ap (map part_of) c.deref-3.ensures.value ∙ c.in_ok-nodes.ensures
    ∙ ap (λ es. parts_of (tree es))
    (ap entries_shown c.deref.ensures.value ∙ c.in_ok-entries.ensures.shown) in
    let parts-2
    = ap (map part_of) c.deref-2.ensures.value ∙ c.in_ok-nodes.ensures
    ∙ ap (λ es. parts_of (tree es))
    (ap entries_shown c.deref.ensures.value ∙ c.in_ok-entries.ensures.shown) in
    let is_file
    = c.from_vec.ensures ∙ c.in_ok-bytes.ensures
    ∙ rooted-file c.args.map.now (map part_of c.deref-3.result.now) parts in
    subst (λ b. Holds b c.args.map.now) (sym is_file)
    (holds c.args.map.now c.in_ok-entries.ensures.rises c.in_ok-entries.ensures.sound
    (omega (arith, file-size c.args.map.now (map part_of c.deref-2.result.now) parts-2)))
