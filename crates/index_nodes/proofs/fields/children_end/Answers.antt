use Rattle.std.proofs.Common.{◌≡◌, refl, sym, subst, ◌∙◌, ◌+◌, ◌-◌, ◌*◌, length, take, drop, get_or}
use Rattle.std.proofs.Common.{true, arith}
use Rattle.std.proofs.lemmas.List.{take_rest}
use Rattle.index_format.specs.declared.numbers.TheConstants.{HAS_CHILDREN}
use Rattle.index_format.specs.Check.{children_fit}
use Rattle.index_nodes.specs.Fields.{IsChildrenEnd}
use Rattle.index_nodes.proofs.FieldLemmas.{bit_set, bit_clear, without_children, with_children}
use Rattle.index_nodes.proofs.FieldLemmas.{cut_children, too_short, no_room, first_is_0, last_below}
use Rattle.index_nodes.proofs.FieldLemmas.{last_above}
use Rattle.index_nodes.proofs.fields.children_end.Goals as goal
use Rattle.index_nodes.proofs.fields.children_end.Goals.{then-first-eq0-via-then-first-eq0}
use Rattle.index_nodes.proofs.fields.children_end.Goals.{then-first-eq0-via-else-first-eq0+then-last-first}
use Rattle.index_nodes.proofs.fields.children_end.Goals.{then-first-eq0-via-else-first-eq0+else-last-first+then-last-gt-LAST_BYTE}

pub returns-then-link-eq0 : goal.returns-then-link-eq0
returns-then-link-eq0 c =
    without_children c.args.bytes.now c.args.link c.args.start
    (bit_clear c.args.link HAS_CHILDREN c.if-link-eq0.true) c.requires.within c.requires.start

pub returns-then-rest-lt2 : goal.returns-then-rest-lt2
returns-then-rest-lt2 c =
    let b = c.args.bytes.now in
    let rest = take (length b - c.args.start) (drop c.args.start b) in
    let is = take_rest b c.args.start ∙ c.requires.start in
    cut_children b c.args.link (get_or rest 0 0) (get_or rest 1 0) rest
    (bit_set c.args.link HAS_CHILDREN c.if-link-eq0.false) is refl refl
    (too_short rest (get_or rest 0 0) (get_or rest 1 0) c.if-rest-lt2.true)

pub returns-then-first-eq0 : goal.returns-then-first-eq0
returns-then-first-eq0 c =
    let b = c.args.bytes.now in
    let rest = take (length b - c.args.start) (drop c.args.start b) in
    let is = take_rest b c.args.start ∙ c.requires.start in
    let first = get_or rest 0 0 in
    let last = get_or rest 1 0 in
    cut_children b c.args.link first last rest
    (bit_set c.args.link HAS_CHILDREN c.if-link-eq0.false) is refl refl
    (elim c.then-first-eq0.branch [
      | then-first-eq0-via-then-first-eq0 w ↦ first_is_0 rest first last w.if-first-eq0.true
      | then-first-eq0-via-else-first-eq0+then-last-first w ↦ last_below rest first last
          w.if-last-first.true
      | then-first-eq0-via-else-first-eq0+else-last-first+then-last-gt-LAST_BYTE w ↦ last_above rest
          first last w.if-last-gt-LAST_BYTE.true
    ])

pub returns-then-size-rest : goal.returns-then-size-rest
returns-then-size-rest c =
    let b = c.args.bytes.now in
    let link = c.args.link in
    let rest = take (length b - c.args.start) (drop c.args.start b) in
    let first = get_or rest 0 0 in
    let last = get_or rest 1 0 in
    let size : c.from.result ≡ last - first = c.from.ensures in
    subst (λ n. (children_fit b link ≡ true)
    × IsChildrenEnd b link (c.args.start + (2 + 4 * (n + 1)))) (sym size)
    (with_children b link c.args.start first last rest
    (bit_set link HAS_CHILDREN c.if-link-eq0.false) c.requires.within c.requires.start
    (take_rest b c.args.start) refl refl c.if-rest-lt2.false (omega arith)
    c.if-last-first.false c.if-last-gt-LAST_BYTE.false
    (omega (arith, size, c.if-size-rest.true)))

pub returns-else-size-rest : goal.returns-else-size-rest
returns-else-size-rest c =
    let b = c.args.bytes.now in
    let rest = take (length b - c.args.start) (drop c.args.start b) in
    let is = take_rest b c.args.start ∙ c.requires.start in
    let first = get_or rest 0 0 in
    let last = get_or rest 1 0 in
    let size : c.from.result ≡ last - first = c.from.ensures in
    cut_children b c.args.link first last rest
    (bit_set c.args.link HAS_CHILDREN c.if-link-eq0.false) is refl refl
    (no_room rest first last (omega (arith, size, c.if-size-rest.false)))
