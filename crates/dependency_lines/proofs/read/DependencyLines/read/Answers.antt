use Rattle.std.proofs.Common.{◌≡◌, ◌++◌, ◌∷◌, [], true, sym, ap, subst, ◌∙◌, append_assoc}
use Rattle.std.specs.FinMap.{entries}
use Rattle.std.specs.Option.{option_map}
use Rattle.std.proofs.lemmas.List.{append-nil}
use Rattle.std.proofs.lemmas.List.Elements.{All-push}
use Rattle.index_format.specs.Listing.{KeyValue}
use Rattle.index_read.specs.Contents.{contents}
use Rattle.name_lookup.specs.Maps.{has_value}
use Rattle.dependency_lines.specs.GoodPaths.{begins_line}
use Rattle.dependency_lines.specs.Modules.{bad_among, first_values}
use Rattle.dependency_lines.specs.Tables.{NamesRise}
use Rattle.dependency_lines.specs.declared.fault.LineFault.TheVariants.{BadLine}
use Rattle.dependency_lines.proofs.Faults.{right}
use Rattle.dependency_lines.proofs.Firsts.{firsts-are, map-sorted, sorted-firsts}
use Rattle.dependency_lines.proofs.Kept.{sorted-rise}
use Rattle.dependency_lines.proofs.Own.{begins-colon}
use Rattle.dependency_lines.proofs.read.DependencyLines.read.Goals as goal

pub returns-in_default-own_length-clause-err : goal.returns-in_default-own_length-clause-err
returns-in_default-own_length-clause-err c =
    let dep = contents c.args.index.now.nodes in
    let lines = c.loop-walk.lines in
    let left = c.next.new.self.left in
    let number = c.in-Some.first.priority in
    let text = c.in-Some.first.text.now in
    let name = c.key-in_default-own_length.ensures in
    let next = rw c.in-Some.is at c.in_ok-first.ensures.next in
    let none = rw c.in_default-own_length.is at c.own_length.ensures in
    let begins = ap (λ k. begins_line k text) (name ∙ sym c.key.ensures) ∙ none in
    let whole
    = ap (λ k. lines ++ (k, (number, text)) ∷ left) name ∙ ap (λ ls. lines ++ ls) (sym next)
    ∙ c.loop-walk.invariant.parts in
    let firsts
    = firsts-are dep
    (lines ++ (c.key-in_default-own_length.result.now, (number, text)) ∷ left) whole in
    right (λ e. ap (λ fs. option_map BadLine (bad_among (has_value dep) fs)) (sym firsts) ∙ e)
    (c.bad_line.ensures number text left begins)

pub push-requires-clause-colon : goal.push-requires-clause-colon
push-requires-clause-colon c =
    begins-colon c.key.result.now c.in-Some.first.text.now c.in-Some-own_length.ensures.0

pub loop-walk-preserved : goal.loop-walk-preserved
loop-walk-preserved c =
    let lines = c.loop-walk.lines in
    let left = c.next.new.self.left in
    let number = c.in-Some.first.priority in
    let text = c.in-Some.first.text.now in
    let name = c.key-in-Some.ensures in
    let m : KeyValue = (c.key-in-Some.result.now, (number, text)) in
    let next = rw c.in-Some.is at c.in_ok-first.ensures.next in
    let begins : begins_line c.key-in-Some.result.now text ≡ true
    = ap (λ k. begins_line k text) (name ∙ sym c.key.ensures) ∙ c.in-Some-own_length.ensures.0 in
    record {
      parts =
          ap (λ ls. ls ++ left) c.in_ok-push.ensures
          ∙ append_assoc lines (m ∷ []) left
          ∙ ap (λ k. lines ++ (k, (number, text)) ∷ left) name
          ∙ ap (λ ls. lines ++ ls) (sym next)
          ∙ c.loop-walk.invariant.parts;
      begin =
          rw c.in_ok-push.ensures
          (All-push (λ (m : KeyValue). begins_line m.0 m.1.1 ≡ true) lines m
          c.loop-walk.invariant.begin begins);
    }

pub invariant_of-result : goal.invariant_of-result
invariant_of-result c =
    let dep = contents c.args.index.now.nodes in
    let lines = c.loop-walk.lines in
    let none = rw c.in_default.is at c.in_ok-first.ensures.next in
    let firsts
    = firsts-are dep lines
    (sym (append-nil lines) ∙ ap (λ ls. lines ++ ls) (sym none)
    ∙ c.loop-walk.invariant.parts) in
    record {
      rise
          = subst NamesRise (sym firsts)
          (sorted-rise (first_values dep) (sorted-firsts (entries dep) (map-sorted dep)));
      begin = c.loop-walk.invariant.begin;
    }
