use Rattle.std.proofs.Common.{◌≡◌, ◌<◌, ◌++◌, ◌∷◌, true, All, Some, None, length, map, sym, ap}
use Rattle.std.proofs.Common.{subst, ◌∙◌, append-nil, arith}
use Rattle.std.specs.Prelude.{codes}
use Rattle.std.specs.List.{filter_map}
use Rattle.std.specs.Str.{bytes_eq}
use Rattle.std.proofs.lemmas.Bool.{eqb-true, eqb-false}
use Rattle.std.proofs.lemmas.List.{nil_from_length, map-append}
use Rattle.std.proofs.lemmas.List.Elements.{All-nil, All-push}
use Rattle.km_names.specs.Ascii.{is_graphic}
use Rattle.index_write.proofs.VisibleWords.{both}
use Rattle.builtin_index.specs.Fields.{fields_of}
use Rattle.builtin_index.specs.Aliases.{is_alias, modules_of}
use Rattle.builtin_index.specs.Parts.{field_shown, alias_shown, alias_in, IsWord}
use Rattle.builtin_index.proofs.Pieces.{fields-nil, fields-rest, after-shorter}
use Rattle.builtin_index.proofs.Places.{Keeps, Placed, keeps-first, keeps-skipped, keeps-field}
use Rattle.builtin_index.proofs.Places.{keeps-alias}
use Rattle.builtin_index.proofs.aliases.stated_aliases.Goals as goal

pub loop-rest-init : goal.loop-rest-init
loop-rest-init c =
    let bytes = c.args.bytes.now in
    let seen = c.new-seen.result in
    record {
      keeps
          = subst (λ list. Keeps seen (map alias_shown list) bytes bytes)
          (sym c.new-list.ensures.items) (keeps-first seen bytes c.new-seen.ensures.seen);
      count = omega (arith, c.new-seen.ensures.count);
      words = subst (All IsWord) (sym c.new-list.ensures.items) (All-nil IsWord);
    }

pub loop-rest-preserved-in_ok-push : goal.loop-rest-preserved-in_ok-push
loop-rest-preserved-in_ok-push c =
    let rest = c.loop-rest.rest.now in
    let next = c.split_at_byte.result.1.now in
    let list = c.loop-rest.list.items in
    let field = field_shown c.in-Some.parts in
    let some : 0 < length rest
    = omega (arith, eqb-false (length rest) 0 (sym c.loop-rest-test.ensures)) in
    let is : fields_of rest ≡ field ∷ fields_of next
    = fields-rest rest c.split_at_byte.result.0.now next (Some field)
    c.split_at_byte.ensures.before c.split_at_byte.ensures.after c.in-Some.ensures.field in
    let placed : Placed c.loop-rest.seen c.place.new.self field.module c.in_ok-place.place
    = record { seen = c.in_ok-place.ensures.seen; place = c.in_ok-place.ensures.place } in
    let alias : is_alias field ≡ true = sym c.is_alias.ensures ∙ c.if-is_alias.true in
    let shorter : length next < length rest
    = after-shorter rest next some c.split_at_byte.ensures.after in
    record {
      keeps = subst (λ l. Keeps c.place.new.self l next c.args.bytes.now)
          (sym (ap (map alias_shown) c.in_ok-push.ensures.items ∙ map-append alias_shown list _))
          (keeps-alias c.loop-rest.seen c.place.new.self (map alias_shown list) rest next
          c.args.bytes.now field c.in_ok-place.place c.loop-rest.invariant.keeps is placed
          alias);
      count = omega (arith, c.in_ok-place.ensures.count, c.loop-rest.invariant.count);
      words = subst (All IsWord) (sym c.in_ok-push.ensures.items)
          (All-push IsWord list _ c.loop-rest.invariant.words
          (record {
            «module» = c.in-Some.ensures.word;
            alias
                = (both (bytes_eq field.key (codes "alias")) (is_graphic field.value)
                alias).1;
          }));
    }

pub loop-rest-preserved-else-is_alias : goal.loop-rest-preserved-else-is_alias
loop-rest-preserved-else-is_alias c =
    let rest = c.loop-rest.rest.now in
    let next = c.split_at_byte.result.1.now in
    let list = c.loop-rest.list.items in
    let field = field_shown c.in-Some.parts in
    let some : 0 < length rest
    = omega (arith, eqb-false (length rest) 0 (sym c.loop-rest-test.ensures)) in
    let is : fields_of rest ≡ field ∷ fields_of next
    = fields-rest rest c.split_at_byte.result.0.now next (Some field)
    c.split_at_byte.ensures.before c.split_at_byte.ensures.after c.in-Some.ensures.field in
    let placed : Placed c.loop-rest.seen c.place.new.self field.module c.in_ok-place.place
    = record { seen = c.in_ok-place.ensures.seen; place = c.in_ok-place.ensures.place } in
    let shorter : length next < length rest
    = after-shorter rest next some c.split_at_byte.ensures.after in
    record {
      keeps
          = keeps-field c.loop-rest.seen c.place.new.self (map alias_shown list) rest next
          c.args.bytes.now field c.in_ok-place.place c.loop-rest.invariant.keeps is placed
          (sym c.is_alias.ensures ∙ c.if-is_alias.false);
      count = omega (arith, c.in_ok-place.ensures.count, c.loop-rest.invariant.count);
      words = c.loop-rest.invariant.words;
    }

pub loop-rest-preserved : goal.loop-rest-preserved
loop-rest-preserved c =
    let rest = c.loop-rest.rest.now in
    let next = c.split_at_byte.result.1.now in
    let list = c.loop-rest.list.items in
    let some : 0 < length rest
    = omega (arith, eqb-false (length rest) 0 (sym c.loop-rest-test.ensures)) in
    let is : fields_of rest ≡ fields_of next
    = fields-rest rest c.split_at_byte.result.0.now next None c.split_at_byte.ensures.before
    c.split_at_byte.ensures.after c.in_default.ensures.field in
    let shorter : length next < length rest
    = after-shorter rest next some c.split_at_byte.ensures.after in
    record {
      keeps
          = keeps-skipped c.loop-rest.seen (map alias_shown list) rest next c.args.bytes.now
          c.loop-rest.invariant.keeps is;
      count = omega (arith, c.loop-rest.invariant.count);
      words = c.loop-rest.invariant.words;
    }

pub returns-clause-aliases : goal.returns-clause-aliases
returns-clause-aliases c =
    let rest = c.loop-rest.rest.now in
    let shown = map alias_shown c.loop-rest.list.items in
    let modules = modules_of (fields_of c.args.bytes.now) in
    let none = nil_from_length rest (eqb-true (length rest) 0 (sym c.loop-rest-test.ensures)) in
    sym (append-nil shown)
    ∙ ap (λ fs. shown ++ filter_map (alias_in modules) fs) (sym (ap fields_of none ∙ fields-nil))
    ∙ c.loop-rest.invariant.keeps.aliases
