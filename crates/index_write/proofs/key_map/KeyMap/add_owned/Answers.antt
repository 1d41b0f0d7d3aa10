use Rattle.std.proofs.Common.{ap, ◌∙◌, sym, subst, string_bytes, arith, ◌<◌, ◌^◌}
use Rattle.std.proofs.lemmas.Result.{on_ok_weaker}
use Rattle.index_format.specs.Map.{with_value, IsKey, IsText}
use Rattle.index_write.specs.Lists.{value_of, entries_of}
use Rattle.index_write.proofs.KeyLemmas.{sound_after, with_one-sound, map_of-with_one}
use Rattle.index_write.proofs.key_map.KeyMap.add_owned.Goals as goal

pub invariant_of-self : goal.invariant_of-self
invariant_of-self c =
    let fits : c.args.priority < 2 ^ 32 = omega arith in
    let text = c.in_ok-from_slice.field-0 in
    let value = value_of (record { priority = c.args.priority; text = text }) in
    sound_after c.add_value.result c.self.inside.lists.entries c.add_value.new.lists.entries _
    c.add_value.ensures.ok c.add_value.ensures.err
    (with_one-sound (entries_of c.self.inside.lists.entries) (string_bytes c.key_text.result) value
    c.self.invariant
    (subst IsKey (sym c.key_text.ensures) c.requires.key)
    (fits, subst IsText (sym c.in_ok-from_slice.ensures) c.requires.text))
    c.self.invariant

pub returns-clause-ok : goal.returns-clause-ok
returns-clause-ok c =
    let text = c.in_ok-from_slice.field-0 in
    on_ok_weaker c.add_value.result (λ e.
    map_of-with_one c.self.inside.lists.entries c.add_value.new.lists.entries
    (string_bytes c.key_text.result) _ c.add_value.ensures.ordered e
    ∙ ap (λ m. with_value m (string_bytes c.key_text.result) (c.args.priority, text))
    c.self.view_is
    ∙ ap (λ text. with_value c.args.self.now (string_bytes c.key_text.result)
    (c.args.priority, text)) c.in_ok-from_slice.ensures
    ∙ ap (λ key. with_value c.args.self.now key (c.args.priority, c.args.text.now))
    c.key_text.ensures) c.add_value.ensures.ok
