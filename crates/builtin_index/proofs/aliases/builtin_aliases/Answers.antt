use Rattle.std.proofs.Common.{ap, sym, subst, ◌∙◌, map, All, rules}
use Rattle.std.specs.List.{filter_map}
use Rattle.std.specs.FinMap.{empty}
use Rattle.std.proofs.lemmas.Fn.{always_returns_same}
use Rattle.std.proofs.lemmas.Result.{IfOk-weaker}
use Rattle.builtin_index.specs.Fields.{fields_of}
use Rattle.index_format.specs.Listing.{map_of}
use Rattle.builtin_index.specs.Aliases.{modules_of, alias_map}
use Rattle.builtin_index.specs.Parts.{alias_shown, value_at, IsWord}
use Rattle.builtin_index.proofs.Places.{same-values}
use Rattle.builtin_index.proofs.MapOrder.{sorted-values, sorted-words}
use Rattle.builtin_index.proofs.aliases.builtin_aliases.Goals as goal

pub map_of_aliases-requires : goal.map_of_aliases-requires
map_of_aliases-requires c =
    subst (All IsWord) (sym c.deref.ensures.value)
    (sorted-words c.in_ok-list.list.items c.sort_by_key.new.self.items
    (c.in_ok-sort_by_key.ensures.sorted (λ s. s.place)
    (always_returns_same _ _ _ (λ a r q k. search rules)))
    (c.in_ok-sort_by_key.ensures.stable (λ s. s.place)
    (always_returns_same _ _ _ (λ a r q k. search rules)))
    c.in_ok-list.ensures.words)

pub returns : goal.returns
unfolding alias_map
returns c =
    let fields = fields_of c.args.bytes.now in
    let before = c.in_ok-list.list.items in
    let after = c.sort_by_key.new.self.items in
    let same =
    ap (λ l. map_of (filter_map value_at (map alias_shown l))) c.deref.ensures.value
    ∙ sorted-values before after empty
    (c.in_ok-sort_by_key.ensures.sorted (λ s. s.place)
    (always_returns_same _ _ _ (λ a r q k. search rules)))
    (c.in_ok-sort_by_key.ensures.stable (λ s. s.place)
    (always_returns_same _ _ _ (λ a r q k. search rules)))
    ∙ ap (λ list. map_of (filter_map value_at list)) c.in_ok-list.ensures.aliases
    ∙ ap map_of (same-values (modules_of fields) fields) in
    IfOk-weaker c.map_of_aliases.result _ _ (λ m is. is ∙ same) c.map_of_aliases.ensures
