use Rattle.std.proofs.Common.{◌≡◌, ◌∷◌, [], ℕ, Bool, false, List, refl, sym, ap, ◌∙◌, subst}
use Rattle.std.specs.Prelude.{IfOk, slice_get}
use Rattle.std.specs.Option.{option_map_or}
use Rattle.index_format.specs.Map.{Value, values_of}
use Rattle.index_read.specs.Contents.{contents}
use Rattle.index_read.specs.Lookups.{text_of_first}
use Rattle.name_lookup.specs.Maps.{has_value}
use Rattle.dependency_lines.specs.Modules.{is_line_of}
use Rattle.dependency_lines.specs.GoodPaths.{are_good_needs, is_good}
use Rattle.dependency_lines.proofs.line.well_formed.Goals as goal

-- a test of the text of the first value
by-text : (test : List ℕ → Bool) (vs : List Value)
    → option_map_or (λ (v : Value). test v.1) (slice_get vs 0) false
    ≡ option_map_or test (text_of_first vs) false
by-text test [] = refl
by-text test (v ∷ vs) = refl

pub returns-in-Some : goal.returns-in-Some
returns-in-Some c =
    let dep = contents c.args.indexes.now.dep.nodes in
    let name = c.args.name.now in
    let test = is_line_of (has_value dep) name in
    subst (λ b. IfOk c.is_line.result (λ good. good ≡ b))
    (ap (λ n. is_line_of (has_value dep) n c.in-Some.line.now) c.as_bytes-in-Some.ensures
    ∙ ap (λ o. option_map_or test o false)
    (c.in-Some.ensures.held ∙ ap (λ n. text_of_first (values_of dep n)) c.as_bytes.ensures)
    ∙ sym (by-text test (values_of dep name)))
    c.is_line.ensures.good

pub returns-in-None : goal.returns-in-None
returns-in-None c =
    let dep = contents c.args.indexes.now.dep.nodes in
    let name = c.args.name.now in
    let test = is_line_of (has_value dep) name in
    ap (λ o. option_map_or test o false)
    (c.in-None.ensures.held ∙ ap (λ n. text_of_first (values_of dep n)) c.as_bytes.ensures)
    ∙ sym (by-text test (values_of dep name))

pub is_line-requires-clause-paths : goal.is_line-requires-clause-paths
is_line-requires-clause-paths c =
    c.without_slots-paths.ensures (is_good (has_value (contents c.args.indexes.now.dep.nodes)))

pub is_line-requires-clause-lists : goal.is_line-requires-clause-lists
is_line-requires-clause-lists c =
    c.without_slots-lists.ensures
    (are_good_needs (has_value (contents c.args.indexes.now.dep.nodes)))
