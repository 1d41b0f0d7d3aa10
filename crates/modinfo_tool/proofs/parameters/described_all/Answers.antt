use Rattle.std.proofs.Common.{◌≡◌, ◌<◌, ◌++◌, ◌∷◌, [], ℕ, List, None, Some, length, get_or, map}
use Rattle.std.proofs.Common.{option_map, take, sym, ap, ◌∙◌, arith}
use Rattle.std.specs.List.{slice_get}
use Rattle.std.proofs.lemmas.List.{map_more}
use Rattle.std.proofs.lemmas.Option.{get_or_from_slice_get, slice_get-get_or}
use Rattle.modinfo_tool.specs.Parameters.{described}
use Rattle.modinfo_tool.specs.Tables.{told_in}
use Rattle.modinfo_tool.proofs.parameters.described_all.Goals as goal
use Rattle.modinfo_tool.proofs.parameters.described_all.Goals.{in-Some+in_ok-describe_by+in_ok-push}
use Rattle.modinfo_tool.proofs.parameters.described_all.Goals.{in_default}

pub loop-i-preserved : goal.loop-i-preserved
loop-i-preserved c =
    let names = c.args.names.now in
    let i = c.loop-i.i in
    let within : i < length names = omega (arith, c.loop-i-test.true, c.len-i-end.ensures) in
    let value
    = λ (name : List ℕ). described name (told_in c.args.texts.now name)
    (told_in c.args.kinds.now name) in
    elim c.match-get.branch [
      | in-Some+in_ok-describe_by+in_ok-push w ↦
          let name = w.in-Some.name.now in
          let here : slice_get names i ≡ Some name
          = sym c.get.ensures ∙ ap (option_map (λ n. n.now)) w.in-Some.is in
          w.values-is
          ∙ w.in_ok-push.ensures.ok
          ∙ (λ j. c.loop-i.invariant j ++ w.in_ok-describe_by.ensures j ∷ [])
          ∙ sym (map_more value names i name within
          ∙ ap (λ n. map value (take i names) ++ value n ∷ [])
          (get_or_from_slice_get names i name name here))
      | in_default w ↦
          let none : slice_get names i ≡ None
          = sym c.get.ensures ∙ ap (option_map (λ n. n.now)) w.in_default.is in
          let some : slice_get names i ≡ Some (get_or names i [])
          = slice_get-get_or names i [] within in
          cc
    ]
