use Rattle.std.proofs.Common.{◌≡◌, ◌++◌, [], filter, map, sym, ap, ◌∙◌, arith}
use Rattle.std.proofs.lemmas.List.{append-nil}
use Rattle.km_names.specs.Ascii.{is_graphic}
use Rattle.km_names.specs.Lines.{lines_of}
use Rattle.km_names.specs.Path.{module_name}
use Rattle.unmet_file.proofs.TextLines.{no-lines}
use Rattle.depmod_core.proofs.built_in.listed_names.Goals as goal

pub returns : goal.returns
returns c =
    let none : lines_of c.loop-rest.rest.now ≡ [] = no-lines c.loop-rest.rest.now (grind arith) in
    sym (append-nil c.loop-rest.names)
    ∙ ap (λ lines. c.loop-rest.names ++ filter is_graphic (map module_name lines)) (sym none)
    ∙ c.loop-rest.invariant
