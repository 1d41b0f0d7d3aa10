use Rattle.std.proofs.Common.{◌≡◌, ◌++◌, length, ap, ◌∙◌, arith}
use Rattle.std.specs.List.{flat_map}
use Rattle.km_names.specs.Lines.{lines_of}
use Rattle.loaded_list.specs.Loaded.{name_if_any}
use Rattle.loaded_list.proofs.LineSteps.{begins, one-more, no-more}
use Rattle.loaded_list.proofs.loaded.Loaded.read.Goals as goal

pub loop-rest-init : goal.loop-rest-init
loop-rest-init c =
    ap (λ ns. ns ++ flat_map name_if_any (lines_of c.args.bytes.now)) c.new-names.ensures
    ∙ begins c.args.bytes.now

pub loop-rest-preserved : goal.loop-rest-preserved
loop-rest-preserved c =
    one-more c.loop-rest.names _ c.loop-rest.rest.now c.first_line.result.0.now
    c.first_line.result.1.now c.args.bytes.now c.first_line.ensures.lines
    c.in_ok-push_name.ensures c.loop-rest.invariant

pub returns : goal.returns
returns c =
    let over : length c.loop-rest.rest.now ≡ 0 = grind arith in
    no-more c.loop-rest.names c.loop-rest.rest.now c.args.bytes.now over c.loop-rest.invariant
