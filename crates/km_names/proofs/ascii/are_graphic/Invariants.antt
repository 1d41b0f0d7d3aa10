use Rattle.std.proofs.Common.{◌≡◌, take}
use Rattle.std.specs.List.{list_all}
use Rattle.std.specs.Char.{is_ascii_graphic}
use Rattle.km_names.proofs.ascii.are_graphic.Given as goal

abbrev pub invariant-loop-i : goal.invariant-loop-i
invariant-loop-i l = l.graphic ≡ list_all is_ascii_graphic (take l.i l.text)
