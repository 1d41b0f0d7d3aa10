use Rattle.std.proofs.Common.{◌≡◌, map, take}
use Rattle.stages_files.proofs.configuration.paths_from.Given as goal

-- the paths so far
abbrev pub invariant-loop-text : goal.invariant-loop-text
invariant-loop-text l = l.paths ≡ map (λ text. text.now) (take l.text-index l.texts)
