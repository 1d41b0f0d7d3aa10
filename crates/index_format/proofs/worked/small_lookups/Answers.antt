use Rattle.std.proofs.Common.{refl}
use Rattle.km_names.specs.Number.{be}
use Rattle.index_format.specs.Node.{root, prefix, after_prefix, first_byte, last_byte}
use Rattle.index_format.specs.Node.{children_size, child, children, after_children, values_in}
use Rattle.index_format.specs.Node.{values}
use Rattle.index_format.specs.Walk.{step, walk_within, walk, at}
use Rattle.index_format.proofs.worked.small_lookups.Goals as goal

pub returns-clause-key : goal.returns-clause-key
unfolding be root prefix after_prefix first_byte last_byte children_size child children
    after_children values_in values step walk_within walk at
returns-clause-key c = refl

pub returns-clause-begins : goal.returns-clause-begins
unfolding be root prefix after_prefix first_byte last_byte children_size child children
    after_children values_in values step walk_within walk at
returns-clause-begins c = refl

pub returns-clause-part : goal.returns-clause-part
unfolding be root prefix after_prefix first_byte last_byte children_size child children
    after_children values_in values step walk_within walk at
returns-clause-part c = refl

pub returns-clause-absent : goal.returns-clause-absent
unfolding be root prefix after_prefix first_byte last_byte children_size child children
    after_children values_in values step walk_within walk at
returns-clause-absent c = refl

pub returns-clause-empty : goal.returns-clause-empty
unfolding be root prefix after_prefix first_byte last_byte children_size child children
    after_children values_in values step walk_within walk at
returns-clause-empty c = refl

pub returns-clause-module : goal.returns-clause-module
unfolding be root prefix after_prefix first_byte last_byte children_size child children
    after_children values_in values step walk_within walk at
returns-clause-module c = refl
