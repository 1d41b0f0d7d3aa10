use Rattle.std.proofs.Common.{refl}
use Rattle.km_names.specs.Number.{be}
use Rattle.index_format.specs.Node.{root, prefix, after_prefix, first_byte, last_byte}
use Rattle.index_format.specs.Node.{children_size, child, children, after_children, values_in}
use Rattle.index_format.specs.Node.{values}
use Rattle.index_format.specs.Check.{prefix_fits, children_fit, whole_values, values_fit, is_sound}
use Rattle.index_format.specs.Check.{arrival_fault, arrival_faults, arrivals, index_fault}
use Rattle.index_format.proofs.worked.refused_files.Goals as goal

pub returns-clause-no_keys : goal.returns-clause-no_keys
unfolding be root prefix after_prefix first_byte last_byte children_size child children
    after_children values_in values prefix_fits children_fit whole_values values_fit is_sound
    arrival_fault arrival_faults arrivals index_fault
returns-clause-no_keys c = refl

pub returns-clause-five_keys : goal.returns-clause-five_keys
unfolding be root prefix after_prefix first_byte last_byte children_size child children
    after_children values_in values prefix_fits children_fit whole_values values_fit is_sound
    arrival_fault arrival_faults arrivals index_fault
returns-clause-five_keys c = refl

pub returns-clause-two_modules : goal.returns-clause-two_modules
unfolding be root prefix after_prefix first_byte last_byte children_size child children
    after_children values_in values prefix_fits children_fit whole_values values_fit is_sound
    arrival_fault arrival_faults arrivals index_fault
returns-clause-two_modules c = refl

pub returns-clause-empty : goal.returns-clause-empty
unfolding be root prefix after_prefix first_byte last_byte children_size child children
    after_children values_in values prefix_fits children_fit whole_values values_fit is_sound
    arrival_fault arrival_faults arrivals index_fault
returns-clause-empty c = refl

pub returns-clause-magic : goal.returns-clause-magic
unfolding be root prefix after_prefix first_byte last_byte children_size child children
    after_children values_in values prefix_fits children_fit whole_values values_fit is_sound
    arrival_fault arrival_faults arrivals index_fault
returns-clause-magic c = refl

pub returns-clause-version : goal.returns-clause-version
unfolding be root prefix after_prefix first_byte last_byte children_size child children
    after_children values_in values prefix_fits children_fit whole_values values_fit is_sound
    arrival_fault arrival_faults arrivals index_fault
returns-clause-version c = refl

pub returns-clause-short : goal.returns-clause-short
unfolding be root prefix after_prefix first_byte last_byte children_size child children
    after_children values_in values prefix_fits children_fit whole_values values_fit is_sound
    arrival_fault arrival_faults arrivals index_fault
returns-clause-short c = refl

pub returns-clause-after : goal.returns-clause-after
unfolding be root prefix after_prefix first_byte last_byte children_size child children
    after_children values_in values prefix_fits children_fit whole_values values_fit is_sound
    arrival_fault arrival_faults arrivals index_fault
returns-clause-after c = refl

pub returns-clause-twice : goal.returns-clause-twice
unfolding be root prefix after_prefix first_byte last_byte children_size child children
    after_children values_in values prefix_fits children_fit whole_values values_fit is_sound
    arrival_fault arrival_faults arrivals index_fault
returns-clause-twice c = refl

pub returns-clause-cut_off : goal.returns-clause-cut_off
unfolding be root prefix after_prefix first_byte last_byte children_size child children
    after_children values_in values prefix_fits children_fit whole_values values_fit is_sound
    arrival_fault arrival_faults arrivals index_fault
returns-clause-cut_off c = refl
