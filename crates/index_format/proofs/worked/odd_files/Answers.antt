use Rattle.std.proofs.Common.{refl}
use Rattle.km_names.specs.Number.{be}
use Rattle.index_format.specs.Node.{root, prefix, after_prefix, first_byte, last_byte}
use Rattle.index_format.specs.Node.{children_size, child, children, after_children, values_in}
use Rattle.index_format.specs.Node.{values}
use Rattle.index_format.specs.Check.{prefix_fits, children_fit, whole_values, values_fit, is_sound}
use Rattle.index_format.specs.Check.{arrival_fault, arrival_faults, arrivals, index_fault}
use Rattle.index_format.proofs.worked.odd_files.Goals as goal

pub returns-clause-three_bytes : goal.returns-clause-three_bytes
unfolding be root prefix after_prefix first_byte last_byte children_size child children
    after_children values_in values prefix_fits children_fit whole_values values_fit is_sound
    arrival_fault arrival_faults arrivals index_fault
returns-clause-three_bytes c = refl

pub returns-clause-version : goal.returns-clause-version
unfolding be root prefix after_prefix first_byte last_byte children_size child children
    after_children values_in values prefix_fits children_fit whole_values values_fit is_sound
    arrival_fault arrival_faults arrivals index_fault
returns-clause-version c = refl

pub returns-clause-short : goal.returns-clause-short
unfolding be root prefix after_prefix first_byte last_byte children_size child children
    after_children values_in values prefix_fits children_fit whole_values values_fit is_sound
    arrival_fault arrival_faults arrivals index_fault
returns-clause-short c = refl

pub returns-clause-itself : goal.returns-clause-itself
unfolding be root prefix after_prefix first_byte last_byte children_size child children
    after_children values_in values prefix_fits children_fit whole_values values_fit is_sound
    arrival_fault arrival_faults arrivals index_fault
returns-clause-itself c = refl

pub returns-clause-without_field : goal.returns-clause-without_field
unfolding be root prefix after_prefix first_byte last_byte children_size child children
    after_children values_in values prefix_fits children_fit whole_values values_fit is_sound
    arrival_fault arrival_faults arrivals index_fault
returns-clause-without_field c = refl

pub returns-clause-over_127 : goal.returns-clause-over_127
unfolding be root prefix after_prefix first_byte last_byte children_size child children
    after_children values_in values prefix_fits children_fit whole_values values_fit is_sound
    arrival_fault arrival_faults arrivals index_fault
returns-clause-over_127 c = refl

pub returns-clause-byte_0 : goal.returns-clause-byte_0
unfolding be root prefix after_prefix first_byte last_byte children_size child children
    after_children values_in values prefix_fits children_fit whole_values values_fit is_sound
    arrival_fault arrival_faults arrivals index_fault
returns-clause-byte_0 c = refl

pub returns-clause-turned : goal.returns-clause-turned
unfolding be root prefix after_prefix first_byte last_byte children_size child children
    after_children values_in values prefix_fits children_fit whole_values values_fit is_sound
    arrival_fault arrival_faults arrivals index_fault
returns-clause-turned c = refl

pub returns-clause-offset : goal.returns-clause-offset
unfolding be root prefix after_prefix first_byte last_byte children_size child children
    after_children values_in values prefix_fits children_fit whole_values values_fit is_sound
    arrival_fault arrival_faults arrivals index_fault
returns-clause-offset c = refl

pub returns-clause-prefix : goal.returns-clause-prefix
unfolding be root prefix after_prefix first_byte last_byte children_size child children
    after_children values_in values prefix_fits children_fit whole_values values_fit is_sound
    arrival_fault arrival_faults arrivals index_fault
returns-clause-prefix c = refl

pub returns-clause-count : goal.returns-clause-count
unfolding be root prefix after_prefix first_byte last_byte children_size child children
    after_children values_in values prefix_fits children_fit whole_values values_fit is_sound
    arrival_fault arrival_faults arrivals index_fault
returns-clause-count c = refl

pub returns-clause-in_header : goal.returns-clause-in_header
unfolding be root prefix after_prefix first_byte last_byte children_size child children
    after_children values_in values prefix_fits children_fit whole_values values_fit is_sound
    arrival_fault arrival_faults arrivals index_fault
returns-clause-in_header c = refl

pub returns-clause-bit_28 : goal.returns-clause-bit_28
unfolding be root prefix after_prefix first_byte last_byte children_size child children
    after_children values_in values prefix_fits children_fit whole_values values_fit is_sound
    arrival_fault arrival_faults arrivals index_fault
returns-clause-bit_28 c = refl

pub returns-clause-twice : goal.returns-clause-twice
unfolding be root prefix after_prefix first_byte last_byte children_size child children
    after_children values_in values prefix_fits children_fit whole_values values_fit is_sound
    arrival_fault arrival_faults arrivals index_fault
returns-clause-twice c = refl

pub returns-clause-depth_first : goal.returns-clause-depth_first
unfolding be root prefix after_prefix first_byte last_byte children_size child children
    after_children values_in values prefix_fits children_fit whole_values values_fit is_sound
    arrival_fault arrival_faults arrivals index_fault
returns-clause-depth_first c = refl
