-- The runs of the worked programs, computed.
use Rattle.std.proofs.Common.{refl}
use Rattle.worked_runs.specs.Programs.{applied_to_no_list, captured_by_no_procedure, captured_by_two_parameters, too_many_operands, negative_power, large_power, index_of_no_integer, literal_written, operands_in_order, assigned_undefined, referred_undefined, closures}
use Rattle.worked_runs.specs.Runs.{RunsAlike}

pub runs_applied_to_no_list : RunsAlike applied_to_no_list
runs_applied_to_no_list = record { source = refl; of_form = refl }

pub runs_captured_by_no_procedure : RunsAlike captured_by_no_procedure
runs_captured_by_no_procedure = record { source = refl; of_form = refl }

pub runs_captured_by_two_parameters : RunsAlike captured_by_two_parameters
runs_captured_by_two_parameters = record { source = refl; of_form = refl }

pub runs_too_many_operands : RunsAlike too_many_operands
runs_too_many_operands = record { source = refl; of_form = refl }

pub runs_negative_power : RunsAlike negative_power
runs_negative_power = record { source = refl; of_form = refl }

pub runs_large_power : RunsAlike large_power
runs_large_power = record { source = refl; of_form = refl }

pub runs_index_of_no_integer : RunsAlike index_of_no_integer
runs_index_of_no_integer = record { source = refl; of_form = refl }

pub runs_literal_written : RunsAlike literal_written
runs_literal_written = record { source = refl; of_form = refl }

pub runs_operands_in_order : RunsAlike operands_in_order
runs_operands_in_order = record { source = refl; of_form = refl }

pub runs_assigned_undefined : RunsAlike assigned_undefined
runs_assigned_undefined = record { source = refl; of_form = refl }

pub runs_referred_undefined : RunsAlike referred_undefined
runs_referred_undefined = record { source = refl; of_form = refl }

pub runs_closures : RunsAlike closures
runs_closures = record { source = refl; of_form = refl }
