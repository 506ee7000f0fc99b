use Rattle.worked_runs.proofs.Computed.{runs_applied_to_no_list, runs_captured_by_no_procedure, runs_captured_by_two_parameters, runs_too_many_operands, runs_negative_power, runs_large_power, runs_index_of_no_integer, runs_literal_written, runs_operands_in_order, runs_assigned_undefined, runs_referred_undefined, runs_closures}
use Rattle.worked_runs.proofs.law.worked_programs_run_alike.Goals as goal

pub returns : goal.returns
returns c = (runs_applied_to_no_list, (runs_captured_by_no_procedure, (runs_captured_by_two_parameters, (runs_too_many_operands, (runs_negative_power, (runs_large_power, (runs_index_of_no_integer, (runs_literal_written, (runs_operands_in_order, (runs_assigned_undefined, (runs_referred_undefined, (runs_closures, tt))))))))))))
