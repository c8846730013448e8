use Rattle.std.proofs.Common.{[]}
use Rattle.beam_table.specs.InstructionStep.{step}
use Rattle.beam_table.specs.MachineRun.{asm_run, start, code_of}
use Rattle.traced_run.specs.TracedRun.{step_in_range, traced_run}
use Rattle.traced_run.proofs.Tracing.{stops}
use Rattle.traced_run.proofs.a_trace_beyond_stops_at_the_first_step_out_of_range.Goals as goal

pub returns : goal.returns
unfolding asm_run traced_run
returns c = λ a f ts s k. stops step_in_range (step a) k (start s ts (code_of a.funs f)) s.replies []
