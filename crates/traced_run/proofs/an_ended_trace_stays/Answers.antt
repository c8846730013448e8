use Rattle.std.proofs.Common.{[]}
use Rattle.beam_table.specs.InstructionStep.{step}
use Rattle.beam_table.specs.MachineRun.{start, code_of}
use Rattle.traced_run.specs.TracedRun.{step_in_range, traced_run}
use Rattle.traced_run.proofs.Tracing.{stays}
use Rattle.traced_run.proofs.an_ended_trace_stays.Goals as goal

pub returns : goal.returns
unfolding traced_run
returns c = λ a f ts s j k. stays step_in_range (step a) k (start s ts (code_of a.funs f)) s.replies [] j
