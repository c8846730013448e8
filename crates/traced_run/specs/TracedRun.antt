-- A run of an assembly module that ends before the first step that makes a term out of range.
use Rattle.std.specs.Prelude.{ℕ, List, [], ◌∷◌, Bool, true, ◌&&◌, leb, Option, Some, None}
use Rattle.erl_base.specs.declared.ids.FunKey.{FunKey}
use Rattle.erl_term.specs.Depth.{depth, depths}
use Rattle.erl_term.specs.Ranges.{fits}
use Rattle.erl_term.specs.Term.{Term}
use Rattle.world_model.specs.Run.{Outcome, gives, raises, waits, spent}
use Rattle.world_model.specs.World.{Request, call, send, Reply, Script}
use Rattle.step_machine.specs.Steps.{Stepped, goes, ends, bad, notes, asks}
use Rattle.beam_table.specs.Code.{AsmModule}
use Rattle.beam_table.specs.InstructionStep.{step}
use Rattle.beam_table.specs.MachineRun.{start, code_of}
use Rattle.beam_table.specs.MachineState.{Cell, term, Machine}
use Rattle.traced_run.specs.Traces.{Traced, trace}

-- how deep a term may nest, as in its text
abbrev pub most_deep : ℕ
most_deep = 2100

-- a term that a text can have
unfoldable pub in_range : Term → Bool
unfolding depths
in_range t = fits t && leb (depth t) most_deep

-- terms in range
abbrev pub terms_in_range : List Term → Bool
terms_in_range [] = true
terms_in_range (t ∷ ts) = in_range t && terms_in_range ts

-- the terms of registers or of a frame
abbrev pub cells_in_range : List Cell → Bool
cells_in_range [] = true
cells_in_range (term t ∷ cs) = in_range t && cells_in_range cs
cells_in_range (_ ∷ cs) = cells_in_range cs

-- those of a frame, where there is one
abbrev pub frame_in_range : Option (List Cell) → Bool
frame_in_range None = true
frame_in_range (Some ys) = cells_in_range ys

-- those of a request
abbrev pub request_in_range : Request → Bool
request_in_range (call m f ts) = terms_in_range ts
request_in_range (send t u) = in_range t && in_range u
request_in_range _ = true

-- those of an outcome
abbrev pub outcome_in_range : Outcome Term → Bool
outcome_in_range (gives t) = in_range t
outcome_in_range (raises c r) = in_range r
outcome_in_range (waits q) = request_in_range q
outcome_in_range spent = true

-- those that a step makes: in the registers and the frame that it leads to, in its requests, in its end. Waiting frames
-- are as before, and the mailbox comes from the script. What is bad is bad whatever it makes.
unfoldable pub step_in_range : Stepped Machine → List Reply → Bool
unfolding in_range
step_in_range (goes m) rs = cells_in_range m.xs && frame_in_range m.frame
step_in_range (ends o) rs = outcome_in_range o
step_in_range bad rs = true
step_in_range (notes n s) rs = step_in_range s rs
step_in_range (asks q f) [] = request_in_range q
step_in_range (asks q f) (r ∷ rs) = request_in_range q && step_in_range (f r) rs

-- a call of a function for a script, at most k steps of it, all in range
unfoldable pub traced_run : AsmModule → FunKey → List Term → Script → ℕ → Traced
unfolding trace step step_in_range
traced_run a f ts s k = trace step_in_range (step a) k (start s ts (code_of a.funs f)) s.replies []
