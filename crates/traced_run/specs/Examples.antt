-- Small traced runs, computed: a sum at the end of the range, one past it, and one past it that is written over a tag.
use Rattle.std.specs.Prelude.{◌≡◌, ◌-◌, ◌^◌, List, [], ◌∷◌, None, codes, pos}
use Rattle.erl_term.specs.Term as T
use Rattle.erl_term.specs.Term.{Term}
use Rattle.bif_table.specs.Builtins.{Add}
use Rattle.world_model.specs.Run.{gives}
use Rattle.step_machine.specs.Steps.{over, is_bad}
use Rattle.beam_table.specs.Code as C
use Rattle.beam_table.specs.Code.{Insn, reg, x_reg, y_reg, return, gc_bif, allocate, try, AsmModule}
use Rattle.traced_run.specs.Traces.{TraceEnd, ended, beyond}
use Rattle.traced_run.specs.TracedRun.{traced_run}

-- a module of one function with one parameter
abbrev pub one_function : List Insn → AsmModule
one_function is = record {
  name = codes "m";
  exports = record { name = codes "f"; arity = 1 } ∷ [];
  attributes = [];
  funs = record { key = record { name = codes "f"; arity = 1 }; info = 1; entry = 2; code = is } ∷ [];
}

-- how a call with an argument ends within twenty steps, with no replies
unfoldable pub end_with : List Insn → Term → TraceEnd
unfolding traced_run
end_with is t =
    (traced_run (one_function is) (record { name = codes "f"; arity = 1 }) (t ∷ [])
    (record { own = T.pid 1; mailbox = []; replies = []; choices = [] }) 20).end

-- a sum of 2^127 - 1, one of 2^127, and one that is written where nothing may be
pub record SumsAtTheRange : Type 0 where
  -- a sum of 2^127 - 1 is in range
  pub last : end_with (gc_bif Add None 1 (reg (x_reg 0) ∷ C.integer (pos 0) ∷ []) (x_reg 0) ∷ return ∷ [])
      (T.int (pos (2 ^ 127 - 1))) ≡ ended (over (gives (T.int (pos (2 ^ 127 - 1)))))
  -- one of 2^127 is beyond
  pub past : end_with (gc_bif Add None 1 (reg (x_reg 0) ∷ reg (x_reg 0) ∷ []) (x_reg 0) ∷ return ∷ [])
      (T.int (pos (2 ^ 126))) ≡ beyond
  -- over a tag it is bad, since nothing is written there
  pub over_a_tag : end_with (allocate 1 1 ∷ try 0 2
      ∷ gc_bif Add None 1 (reg (x_reg 0) ∷ reg (x_reg 0) ∷ []) (y_reg 0) ∷ return ∷ [])
      (T.int (pos (2 ^ 126))) ≡ ended is_bad
