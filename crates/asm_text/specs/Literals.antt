-- What the printer asks of the terms in a piece of a module.
use Rattle.std.specs.Prelude.{List, Contains}
use Rattle.erl_term.specs.WellFormed.{IsWellFormed}
use Rattle.erl_term.specs.declared.term.Term.{Term}
use Rattle.beam_table.specs.declared.operand.Source.TheVariants.{Literal}
use Rattle.beam_table.specs.declared.insn.Insn.{Insn}
use Rattle.beam_table.specs.WellFormedModule.{sources_in}

-- the literals of code are well formed
pub record AreWellFormed (code : List Insn) : Type 0 where
  pub literals : (i : Insn) (t : Term) → Contains code i → Contains (sources_in i) (Literal t) → IsWellFormed t
