-- Instructions from an opcode and what stands behind its name.
use Rattle.std.specs.Prelude.{Option}
use Rattle.term_read.specs.Lexemes.{◌>>=◌}
use Rattle.beam_table.specs.Code.{Insn}
use Rattle.beam_table.specs.OperandBounds.{agrees}
use Rattle.insn_terms.specs.Reading.{checked}

-- an instruction whose operands agree with one another
abbrev pub agreeing : Option Insn → Option Insn
agreeing o = o >>= checked agrees
