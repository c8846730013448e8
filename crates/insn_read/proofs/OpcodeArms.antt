-- An opcode's instruction, from what its row of operands was read as.
use Rattle.std.proofs.Common.{◌≡◌, sym, ap, ◌∙◌, subst, List, Some}
use Rattle.std.specs.declared.result.Result.{Result}
use Rattle.std.specs.Prelude.{Err}
use Rattle.erl_term.specs.Term.{Term}
use Rattle.term_read.specs.Lexemes.{◌>>=◌}
use Rattle.term_read.specs.Reading.{Gives}
use Rattle.term_read.specs.declared.unread.Unread.{Unread}
use Rattle.term_read.specs.declared.unread.Unread.TheVariants.{Syntax, NoMemory}
use Rattle.beam_table.specs.Code as C
use Rattle.beam_table.specs.Opcodes.{opcode_row}
use Rattle.beam_table.specs.View.{insn_view}
use Rattle.beam_table.specs.declared.insn.Insn.{Insn}
use Rattle.beam_table.specs.declared.opcode.Opcode.{Opcode}
use Rattle.insn_terms.specs.Values.{Values, insn_from}
use Rattle.insn_terms.specs.Reading.{values_of, insn_by}
use Rattle.insn_read.specs.OpcodeReading.{agreeing}

-- operands that make an instruction
pub made : (o p : Opcode) (ts : List Term) (v : Values (opcode_row p).kinds) (i : C.Insn) → o ≡ p
    → values_of (opcode_row p).kinds ts ≡ Some v → agreeing (insn_from p v) ≡ Some i → insn_by o ts ≡ Some i
made o p ts v i e k h =
    ap (λ q. insn_by q ts) e ∙ ap (λ r. agreeing (r >>= insn_from p)) k ∙ h

-- operands that a call makes into an instruction, or not
pub passed : (o p : Opcode) (ts : List Term) (v : Values (opcode_row p).kinds) (r : Result Insn Unread) → o ≡ p
    → values_of (opcode_row p).kinds ts ≡ Some v → Gives insn_view r (agreeing (insn_from p v))
    → Gives insn_view r (insn_by o ts)
passed o p ts v r e k h =
    subst (Gives insn_view r) (sym (ap (λ q. insn_by q ts) e ∙ ap (λ x. agreeing (x >>= insn_from p)) k)) h

-- operands that are not there: then nothing is made
pub unmade : (o p : Opcode) (u : Unread) (ts : List Term) → o ≡ p
    → Gives {X = ⊥} {Y = Values (opcode_row p).kinds} (λ x. absurd x) (Err u) (values_of (opcode_row p).kinds ts)
    → Gives insn_view (Err u) (insn_by o ts)
unmade o p Syntax ts e k = ap (λ q. insn_by q ts) e ∙ ap (λ r. agreeing (r >>= insn_from p)) k
unmade o p NoMemory ts e k = tt
