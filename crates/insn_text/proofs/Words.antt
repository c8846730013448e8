-- The words of the machine's text are ASCII: their bytes are their characters.
use Rattle.std.proofs.Common.{◌≡◌, refl, ap, ◌∙◌, List, [], ◌∷◌, ℕ, zero, suc, ◌<◌, true, nat_lt, slice_index, chars, arith}
use Rattle.std.proofs.lemmas.Str.{chars-IsAscii}
use Rattle.std.specs.List.{list_all}
use borrow.Author.Tests.{ltb-true}
use Rattle.erl_term.proofs.Forms.{left_true, right_true}
use Rattle.bif_table.specs.Builtins.{Bif, Add, bif_name}
use Rattle.bif_table.specs.declared.term_test.TypeTest.{TypeTest}
use Rattle.bif_table.specs.declared.term_test.TypeTest.TheVariants as TT
use Rattle.bif_table.specs.declared.term_test.Comparison.{Comparison}
use Rattle.bif_table.specs.declared.term_test.Comparison.TheVariants as CT
use Rattle.bif_table.specs.TermTests.{type_name, comparison_name}
use Rattle.bif_table.specs.View.{type_view, comparison_view}
use Rattle.beam_table.specs.declared.opcode.Opcode.{Opcode}
use Rattle.beam_table.specs.declared.opcode.Opcode.TheVariants as O
use Rattle.beam_table.specs.Opcodes.{opcode_row}

pub below_all : (cs : List ℕ) → list_all (λ c. nat_lt c 128) cs ≡ true → (i : ℕ) → slice_index cs i < 128
below_all [] e i = omega arith
below_all (c ∷ cs) e zero = ltb-true c 128 (left_true (nat_lt c 128) _ e)
below_all (c ∷ cs) e (suc i) = below_all cs (right_true (nat_lt c 128) _ e) i

ascii : (cs : List ℕ) → list_all (λ c. nat_lt c 128) cs ≡ true → chars cs ≡ cs
ascii cs h = chars-IsAscii cs (below_all cs h)

bif_ascii : (b : Bif) → list_all (λ c. nat_lt c 128) (bif_name b) ≡ true
bif_ascii Add = refl
bif_ascii b = refl

type_ascii : (t : TypeTest) → list_all (λ c. nat_lt c 128) (type_name (type_view t)) ≡ true
type_ascii TT.IsAtom = refl
type_ascii t = refl

comparison_ascii : (c : Comparison) → list_all (λ c. nat_lt c 128) (comparison_name (comparison_view c)) ≡ true
comparison_ascii CT.IsEq = refl
comparison_ascii c = refl

opcode_ascii : (o : Opcode) → list_all (λ c. nat_lt c 128) (opcode_row o).name ≡ true
opcode_ascii (O.Test t) = type_ascii t
opcode_ascii (O.Compare c) = comparison_ascii c
opcode_ascii O.Label = refl
opcode_ascii o = refl

-- the name of a listed function, as the table has it
pub bif_word : (w : List ℕ) (b : Bif) → w ≡ bif_name b → chars w ≡ bif_name b
bif_word w b e = ap chars e ∙ ascii (bif_name b) (bif_ascii b)

-- that of an opcode
pub opcode_word : (w : List ℕ) (o : Opcode) → w ≡ (opcode_row o).name → chars w ≡ (opcode_row o).name
opcode_word w o e = ap chars e ∙ ascii (opcode_row o).name (opcode_ascii o)
