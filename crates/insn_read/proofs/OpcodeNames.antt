-- The names of opcodes are ASCII.
use Rattle.std.proofs.Common.{◌≡◌, refl, true, nat_lt}
use Rattle.std.specs.List.{list_all}
use Rattle.bif_table.specs.declared.term_test.TypeTest.{TypeTest}
use Rattle.bif_table.specs.declared.term_test.TypeTest.TheVariants as TT
use Rattle.bif_table.specs.declared.term_test.Comparison.{Comparison}
use Rattle.bif_table.specs.declared.term_test.Comparison.TheVariants as CT
use Rattle.bif_table.specs.TermTests.{type_name, comparison_name}
use Rattle.bif_table.specs.View.{type_view, comparison_view}
use Rattle.beam_table.specs.declared.opcode.Opcode.{Opcode}
use Rattle.beam_table.specs.declared.opcode.Opcode.TheVariants as O
use Rattle.beam_table.specs.Opcodes.{opcode_row}

type_ascii : (t : TypeTest) → list_all (λ c. nat_lt c 128) (type_name (type_view t)) ≡ true
type_ascii TT.IsAtom = refl
type_ascii t = refl

comparison_ascii : (c : Comparison) → list_all (λ c. nat_lt c 128) (comparison_name (comparison_view c)) ≡ true
comparison_ascii CT.IsEq = refl
comparison_ascii c = refl

pub name_ascii : (o : Opcode) → list_all (λ c. nat_lt c 128) (opcode_row o).name ≡ true
name_ascii (O.Test t) = type_ascii t
name_ascii (O.Compare c) = comparison_ascii c
name_ascii O.Label = refl
name_ascii o = refl
