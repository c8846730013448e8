-- The texts of the two modules, by computing.
use Rattle.std.proofs.Common.{◌≡◌, refl, subst, List, ℕ, IsUtf8}
use Rattle.std.proofs.lemmas.Str.{IsUtf8-from_ascii}
use Rattle.std.specs.Str.{chars}
use Rattle.erl_term.specs.Depth.{depths}
use Rattle.term_text.specs.Decimal.{decimal_on}
use Rattle.term_text.specs.TermText.{texts}
use Rattle.term_read.specs.TermGrammar.{most_nesting}
use Rattle.beam_table.specs.Code.{AsmModule}
use Rattle.beam_table.specs.FormBounds.{FormsNest}
use Rattle.beam_table.specs.OperandBounds.{source_ok, operand_ok, operands_ok, insn_ok}
use Rattle.beam_table.specs.ValidModule.{fun_ok, attribute_ok, Valid}
use Rattle.insn_text.proofs.Words.{below_all}
use Rattle.asm_forms.specs.ModuleOfText.{CharactersOf, AssemblyText}
use Rattle.asm_text.specs.PrintedModule.{module_text}
use Rattle.asm_text.specs.Examples.{one, text_of_one, three, text_of_three}

abbrev AreRead : Type 0
AreRead = (a : AsmModule) → Valid a → FormsNest most_nesting a → CharactersOf (module_text a) a

written_out : (bytes : List ℕ) (a : AsmModule) → AreRead → Valid a → FormsNest most_nesting a → IsUtf8 bytes
    → module_text a ≡ chars bytes → AssemblyText bytes a
written_out bytes a law v n u e =
    record { utf8 = u; characters = subst (λ cs. CharactersOf cs a) e (law a v n) }

one_valid : Valid one
unfolding source_ok operand_ok operands_ok insn_ok fun_ok attribute_ok
one_valid = record { labels = refl; functions = refl; exports = refl; attributes = refl }

one_nests : FormsNest most_nesting one
unfolding FormsNest depths
one_nests = refl

one_spelled : module_text one ≡ chars text_of_one
unfolding module_text texts decimal_on chars
one_spelled = refl

pub one_has_text : AreRead → AssemblyText text_of_one one
one_has_text law =
    written_out text_of_one one law one_valid one_nests (IsUtf8-from_ascii text_of_one
    (below_all text_of_one refl)) one_spelled

three_valid : Valid three
unfolding source_ok operand_ok operands_ok insn_ok fun_ok attribute_ok
three_valid = record { labels = refl; functions = refl; exports = refl; attributes = refl }

three_nests : FormsNest most_nesting three
unfolding FormsNest depths
three_nests = refl

three_spelled : module_text three ≡ chars text_of_three
unfolding module_text texts decimal_on chars
three_spelled = refl

pub three_has_text : AreRead → AssemblyText text_of_three three
three_has_text law =
    written_out text_of_three three law three_valid three_nests (IsUtf8-from_ascii text_of_three
    (below_all text_of_three refl)) three_spelled
