use Rattle.std.proofs.Common.{sym, ap, ◌∙◌, ◌++◌, rules}
use Rattle.std.specs.Str.{chars}
use Rattle.term_text.specs.Atoms.{atom_text}
use Rattle.term_text.proofs.Growth.{on_ok}
use Rattle.beam_table.specs.Opcodes.{opcode_row}
use Rattle.insn_text.proofs.Words.{opcode_word}
use Rattle.insn_text.proofs.Heads.{plain_head, test_head}
use Rattle.insn_text.proofs.insn.put_head.Goals as goal

pub returns-then-is_test : goal.returns-then-is_test
unfolding chars
returns-then-is_test c =
    on_ok c.put_word.result
    (λ e r. e r ∙ ap (λ n. c.put_str.new.out ++ (atom_text n ++ r)) (opcode_word _ _ c.name.ensures)
    ∙ c.in_ok-put_str.ensures _
    ∙ ap (λ x. c.args.out.now ++ x) (sym (test_head (opcode_row c.args.opcode) r (search rules))))
    c.put_word.ensures

pub returns : goal.returns
returns c =
    on_ok c.put_word-2.result
    (λ e r. e r ∙ ap (λ n. c.args.out.now ++ (atom_text n ++ r)) (opcode_word _ _ c.name-2.ensures)
    ∙ ap (λ x. c.args.out.now ++ x) (sym (plain_head (opcode_row c.args.opcode) r (search rules))))
    c.put_word-2.ensures
