use Rattle.std.proofs.Common.{◌≡◌, sym, ap, ◌∙◌, ◌++◌, [], true, false, codes, rules}
use Rattle.std.specs.Str.{chars}
use Rattle.erl_term.specs.Terms.{terms}
use Rattle.term_text.specs.Atoms.{atom_text}
use Rattle.term_text.specs.TermText.{texts, term_on, row_on}
use Rattle.term_text.proofs.Growth.{on_ok}
use Rattle.beam_table.specs.Opcodes.{opcode_row, opcode_of}
use Rattle.insn_text.specs.Rows.{head_terms, tail_terms}
use Rattle.insn_text.proofs.Words.{opcode_word}
use Rattle.insn_text.proofs.Heads.{bare_form, tuple_text}
use Rattle.insn_text.proofs.Normals.{all_normal}
use Rattle.insn_text.proofs.insn.put_insn.Goals as goal

pub put_tail-requires : goal.put_tail-requires
put_tail-requires c = all_normal _ c.requires

pub returns-then-is_empty : goal.returns-then-is_empty
unfolding texts
returns-then-is_empty c =
    let none : (opcode_row (opcode_of c.args.insn.now)).kinds ≡ [] = search rules in
    on_ok c.put_word.result
    (λ e r. e r
    ∙ ap (λ n. c.args.out.now ++ (atom_text n ++ r))
    (opcode_word _ (opcode_of c.args.insn.now) (c.name.ensures ∙ ap (λ o. (opcode_row o).name) c.opcode-opcode.ensures))
    ∙ ap (λ t. c.args.out.now ++ term_on t r) (sym (bare_form c.args.insn.now none)))
    c.put_word.ensures

pub returns : goal.returns
unfolding chars
returns c =
    let some : (opcode_row (opcode_of c.args.insn.now)).kinds ≡ [] → ⊥ = λ h. search (rules, h) in
    on_ok c.put_str-2.result
    (λ e r. e r ∙ c.in_ok-put_tail.ensures _ ∙ c.in_ok-put_head.ensures _
    ∙ ap (λ o. c.put_str.new.out ++ row_on true (terms (head_terms (opcode_row o)))
    (row_on false (terms (tail_terms c.args.insn.now)) (codes "}" ++ r))) c.opcode-opcode.ensures
    ∙ c.in_ok-put_str.ensures _
    ∙ ap (λ x. c.args.out.now ++ x) (sym (tuple_text c.args.insn.now r some)))
    c.put_str-2.ensures
