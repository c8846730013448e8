-- The operands of the printer as terms, and the terms that stand behind an instruction's name.
use Rattle.std.specs.Prelude.{List, [], ◌∷◌, map, drop, if◌then◌else◌, codes}
use Rattle.erl_term.specs.Term as T
use Rattle.erl_term.specs.Term.{Term}
use Rattle.erl_term.specs.Terms.{tagged, list_of}
use Rattle.bif_table.specs.Builtins.{bif_name}
use Rattle.bif_table.specs.View.{bif_view}
use Rattle.beam_table.specs.declared.insn.Insn.{Insn}
use Rattle.beam_table.specs.declared.insn.Insn.TheVariants as V
use Rattle.beam_table.specs.Operands as P
use Rattle.beam_table.specs.Operands.{◌then◌, each, sources, segment, operands}
use Rattle.beam_table.specs.InstructionText.{number_term, label_term, register_term, source_term, operand_term, operand_terms}
use Rattle.beam_table.specs.Opcodes.{OpcodeRow, opcode_row, opcode_of}
use Rattle.beam_table.specs.View.{reg_view, source_view, is_binary, extern_view, flags_view, segment_view, label_view, put_view, get_view, choice_view, size_choice_view, insn_view}
use Rattle.insn_text.specs.declared.row.Single.{Single}
use Rattle.insn_text.specs.declared.row.Single.TheVariants as S
use Rattle.insn_text.specs.declared.row.Items.{Items}
use Rattle.insn_text.specs.declared.row.Items.TheVariants as I
use Rattle.insn_text.specs.declared.row.Operand.{Operand}
use Rattle.insn_text.specs.declared.row.Operand.TheVariants as O

-- an operand that is no list
abbrev pub single_term : Single → Term
single_term (S.Source s) = source_term (source_view s.now)
single_term (S.Register r) = register_term (reg_view r)
single_term (S.Label l) = label_term l.0
single_term (S.LabelOrZero o) = operand_term (P.label_or_zero (label_view o))
single_term (S.LabelOrNoFail o) = operand_term (P.label_or_no_fail (label_view o))
single_term (S.Number n) = number_term n
single_term (S.Function b) = T.atom (bif_name (bif_view b))
single_term (S.Atom a) = operand_term (P.atom_operand a.now)
single_term (S.Kind k) = operand_term (P.atom_operand (P.kind_word (is_binary k)))
single_term (S.Extern e) = operand_term (P.extfunc (extern_view e.now))
single_term (S.FieldFlags f) = operand_term (P.field_flags (flags_view f))
single_term (S.FlagList f) = operand_term (P.flag_list (flags_view f))

-- the items of a list
abbrev pub items_terms : Items → List Term
items_terms (I.Singles ss) = map single_term ss.now
items_terms (I.Slots ns) = operand_terms (each (λ n r. P.y_slot n then r) ns.now)
items_terms (I.Sources ss) = operand_terms (sources (map source_view ss.now))
items_terms (I.PutPairs ps) = operand_terms (each (λ p r. P.source p.0 then P.source p.1 then r) (map put_view ps.now))
items_terms (I.GetPairs ps) =
    operand_terms (each (λ p r. P.source p.0 then P.register p.1 then r) (map get_view ps.now))
items_terms (I.ValueChoices cs) =
    operand_terms (each (λ c r. P.source c.0 then P.own_label c.1 then r) (map choice_view cs.now))
items_terms (I.SizeChoices cs) =
    operand_terms (each (λ c r. P.amount c.0 then P.own_label c.1 then r) (map size_choice_view cs.now))
items_terms (I.Segments gs) = operand_terms (each segment (map segment_view gs.now))

-- an operand, alone or a list: `[..]` or `{list,[..]}`
abbrev pub row_term : Operand → Term
row_term (O.One s) = single_term s
row_term (O.Bare items) = list_of (items_terms items) T.nil
row_term (O.Listed items) = tagged (codes "list") (list_of (items_terms items) T.nil)

-- the words that an instruction's form begins with
abbrev pub head_terms : OpcodeRow → List Term
head_terms w = if w.is_test then T.atom (codes "test") ∷ T.atom w.name ∷ [] else T.atom w.name ∷ []

-- what stands behind them
abbrev pub tail_terms : Insn → List Term
tail_terms (V.Label l) = number_term l.0 ∷ []
tail_terms i = drop (if (opcode_row (opcode_of i)).is_test then 1 else 0) (operand_terms (operands (insn_view i)).1)
