-- Instructions by their opcodes: what is read is what the term spells.
use Rattle.std.proofs.Common.{◌≡◌, ℕ, refl, sym, ap, ap₂, ◌∙◌, subst, List, [], ◌∷◌, length, Option, Some, None, Bool, true, false, not, ◌&&◌, eqb, if◌then◌else◌, IsTrue, codes}
use Rattle.std.specs.List.{list_all}
use borrow.Author.Tests.{eqb-true}
use Rattle.erl_base.specs.Names.{Name, same_name}
use Rattle.erl_term.specs.Term as T
use Rattle.erl_term.specs.Term.{Term}
use Rattle.erl_term.specs.Terms.{terms}
use Rattle.erl_term.proofs.Forms.{left_true, right_true, both_true}
use Rattle.bif_table.specs.Builtins as B
use Rattle.bif_table.specs.Builtins.{Bif, lookup, look_up, is_row, row_of_bif, bif_name, arity_of, is_guard, is_collecting}
use Rattle.bif_table.specs.TermTests as Tests
use Rattle.bif_table.specs.declared.term_test.TypeTest.TheVariants as TT
use Rattle.bif_table.specs.declared.term_test.Comparison.TheVariants as CT
use Rattle.term_read.specs.Lexemes.{◌>>=◌}
use Rattle.term_read.proofs.Shorter.{bound, some_same, chosen}
use Rattle.beam_table.specs.Code as C
use Rattle.beam_table.specs.Code.{Insn, Source, Reg}
use Rattle.beam_table.specs.declared.opcode.Opcode.{Opcode}
use Rattle.beam_table.specs.declared.opcode.Opcode.TheVariants as O
use Rattle.beam_table.specs.Opcodes.{opcode_row}
use Rattle.beam_table.specs.Operands as P
use Rattle.beam_table.specs.Operands.{Operand, Operands, operands, end, ◌then◌}
use Rattle.beam_table.specs.OperandBounds.{agrees, insn_ok, label_ok, operand_ok, operands_ok}
use Rattle.beam_table.specs.InstructionText.{number_term, form_with, form}
use Rattle.insn_terms.specs.Spelling.{AreSpelled, SpellsForm, Spells, IsInsnTerm}
use Rattle.insn_terms.specs.Values.{Values, operands_from, insn_from}
use Rattle.insn_terms.specs.Reading.{checked, atom_of, elements_of, first, at_end, next, bare_label_value, number_of, values_of, insn_by, plain_opcodes, test_opcodes, named, label_in, test_in, insn_named, insn_in, insn_at, insn_of}
use Rattle.insn_terms.proofs.Apart.{same_names, number_sound, atom_sound, elements_sound, listed-terms}
use Rattle.insn_terms.proofs.OperandsRead.{Sane, AllSane, sane_elements, next_sound, first_sound}
use Rattle.insn_terms.proofs.RowsRead.{RowFits, ended, with_rest}
use Rattle.insn_terms.proofs.ListsRead.{head_fits, tail_fits}
use Rattle.insn_terms.proofs.SegmentsRead.{right_values}

-- how a row's name and operands stand: behind `test`, or at once
abbrev name_by : Bool → Name → Name
name_by true a = codes "test"
name_by false a = a

abbrev operands_by : Bool → Name → Operands → Operands
operands_by true a os = P.word a then os
operands_by false a os = os

abbrev terms_by : Bool → Name → List Term → List Term
terms_by true a ts = T.atom a ∷ ts
terms_by false a ts = ts

abbrev text_of : (o : Opcode) → Values (opcode_row o).kinds → Name × Operands
text_of o v = (
  name_by (opcode_row o).is_test (opcode_row o).name,
  operands_by (opcode_row o).is_test (opcode_row o).name (operands_from (opcode_row o).kinds v),
)

abbrev is_label : Opcode → Bool
is_label O.Label = true
is_label _ = false

abbrev labels : Insn → Bool
labels (C.label l) = true
labels _ = false

-- Listed functions.

lookup-bif_name : (b : Bif) → lookup (bif_name b) (arity_of b) ≡ Some b
lookup-bif_name B.Add = refl
lookup-bif_name b = refl

looked_up : (bs : List Bif) (a : Name) (n : ℕ) (b : Bif) → look_up bs a n ≡ Some b → is_row (row_of_bif b) a n ≡ true
looked_up [] a n b e = absurd cc
looked_up (c ∷ bs) a n b e = by (is_row (row_of_bif c) a n) refl e (λ g. looked_up bs a n b g)
  where
    by : (t : Bool) → is_row (row_of_bif c) a n ≡ t → elim t [ true ↦ Some c | false ↦ look_up bs a n ] ≡ Some b
        → (look_up bs a n ≡ Some b → is_row (row_of_bif b) a n ≡ true) → is_row (row_of_bif b) a n ≡ true
    by true h g k = subst (λ d. is_row (row_of_bif d) a n ≡ true) (some_same c b g) h
    by false h g k = k g

name_found : (a : Name) (n : ℕ) (b : Bif) → lookup a n ≡ Some b → bif_name b ≡ a
name_found a n b e =
    same_names (bif_name b) a (right_true (eqb (arity_of b) n) _ (looked_up B.all_bifs a n b e))

-- Rows: the operands of what is made.

row_text : (o : Opcode) (v : Values (opcode_row o).kinds) (i : Insn) → insn_from o v ≡ Some i → operands i ≡ text_of o v
row_text O.Bif v i e =
    let x = bound (lookup v.0 (length v.1.1.0)) (λ b. Some (C.bif b v.1.0 v.1.1.0 v.1.1.1.0)) i e in
    sym (ap operands (some_same (C.bif x.0 v.1.0 v.1.1.0 v.1.1.1.0) i x.2))
    ∙ ap (λ (a : Name). (
      codes "bif",
      P.word a then P.label_or_zero v.1.0 then P.items (P.sources v.1.1.0)
          then P.register v.1.1.1.0 then end,
    )) (name_found v.0 (length v.1.1.0) x.0 x.1)
row_text O.GcBif v i e =
    let x = bound (lookup v.0 (length v.1.1.1.0)) (λ b. Some (C.gc_bif b v.1.0 v.1.1.0 v.1.1.1.0 v.1.1.1.1.0)) i e in
    sym (ap operands (some_same (C.gc_bif x.0 v.1.0 v.1.1.0 v.1.1.1.0 v.1.1.1.1.0) i x.2))
    ∙ ap (λ (a : Name). (
      codes "gc_bif",
      P.word a then P.label_or_zero v.1.0 then P.live v.1.1.0
          then P.items (P.sources v.1.1.1.0) then P.register v.1.1.1.1.0 then end,
    ))
    (name_found v.0 (length v.1.1.1.0) x.0 x.1)
row_text o v i e = sym (ap operands (some_same _ i e))

row_no_label : (o : Opcode) (v : Values (opcode_row o).kinds) (i : Insn) → is_label o ≡ false → insn_from o v ≡ Some i
    → labels i ≡ false
row_no_label O.Label v i l e = absurd cc
row_no_label O.Bif v i l e =
    let x = bound (lookup v.0 (length v.1.1.0)) (λ b. Some (C.bif b v.1.0 v.1.1.0 v.1.1.1.0)) i e in
    sym (ap labels (some_same (C.bif x.0 v.1.0 v.1.1.0 v.1.1.1.0) i x.2))
row_no_label O.GcBif v i l e =
    let x = bound (lookup v.0 (length v.1.1.1.0)) (λ b. Some (C.gc_bif b v.1.0 v.1.1.0 v.1.1.1.0 v.1.1.1.1.0)) i e in
    sym (ap labels (some_same (C.gc_bif x.0 v.1.0 v.1.1.0 v.1.1.1.0 v.1.1.1.1.0) i x.2))
row_no_label o v i l e = sym (ap labels (some_same _ i e))

spells_form : (t : Term) (i : Insn) → labels i ≡ false → SpellsForm t i → Spells t i
spells_form t (C.label l) n f = absurd cc
spells_form t i n f = f

-- Instructions taken apart.

-- the opcode and the values of an instruction
record Apart (i : Insn) : Type 0 where
  opcode : Opcode
  values : Values (opcode_row opcode).kinds
  no_label : is_label opcode ≡ false
  made : insn_from opcode values ≡ Some i
  text : operands i ≡ text_of opcode values

abbrev row_apart : (i : Insn) (o : Opcode) (v : Values (opcode_row o).kinds) → is_label o ≡ false
    → insn_from o v ≡ Some i → operands i ≡ text_of o v → Apart i
row_apart i o v n m t = record { opcode = o; values = v; no_label = n; made = m; text = t }

listed_bif : (b : Bif) (n : ℕ) → eqb n (arity_of b) ≡ true → lookup (bif_name b) n ≡ Some b
listed_bif b n h = ap (λ k. lookup (bif_name b) k) (eqb-true n (arity_of b) h) ∙ lookup-bif_name b

apart : (i : Insn) → labels i ≡ false → IsTrue (agrees i) → Apart i
apart (C.label l) n h = absurd cc
apart (C.func_info f) n h = absurd cc
apart (C.move a b) n h = row_apart (C.move a b) O.Move (a, (b, tt)) refl refl refl
apart (C.swap a b) n h = row_apart (C.swap a b) O.Swap (a, (b, tt)) refl refl refl
apart (C.init_yregs a) n h = row_apart (C.init_yregs a) O.InitYregs (a, tt) refl refl refl
apart (C.allocate a b) n h = row_apart (C.allocate a b) O.Allocate (a, (b, tt)) refl refl refl
apart (C.allocate_heap a b c) n h = row_apart (C.allocate_heap a b c) O.AllocateHeap (a, (b, (c, tt))) refl refl refl
apart (C.deallocate a) n h = row_apart (C.deallocate a) O.Deallocate (a, tt) refl refl refl
apart (C.trim a b) n h = row_apart (C.trim a b) O.Trim (a, (b, tt)) refl refl refl
apart (C.test_heap a b) n h = row_apart (C.test_heap a b) O.TestHeap (a, (b, tt)) refl refl refl
apart C.return n h = row_apart C.return O.Return tt refl refl refl
apart (C.put_list a b c) n h = row_apart (C.put_list a b c) O.PutList (a, (b, (c, tt))) refl refl refl
apart (C.put_tuple2 a b) n h = row_apart (C.put_tuple2 a b) O.PutTuple2 (a, (b, tt)) refl refl refl
apart (C.make_fun3 a b c d) n h =
    row_apart (C.make_fun3 a b c d) O.MakeFun3 (a, (b, (tt, (c, (d, tt))))) refl refl refl
apart (C.put_map_assoc a b c d) n h =
    row_apart (C.put_map_assoc a b c d) O.PutMapAssoc (tt, (a, (b, (c, (d, tt))))) refl refl refl
apart (C.put_map_exact a b c d) n h =
    row_apart (C.put_map_exact a b c d) O.PutMapExact (tt, (a, (b, (c, (d, tt))))) refl refl refl
apart (C.get_list a b c) n h = row_apart (C.get_list a b c) O.GetList (a, (b, (c, tt))) refl refl refl
apart (C.get_hd a b) n h = row_apart (C.get_hd a b) O.GetHd (a, (b, tt)) refl refl refl
apart (C.get_tl a b) n h = row_apart (C.get_tl a b) O.GetTl (a, (b, tt)) refl refl refl
apart (C.get_tuple_element a b c) n h =
    row_apart (C.get_tuple_element a b c) O.GetTupleElement (a, (b, (c, tt))) refl refl refl
apart (C.get_map_elements a b c) n h =
    row_apart (C.get_map_elements a b c) O.GetMapElements (a, (b, (c, tt))) refl refl refl
apart (C.has_map_fields a b c) n h =
    row_apart (C.has_map_fields a b c) O.HasMapFields (a, (b, (c, tt))) refl refl refl
apart (C.jump a) n h = row_apart (C.jump a) O.Jump (a, tt) refl refl refl
apart (C.test Tests.is_atom a b) n h =
    row_apart (C.test Tests.is_atom a b) (O.Test TT.IsAtom) (a, (b, tt)) refl refl refl
apart (C.test Tests.is_integer a b) n h =
    row_apart (C.test Tests.is_integer a b) (O.Test TT.IsInteger) (a, (b, tt)) refl refl refl
apart (C.test Tests.is_number a b) n h =
    row_apart (C.test Tests.is_number a b) (O.Test TT.IsNumber) (a, (b, tt)) refl refl refl
apart (C.test Tests.is_list a b) n h =
    row_apart (C.test Tests.is_list a b) (O.Test TT.IsList) (a, (b, tt)) refl refl refl
apart (C.test Tests.is_nonempty_list a b) n h =
    row_apart (C.test Tests.is_nonempty_list a b) (O.Test TT.IsNonemptyList) (a, (b, tt)) refl refl refl
apart (C.test Tests.is_nil a b) n h =
    row_apart (C.test Tests.is_nil a b) (O.Test TT.IsNil) (a, (b, tt)) refl refl refl
apart (C.test Tests.is_tuple a b) n h =
    row_apart (C.test Tests.is_tuple a b) (O.Test TT.IsTuple) (a, (b, tt)) refl refl refl
apart (C.test Tests.is_binary a b) n h =
    row_apart (C.test Tests.is_binary a b) (O.Test TT.IsBinary) (a, (b, tt)) refl refl refl
apart (C.test Tests.is_bitstr a b) n h =
    row_apart (C.test Tests.is_bitstr a b) (O.Test TT.IsBitstr) (a, (b, tt)) refl refl refl
apart (C.test Tests.is_boolean a b) n h =
    row_apart (C.test Tests.is_boolean a b) (O.Test TT.IsBoolean) (a, (b, tt)) refl refl refl
apart (C.test Tests.is_function a b) n h =
    row_apart (C.test Tests.is_function a b) (O.Test TT.IsFunction) (a, (b, tt)) refl refl refl
apart (C.test Tests.is_map a b) n h =
    row_apart (C.test Tests.is_map a b) (O.Test TT.IsMap) (a, (b, tt)) refl refl refl
apart (C.test Tests.is_pid a b) n h =
    row_apart (C.test Tests.is_pid a b) (O.Test TT.IsPid) (a, (b, tt)) refl refl refl
apart (C.test Tests.is_port a b) n h =
    row_apart (C.test Tests.is_port a b) (O.Test TT.IsPort) (a, (b, tt)) refl refl refl
apart (C.test Tests.is_reference a b) n h =
    row_apart (C.test Tests.is_reference a b) (O.Test TT.IsReference) (a, (b, tt)) refl refl refl
apart (C.compares Tests.is_eq_exact a b c) n h =
    row_apart (C.compares Tests.is_eq_exact a b c) (O.Compare CT.IsEqExact) (a, ((b, c), tt)) refl refl refl
apart (C.compares Tests.is_ne_exact a b c) n h =
    row_apart (C.compares Tests.is_ne_exact a b c) (O.Compare CT.IsNeExact) (a, ((b, c), tt)) refl refl refl
apart (C.compares Tests.is_eq a b c) n h =
    row_apart (C.compares Tests.is_eq a b c) (O.Compare CT.IsEq) (a, ((b, c), tt)) refl refl refl
apart (C.compares Tests.is_ne a b c) n h =
    row_apart (C.compares Tests.is_ne a b c) (O.Compare CT.IsNe) (a, ((b, c), tt)) refl refl refl
apart (C.compares Tests.is_lt a b c) n h =
    row_apart (C.compares Tests.is_lt a b c) (O.Compare CT.IsLt) (a, ((b, c), tt)) refl refl refl
apart (C.compares Tests.is_ge a b c) n h =
    row_apart (C.compares Tests.is_ge a b c) (O.Compare CT.IsGe) (a, ((b, c), tt)) refl refl refl
apart (C.compares Tests.is_function2 a b c) n h =
    row_apart (C.compares Tests.is_function2 a b c) (O.Compare CT.IsFunction2) (a, ((b, c), tt)) refl refl refl
apart (C.test_arity a b c) n h = row_apart (C.test_arity a b c) O.TestArity (a, ((b, c), tt)) refl refl refl
apart (C.is_tagged_tuple a b c d) n h =
    row_apart (C.is_tagged_tuple a b c d) O.IsTaggedTuple (a, ((b, (c, d)), tt)) refl refl refl
apart (C.select_val a b c) n h = row_apart (C.select_val a b c) O.SelectVal (a, (b, (c, tt))) refl refl refl
apart (C.select_tuple_arity a b c) n h =
    row_apart (C.select_tuple_arity a b c) O.SelectTupleArity (a, (b, (c, tt))) refl refl refl
apart (C.bif b l ss d) n h =
    row_apart (C.bif b l ss d) O.Bif (bif_name b, (l, (ss, (d, tt)))) refl
    (ap (λ r. r >>= λ c. Some (C.bif c l ss d)) (listed_bif b (length ss)
    (right_true (is_guard b && not (is_collecting b)) (eqb (length ss) (arity_of b)) h))) refl
apart (C.gc_bif b l k ss d) n h =
    row_apart (C.gc_bif b l k ss d) O.GcBif (bif_name b, (l, (k, (ss, (d, tt))))) refl
    (ap (λ r. r >>= λ c. Some (C.gc_bif c l k ss d)) (listed_bif b (length ss)
    (right_true (is_collecting b) (eqb (length ss) (arity_of b)) h))) refl
apart (C.call a b) n h = row_apart (C.call a b) O.Call (a, (b, tt)) refl refl refl
apart (C.call_only a b) n h = row_apart (C.call_only a b) O.CallOnly (a, (b, tt)) refl refl refl
apart (C.call_last a b c) n h = row_apart (C.call_last a b c) O.CallLast (a, (b, (c, tt))) refl refl refl
apart (C.call_ext a b) n h = row_apart (C.call_ext a b) O.CallExt (a, (b, tt)) refl refl refl
apart (C.call_ext_only a b) n h = row_apart (C.call_ext_only a b) O.CallExtOnly (a, (b, tt)) refl refl refl
apart (C.call_ext_last a b c) n h = row_apart (C.call_ext_last a b c) O.CallExtLast (a, (b, (c, tt))) refl refl refl
apart (C.call_fun a) n h = row_apart (C.call_fun a) O.CallFun (a, tt) refl refl refl
apart (C.apply a) n h = row_apart (C.apply a) O.Apply (a, tt) refl refl refl
apart (C.apply_last a b) n h = row_apart (C.apply_last a b) O.ApplyLast (a, (b, tt)) refl refl refl
apart C.send n h = row_apart C.send O.Send tt refl refl refl
apart C.build_stacktrace n h = row_apart C.build_stacktrace O.BuildStacktrace tt refl refl refl
apart (C.raise a b) n h = row_apart (C.raise a b) O.Raise (a, (b, tt)) refl refl refl
apart (C.badmatch a) n h = row_apart (C.badmatch a) O.Badmatch (a, tt) refl refl refl
apart (C.case_end a) n h = row_apart (C.case_end a) O.CaseEnd (a, tt) refl refl refl
apart (C.try_case_end a) n h = row_apart (C.try_case_end a) O.TryCaseEnd (a, tt) refl refl refl
apart C.if_end n h = row_apart C.if_end O.IfEnd tt refl refl refl
apart (C.try a b) n h = row_apart (C.try a b) O.Try (a, (b, tt)) refl refl refl
apart (C.catch a b) n h = row_apart (C.catch a b) O.Catch (a, (b, tt)) refl refl refl
apart (C.try_end a) n h = row_apart (C.try_end a) O.TryEnd (a, tt) refl refl refl
apart (C.try_case a) n h = row_apart (C.try_case a) O.TryCase (a, tt) refl refl refl
apart (C.catch_end a) n h = row_apart (C.catch_end a) O.CatchEnd (a, tt) refl refl refl
apart (C.loop_rec a b) n h = row_apart (C.loop_rec a b) O.LoopRec (a, (b, tt)) refl refl refl
apart C.remove_message n h = row_apart C.remove_message O.RemoveMessage tt refl refl refl
apart (C.loop_rec_end a) n h = row_apart (C.loop_rec_end a) O.LoopRecEnd (a, tt) refl refl refl
apart (C.wait a) n h = row_apart (C.wait a) O.Wait (a, tt) refl refl refl
apart (C.wait_timeout a b) n h = row_apart (C.wait_timeout a b) O.WaitTimeout (a, (b, tt)) refl refl refl
apart C.timeout n h = row_apart C.timeout O.Timeout tt refl refl refl
apart (C.recv_marker_reserve a) n h = row_apart (C.recv_marker_reserve a) O.RecvMarkerReserve (a, tt) refl refl refl
apart (C.recv_marker_bind a b) n h = row_apart (C.recv_marker_bind a b) O.RecvMarkerBind (a, (b, tt)) refl refl refl
apart (C.recv_marker_use a) n h = row_apart (C.recv_marker_use a) O.RecvMarkerUse (a, tt) refl refl refl
apart (C.recv_marker_clear a) n h = row_apart (C.recv_marker_clear a) O.RecvMarkerClear (a, tt) refl refl refl
apart (C.bs_start_match4 a b c d) n h =
    row_apart (C.bs_start_match4 a b c d) O.BsStartMatch4 (a, (b, (c, (d, tt)))) refl refl refl
apart (C.bs_get_integer2 a b c d e f g) n h =
    row_apart (C.bs_get_integer2 a b c d e f g) O.BsGetInteger2 (a, (b, ((c, (d, (e, f))), (g, tt)))) refl refl refl
apart (C.bs_get_binary2 a b c d e f g) n h =
    row_apart (C.bs_get_binary2 a b c d e f g) O.BsGetBinary2 (a, (b, ((c, (d, (e, f))), (g, tt)))) refl refl refl
apart (C.bs_skip_bits2 a b c d e) n h =
    row_apart (C.bs_skip_bits2 a b c d e) O.BsSkipBits2 (a, ((b, (c, (d, e))), tt)) refl refl refl
apart (C.bs_test_tail2 a b c) n h = row_apart (C.bs_test_tail2 a b c) O.BsTestTail2 (a, ((b, c), tt)) refl refl refl
apart (C.bs_test_unit a b c) n h = row_apart (C.bs_test_unit a b c) O.BsTestUnit (a, ((b, c), tt)) refl refl refl
apart (C.bs_get_tail a b c) n h = row_apart (C.bs_get_tail a b c) O.BsGetTail (a, (b, (c, tt))) refl refl refl
apart (C.bs_get_position a b c) n h =
    row_apart (C.bs_get_position a b c) O.BsGetPosition (a, (b, (c, tt))) refl refl refl
apart (C.bs_set_position a b) n h = row_apart (C.bs_set_position a b) O.BsSetPosition (a, (b, tt)) refl refl refl
apart (C.bs_create_bin a b c d e) n h =
    row_apart (C.bs_create_bin a b c d e) O.BsCreateBin (a, (tt, (b, (c, (d, (e, tt)))))) refl refl refl

-- Opcodes by their names.

found_plain : (o : Opcode) (ts : List Term) → (opcode_row o).is_test ≡ false → is_label o ≡ false
    → insn_named (opcode_row o).name ts ≡ insn_by o ts
unfolding insn_named
found_plain O.Label ts h k = absurd cc
found_plain O.HasMapFields ts h k = absurd cc
found_plain (O.Test t) ts h k = absurd cc
found_plain (O.Compare c) ts h k = absurd cc
found_plain O.TestArity ts h k = absurd cc
found_plain O.IsTaggedTuple ts h k = absurd cc
found_plain O.BsGetInteger2 ts h k = absurd cc
found_plain O.BsGetBinary2 ts h k = absurd cc
found_plain O.BsSkipBits2 ts h k = absurd cc
found_plain O.BsTestTail2 ts h k = absurd cc
found_plain O.BsTestUnit ts h k = absurd cc
found_plain o ts h k = refl

found_test : (o : Opcode) (ts : List Term) → (opcode_row o).is_test ≡ true
    → insn_named (codes "test") (T.atom (opcode_row o).name ∷ ts) ≡ insn_by o ts
unfolding insn_named
found_test O.HasMapFields ts h = refl
found_test (O.Test TT.IsAtom) ts h = refl
found_test (O.Test t) ts h = refl
found_test (O.Compare CT.IsEqExact) ts h = refl
found_test (O.Compare c) ts h = refl
found_test O.TestArity ts h = refl
found_test O.IsTaggedTuple ts h = refl
found_test O.BsGetInteger2 ts h = refl
found_test O.BsGetBinary2 ts h = refl
found_test O.BsSkipBits2 ts h = refl
found_test O.BsTestTail2 ts h = refl
found_test O.BsTestUnit ts h = refl
found_test o ts h = absurd cc

found : (o : Opcode) (b : Bool) (ts : List Term) → (opcode_row o).is_test ≡ b → is_label o ≡ false
    → insn_named (name_by b (opcode_row o).name) (terms_by b (opcode_row o).name ts) ≡ insn_by o ts
found o true ts h k = found_test o ts h
found o false ts h k = found_plain o ts h k

named_good : (good : Opcode → Bool) (os : List Opcode) (a : Name) (o : Opcode) → IsTrue (list_all good os)
    → named os a ≡ Some o → IsTrue (good o) × ((opcode_row o).name ≡ a)
named_good good [] a o g e = absurd cc
named_good good (q ∷ os) a o g e = by (same_name (opcode_row q).name a) refl e
    (λ f. named_good good os a o (right_true (good q) _ g) f)
  where
    by : (b : Bool) → same_name (opcode_row q).name a ≡ b → (if b then Some q else named os a) ≡ Some o
        → (named os a ≡ Some o → IsTrue (good o) × ((opcode_row o).name ≡ a))
        → IsTrue (good o) × ((opcode_row o).name ≡ a)
    by true h f k =
        let s = some_same q o f in (
          subst (λ p. IsTrue (good p)) s (left_true (good q) _ g),
          subst (λ p. (opcode_row p).name ≡ a) s (same_names (opcode_row q).name a h),
        )
    by false h f k = k f

abbrev comes_first : Opcode → Bool
comes_first o = not (opcode_row o).is_test && not (is_label o)

abbrev comes_behind : Opcode → Bool
comes_behind o = (opcode_row o).is_test && not (is_label o)

plain_good : IsTrue (list_all comes_first plain_opcodes)
plain_good = refl

test_good : IsTrue (list_all comes_behind test_opcodes)
test_good = refl

is_false : (b : Bool) → IsTrue (not b) → b ≡ false
is_false true h = absurd cc
is_false false h = refl

-- A term by its name and what stands behind it.

of_form : (a : Name) (ts : List Term) → insn_of (form_with a ts) ≡ insn_named a ts
of_form a [] = refl
of_form a (t ∷ ts) = ap (λ us. insn_named a (t ∷ us)) (listed-terms ts)

-- What is read is spelled.

spelled_so : (o : Opcode) (ts : List Term) (v : Values (opcode_row o).kinds) (i : Insn) (b : Bool)
    → is_label o ≡ false → insn_from o v ≡ Some i → IsTrue (agrees i) → (opcode_row o).is_test ≡ b
    → RowFits ts (operands_from (opcode_row o).kinds v)
    → IsInsnTerm (form_with (name_by b (opcode_row o).name) (terms_by b (opcode_row o).name ts)) i
unfolding insn_ok operand_ok
spelled_so o ts v i b l e g w h =
    let text : operands i ≡
    (name_by b (opcode_row o).name, operands_by b (opcode_row o).name (operands_from (opcode_row o).kinds v)) =
    row_text o v i e
    ∙ ap (λ (c : Bool).
    (name_by c (opcode_row o).name, operands_by c (opcode_row o).name (operands_from (opcode_row o).kinds v))) w in
    let row = led b (opcode_row o).name ts (operands_from (opcode_row o).kinds v) h in
    record {
      spelled = spells_form _ i (row_no_label o v i l e) (record {
        terms = terms_by b (opcode_row o).name ts;
        form = ap (λ (x : Name × Operands). form_with x.0 (terms_by b (opcode_row o).name ts)) (sym text);
        operands = subst (λ (x : Name × Operands). AreSpelled (terms_by b (opcode_row o).name ts) x.1) (sym text)
            row.spelled;
      });
      bounded = both_true (agrees i) (operands_ok (operands i).1) g
          (subst (λ (x : Name × Operands). IsTrue (operands_ok x.1)) (sym text) row.bounded);
    }
  where
    led : (b : Bool) (a : Name) (ts : List Term) (os : Operands) → RowFits ts os
        → RowFits (terms_by b a ts) (operands_by b a os)
    led true a ts os h = record { spelled = (refl, h.spelled); bounded = h.bounded }
    led false a ts os h = h

opcode_sound : (o : Opcode) (ts : List Term) (i : Insn) (b : Bool) → is_label o ≡ false → (opcode_row o).is_test ≡ b
    → AllSane ts → insn_by o ts ≡ Some i
    → IsInsnTerm (form_with (name_by b (opcode_row o).name) (terms_by b (opcode_row o).name ts)) i
opcode_sound o ts i b l w s e =
    let x = bound (values_of (opcode_row o).kinds ts >>= insn_from o) (checked agrees) i e in
    let v = bound (values_of (opcode_row o).kinds ts) (insn_from o) x.0 x.1 in
    let k = chosen (agrees x.0) x.0 i x.2 in
    spelled_so o ts v.0 i b l (v.2 ∙ ap (λ j. Some j) k.1) (subst (λ j. IsTrue (agrees j)) k.1 k.0) w
    ((right_values (opcode_row o).kinds).sound ts v.0 s v.1)

label_sound : (ts : List Term) (i : Insn) → label_in ts ≡ Some i → IsInsnTerm (form_with (codes "label") ts) i
unfolding insn_ok operand_ok
label_sound ts i e =
    let x = bound (next bare_label_value ts) (λ l. at_end l.1 >>= λ e. Some (C.label l.0)) i e in
    let z = bound (at_end (x.0).1) (λ (e : Unit {0}). Some (C.label (x.0).0)) i x.2 in
    let n = next_sound bare_label_value ts x.0 x.1 in
    let m = bound (number_of n.0) (checked label_ok) (x.0).0 n.2 in
    let k = chosen (label_ok m.0) m.0 (x.0).0 m.2 in
    let w : ts ≡ number_term (x.0).0 ∷ [] =
    n.1 ∙ ap₂ (λ t us. t ∷ us) (number_sound n.0 m.0 m.1 ∙ ap number_term k.1) (ended (x.0).1 z.0 z.1) in
    subst (λ us. IsInsnTerm (form_with (codes "label") us) i) (sym w)
    (subst (λ j. IsInsnTerm (form_with (codes "label") (number_term (x.0).0 ∷ [])) j)
    (some_same (C.label (x.0).0) i z.2)
    (record {
      spelled = refl;
      bounded = both_true (label_ok (x.0).0) true (subst (λ l. IsTrue (label_ok l)) k.1 k.0) refl;
    }))

test_sound : (ts : List Term) (i : Insn) → AllSane ts → test_in ts ≡ Some i
    → IsInsnTerm (form_with (codes "test") ts) i
test_sound ts i s e =
    let x = bound (next atom_of ts) (λ a. named test_opcodes a.0 >>= λ o. insn_by o a.1) i e in
    let o = bound (named test_opcodes (x.0).0) (λ o. insn_by o (x.0).1) i x.2 in
    let n = next_sound atom_of ts x.0 x.1 in
    let g = named_good comes_behind test_opcodes (x.0).0 o.0 test_good o.1 in
    let w : ts ≡ T.atom (opcode_row o.0).name ∷ (x.0).1 =
    n.1 ∙ ap (λ t. t ∷ (x.0).1) (atom_sound n.0 (x.0).0 n.2 ∙ ap T.atom (sym g.1)) in
    subst (λ us. IsInsnTerm (form_with (codes "test") us) i) (sym w)
    (opcode_sound o.0 (x.0).1 i true (is_false (is_label o.0) (right_true (opcode_row o.0).is_test _ g.0))
    (left_true (opcode_row o.0).is_test _ g.0) (rest ts (T.atom (opcode_row o.0).name) (x.0).1 w s) o.2)
  where
    rest : (ts : List Term) (t : Term) (us : List Term) → ts ≡ t ∷ us → AllSane ts → AllSane us
    rest ts t us w s = let v : AllSane (t ∷ us) = subst AllSane w s in v.1

named_sound : (a : Name) (ts : List Term) (i : Insn) → AllSane ts → insn_named a ts ≡ Some i
    → IsInsnTerm (form_with a ts) i
unfolding insn_named
named_sound a ts i s e = by (same_name (codes "label") a) (same_name (codes "test") a) refl refl e
  where
    by : (b c : Bool) → same_name (codes "label") a ≡ b → same_name (codes "test") a ≡ c
        → (if b then label_in ts else if c then test_in ts else named plain_opcodes a >>= λ o. insn_by o ts) ≡ Some i
        → IsInsnTerm (form_with a ts) i
    by true c h k g =
        subst (λ d. IsInsnTerm (form_with d ts) i) (same_names (codes "label") a h) (label_sound ts i g)
    by false true h k g =
        subst (λ d. IsInsnTerm (form_with d ts) i) (same_names (codes "test") a k) (test_sound ts i s g)
    by false false h k g =
        let o = bound (named plain_opcodes a) (λ o. insn_by o ts) i g in
        let w = named_good comes_first plain_opcodes a o.0 plain_good o.1 in
        subst (λ d. IsInsnTerm (form_with d ts) i) w.1
        (opcode_sound o.0 ts i false (is_false (is_label o.0) (right_true (not (opcode_row o.0).is_test) _ w.0))
        (is_false (opcode_row o.0).is_test (left_true (not (opcode_row o.0).is_test) _ w.0)) s o.2)

pub insn_sound : (t : Term) (i : Insn) → Sane t → insn_of t ≡ Some i → IsInsnTerm t i
insn_sound t i s e = by (atom_of t) refl e
  where
    by : (o : Option Name) → atom_of t ≡ o → insn_at o t ≡ Some i → IsInsnTerm t i
    by (Some a) h g = subst (λ u. IsInsnTerm u i) (sym (atom_sound t a h)) (named_sound a [] i tt g)
    by None h g =
        let x = bound (elements_of t) insn_in i g in
        let a = bound (next atom_of x.0) (λ a. first a.1 >>= λ u. insn_named a.0 a.1) i x.2 in
        let u = bound (first (a.0).1) (λ u. insn_named (a.0).0 (a.0).1) i a.2 in
        let n = next_sound atom_of x.0 a.0 a.1 in
        let f = first_sound (a.0).1 u.0 u.1 in
        let w : t ≡ T.tuple (terms (T.atom (a.0).0 ∷ (u.0).0 ∷ (u.0).1)) =
        elements_sound t x.0 x.1
        ∙ ap (λ us. T.tuple (terms us)) (n.1 ∙ ap₂ (λ v vs. v ∷ vs) (atom_sound n.0 (a.0).0 n.2) f) in
        let r : AllSane (T.atom (a.0).0 ∷ (u.0).0 ∷ (u.0).1) =
        sane_elements (T.atom (a.0).0 ∷ (u.0).0 ∷ (u.0).1) (subst Sane w s) in
        subst (λ v. IsInsnTerm v i) (sym w)
        (named_sound (a.0).0 ((u.0).0 ∷ (u.0).1) i r.1 (ap (λ us. insn_named (a.0).0 us) (sym f) ∙ u.2))

-- What is spelled is read.

opcode_complete : (o : Opcode) (v : Values (opcode_row o).kinds) (i : Insn) (ts : List Term) (b : Bool)
    → is_label o ≡ false → insn_from o v ≡ Some i → IsTrue (agrees i) → (opcode_row o).is_test ≡ b
    → RowFits ts (operands_by b (opcode_row o).name (operands_from (opcode_row o).kinds v))
    → insn_named (name_by b (opcode_row o).name) ts ≡ Some i
opcode_complete o v i ts b l e g w h =
    let x = unled b (opcode_row o).name ts (operands_from (opcode_row o).kinds v) h in
    ap (λ us. insn_named (name_by b (opcode_row o).name) us) x.1
    ∙ found o b x.0 w l
    ∙ ap (λ r. r >>= insn_from o >>= checked agrees) ((right_values (opcode_row o).kinds).complete x.0 v x.2)
    ∙ ap (λ r. r >>= checked agrees) e
    ∙ ap (λ c. if c then Some i else None) g
  where
    unled : (b : Bool) (a : Name) (ts : List Term) (os : Operands) → RowFits ts (operands_by b a os)
        → (us : List Term) × (ts ≡ terms_by b a us) × RowFits us os
    unled true a [] os h = absurd h.spelled
    unled true a (t ∷ ts) os h =
        (ts, ap (λ u. u ∷ ts) (head_fits t ts (P.word a) os h).spelled, tail_fits t ts (P.word a) os h)
    unled false a ts os h = (ts, refl, h)

form_complete : (t : Term) (i : Insn) → labels i ≡ false → SpellsForm t i → IsTrue (insn_ok i) → insn_of t ≡ Some i
unfolding insn_ok operand_ok
form_complete t i n f h =
    let x = apart i n (left_true (agrees i) _ h) in
    let row : RowFits f.terms (text_of x.opcode x.values).1 = record {
      spelled = subst (λ (y : Name × Operands). AreSpelled f.terms y.1) x.text f.operands;
      bounded = subst (λ (y : Name × Operands). IsTrue (operands_ok y.1)) x.text (right_true (agrees i) _ h);
    } in
    ap insn_of f.form ∙ of_form (operands i).0 f.terms
    ∙ ap (λ (y : Name × Operands). insn_named y.0 f.terms) x.text
    ∙ opcode_complete x.opcode x.values i f.terms (opcode_row x.opcode).is_test x.no_label x.made
    (left_true (agrees i) _ h) refl row

abbrev label_end : ℕ × List Term → Option Insn
label_end l = at_end l.1 >>= λ e. Some (C.label l.0)

label_complete : (t : Term) (l : ℕ) → t ≡ form (C.label l) → IsTrue (insn_ok (C.label l))
    → insn_of t ≡ Some (C.label l)
unfolding insn_ok operand_ok insn_named
label_complete t l e h =
    ap insn_of e
    ∙ ap (λ b. (if b then Some l else None) >>= with_rest >>= label_end) (left_true (label_ok l) true h)

pub insn_complete : (t : Term) (i : Insn) → IsInsnTerm t i → insn_of t ≡ Some i
insn_complete t (C.label l) h = label_complete t l h.spelled h.bounded
insn_complete t i h = form_complete t i refl h.spelled h.bounded
