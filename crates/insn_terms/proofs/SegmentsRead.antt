-- Segments and lists of operands: what is read is what the term spells, within its bounds.
use Rattle.std.proofs.Common.{◌≡◌, refl, ap, ◌∙◌, subst, List, [], ◌∷◌, ◌++◌, length, Option, Some, codes, arith}
use Rattle.erl_term.specs.Term as T
use Rattle.erl_term.specs.Term.{Term}
use Rattle.erl_term.specs.Terms.{tagged, list_of}
use Rattle.term_read.specs.Lexemes.{◌>>=◌}
use Rattle.term_read.proofs.Shorter.{bound, some_same}
use Rattle.beam_table.specs.Code.{Segment}
use Rattle.beam_table.specs.declared.opcode.Kind.{Kind}
use Rattle.beam_table.specs.declared.opcode.Kind.TheVariants as K
use Rattle.beam_table.specs.Operands as P
use Rattle.beam_table.specs.Operands.{Operand, Operands, end, ◌then◌, each, kind_word, segment}
use Rattle.beam_table.specs.OperandBounds.{operand_ok}
use Rattle.insn_terms.specs.Values.{operand_from, operands_from}
use Rattle.insn_terms.specs.Reading.{items_of, behind, alone, source_of, register_of, amount_value, label_value, y_value, singles, in_pairs, both, segment_from, segment_in, segments_in, list_items, two_in, sized_in, tagged_in, field_in, counted_in, value_of, values_of}
use Rattle.insn_terms.proofs.Apart.{items_sound, items_there, behind_sound}
use Rattle.insn_terms.proofs.OperandsRead.{Sane, AllSane, sane_part, sane_items}
use Rattle.insn_terms.proofs.RowsRead.{RowFits, IsRight, right_live, right_arity, right_site, right_unit, right_amount, right_source, right_register, right_x, right_y, right_own, right_entry, right_label_or_zero, right_label_or_no_fail, right_no_label, right_zero, right_word, right_atom, right_extern, right_field_flags, right_flag_list}
use Rattle.insn_terms.proofs.ListsRead.{IsRowRight, none_fits, joined, head_fits, tail_fits, right_singles, right_pairs, right_end, right_alone, right_and_then, right_two, right_sized, right_tagged, right_field, right_counted, Parts, six, right_six}

-- operands before others
abbrev before : List Operand → Operands → Operands
before [] r = r
before (o ∷ os) r = o then before os r

spliced : (ps : List Operand) (ts us : List Term) (os : Operands) → RowFits ts (before ps end) → RowFits us os
    → RowFits (ts ++ us) (before ps os)
spliced [] [] us os h k = k
spliced [] (t ∷ ts) us os h k = absurd h.spelled
spliced (p ∷ ps) [] us os h k = absurd h.spelled
spliced (p ∷ ps) (t ∷ ts) us os h k =
    joined t (ts ++ us) p (before ps os) (head_fits t ts p (before ps end) h)
    (spliced ps ts us os (tail_fits t ts p (before ps end) h) k)

front_fits : (ps : List Operand) (ts us : List Term) (os : Operands) → length ts ≡ length ps
    → RowFits (ts ++ us) (before ps os) → RowFits ts (before ps end)
front_fits [] [] us os l h = none_fits
front_fits [] (t ∷ ts) us os l h = absurd cc
front_fits (p ∷ ps) [] us os l h = absurd cc
front_fits (p ∷ ps) (t ∷ ts) us os l h =
    let k : length ts ≡ length ps = omega (arith, l) in
    joined t ts p (before ps end) (head_fits t (ts ++ us) p (before ps os) h)
    (front_fits ps ts us os k (tail_fits t (ts ++ us) p (before ps os) h))

rest_fits : (ps : List Operand) (ts us : List Term) (os : Operands) → length ts ≡ length ps
    → RowFits (ts ++ us) (before ps os) → RowFits us os
rest_fits [] [] us os l h = h
rest_fits [] (t ∷ ts) us os l h = absurd cc
rest_fits (p ∷ ps) [] us os l h = absurd cc
rest_fits (p ∷ ps) (t ∷ ts) us os l h =
    let k : length ts ≡ length ps = omega (arith, l) in
    rest_fits ps ts us os k (tail_fits t (ts ++ us) p (before ps os) h)

abbrev six_of : Segment → List Operand
six_of g = P.atom_operand (kind_word g.is_binary) ∷ P.amount g.number ∷ P.unit g.unit ∷ P.flag_list g.flags
    ∷ P.source g.value ∷ P.source g.size ∷ []

abbrev parts_of : Segment → Parts
parts_of g = (g.is_binary, (g.number, (g.unit, (g.flags, (g.value, g.size)))))

segment_sound : (ts : List Term) (g : Segment) → AllSane ts → segment_in ts ≡ Some g
    → RowFits ts (before (six_of g) end)
segment_sound ts g s e =
    let x = bound (six ts) (λ v. Some (segment_from v)) g e in
    subst (λ h. RowFits ts (before (six_of h) end)) (some_same (segment_from x.0) g x.2)
    (right_six.sound ts x.0 s x.1)

segment_complete : (ts : List Term) (g : Segment) → RowFits ts (before (six_of g) end) → segment_in ts ≡ Some g
segment_complete ts g h = ap (λ r. r >>= λ v. Some (segment_from v)) (right_six.complete ts (parts_of g) h)

right_segments : IsRowRight segments_in (λ gs. each segment gs)
right_segments = record { sound = sound; complete = complete }
  where
    sound : (ts : List Term) (gs : List Segment) → AllSane ts → segments_in ts ≡ Some gs
        → RowFits ts (each segment gs)
    sound [] gs w e = subst (λ (hs : List Segment). RowFits [] (each segment hs)) (some_same [] gs e) none_fits
    sound (k ∷ []) gs w e = absurd cc
    sound (k ∷ n ∷ []) gs w e = absurd cc
    sound (k ∷ n ∷ u ∷ []) gs w e = absurd cc
    sound (k ∷ n ∷ u ∷ f ∷ []) gs w e = absurd cc
    sound (k ∷ n ∷ u ∷ f ∷ v ∷ []) gs w e = absurd cc
    sound (k ∷ n ∷ u ∷ f ∷ v ∷ s ∷ ts) gs w e =
        let x = bound (segment_in (k ∷ n ∷ u ∷ f ∷ v ∷ s ∷ [])) (λ g. segments_in ts >>= λ hs. Some (g ∷ hs)) gs e in
        let y = bound (segments_in ts) (λ hs. Some (x.0 ∷ hs)) gs x.2 in
        subst (λ (hs : List Segment). RowFits (k ∷ n ∷ u ∷ f ∷ v ∷ s ∷ ts) (each segment hs))
        (some_same (x.0 ∷ y.0) gs y.2)
        (spliced (six_of x.0) (k ∷ n ∷ u ∷ f ∷ v ∷ s ∷ []) ts (each segment y.0)
        (segment_sound (k ∷ n ∷ u ∷ f ∷ v ∷ s ∷ []) x.0
        (w.0, (w.1.0, (w.1.1.0, (w.1.1.1.0, (w.1.1.1.1.0, (w.1.1.1.1.1.0, tt)))))) x.1)
        (sound ts y.0 w.1.1.1.1.1.1 y.1))

    complete : (ts : List Term) (gs : List Segment) → RowFits ts (each segment gs) → segments_in ts ≡ Some gs
    complete [] [] h = refl
    complete [] (g ∷ gs) h = absurd h.spelled
    complete (t ∷ ts) [] h = absurd h.spelled
    complete (k ∷ []) (g ∷ gs) h = absurd h.spelled.1
    complete (k ∷ n ∷ []) (g ∷ gs) h = absurd h.spelled.1.1
    complete (k ∷ n ∷ u ∷ []) (g ∷ gs) h = absurd h.spelled.1.1.1
    complete (k ∷ n ∷ u ∷ f ∷ []) (g ∷ gs) h = absurd h.spelled.1.1.1.1
    complete (k ∷ n ∷ u ∷ f ∷ v ∷ []) (g ∷ gs) h = absurd h.spelled.1.1.1.1.1
    complete (k ∷ n ∷ u ∷ f ∷ v ∷ s ∷ ts) (g ∷ gs) h =
        ap (λ r. r >>= λ g. segments_in ts >>= λ hs. Some (g ∷ hs))
        (segment_complete (k ∷ n ∷ u ∷ f ∷ v ∷ s ∷ []) g
        (front_fits (six_of g) (k ∷ n ∷ u ∷ f ∷ v ∷ s ∷ []) ts (each segment gs) refl h))
        ∙ ap (λ r. r >>= λ hs. Some (g ∷ hs))
        (complete ts gs (rest_fits (six_of g) (k ∷ n ∷ u ∷ f ∷ v ∷ s ∷ []) ts (each segment gs) refl h))

-- Lists.

right_list : {A : Type 0} (g : List Term → Option A) (os : A → Operands) → IsRowRight g os
    → IsRight (λ t. list_items t >>= g) (λ a. P.list (os a))
unfolding operand_ok
right_list g os r = record {
  sound = λ t a s e.
      let x = bound (list_items t) g a e in
      let y = bound (behind (codes "list") t) items_of x.0 x.1 in
      let w = behind_sound (codes "list") t y.0 y.1 ∙ ap (tagged (codes "list")) (items_sound y.0 x.0 y.2) in
      let f = r.sound x.0 a (sane_items x.0 (sane_part (codes "list") (list_of x.0 T.nil) (subst Sane w s))) x.2 in
      record { spelled = (x.0, w, f.spelled); bounded = f.bounded };
  complete = λ t a h.
      ap (λ u. list_items u >>= g) h.spelled.1
      ∙ ap (λ u. u >>= g) (items_there h.spelled.0)
      ∙ r.complete h.spelled.0 a (record { spelled = h.spelled.2; bounded = h.bounded });
}

right_items : {A : Type 0} (g : List Term → Option A) (os : A → Operands) → IsRowRight g os
    → IsRight (λ t. items_of t >>= g) (λ a. P.items (os a))
unfolding operand_ok
right_items g os r = record {
  sound = λ t a s e.
      let x = bound (items_of t) g a e in
      let w = items_sound t x.0 x.1 in
      let f = r.sound x.0 a (sane_items x.0 (subst Sane w s)) x.2 in
      record { spelled = (x.0, w, f.spelled); bounded = f.bounded };
  complete = λ t a h.
      ap (λ u. items_of u >>= g) h.spelled.1
      ∙ ap (λ u. u >>= g) (items_there h.spelled.0)
      ∙ r.complete h.spelled.0 a (record { spelled = h.spelled.2; bounded = h.bounded });
}

-- Kinds.

right_of : (k : Kind) → IsRight (value_of k) (operand_from k)
right_of K.Source = right_source
right_of K.Register = right_register
right_of K.OwnLabel = right_own
right_of K.EntryLabel = right_entry
right_of K.LabelOrZero = right_label_or_zero
right_of K.LabelOrNoFail = right_label_or_no_fail
right_of K.NoLabel = right_no_label
right_of K.XSlot = right_x
right_of K.YSlot = right_y
right_of K.Live = right_live
right_of K.Arity = right_arity
right_of K.Site = right_site
right_of K.Unit = right_unit
right_of K.Amount = right_amount
right_of K.Zero = right_zero
right_of K.Function = right_word
right_of K.Atom = right_atom
right_of K.Extern = right_extern
right_of K.FieldFlags = right_field_flags
right_of K.FlagList = right_flag_list
right_of K.Slots = right_list (singles y_value) _ (right_singles y_value P.y_slot right_y)
right_of K.Sources = right_list (singles source_of) _ (right_singles source_of P.source right_source)
right_of K.PutPairs =
    right_list (in_pairs (both source_of source_of)) _
    (right_pairs source_of source_of P.source P.source right_source right_source)
right_of K.GetPairs =
    right_list (in_pairs (both source_of register_of)) _
    (right_pairs source_of register_of P.source P.register right_source right_register)
right_of K.ValueChoices =
    right_list (in_pairs (both source_of label_value)) _
    (right_pairs source_of label_value P.source P.own_label right_source right_own)
right_of K.SizeChoices =
    right_list (in_pairs (both amount_value label_value)) _
    (right_pairs amount_value label_value P.amount P.own_label right_amount right_own)
right_of K.Segments = right_list segments_in _ right_segments
right_of K.Arguments = right_items (singles source_of) _ (right_singles source_of P.source right_source)
right_of K.One = right_items (alone source_of) (λ s. P.source s then end) (right_alone source_of P.source right_source)
right_of K.Two = right_items two_in _ right_two
right_of K.Sized = right_items sized_in _ right_sized
right_of K.Tagged = right_items tagged_in _ right_tagged
right_of K.Field = right_items field_in _ right_field
right_of K.Counted = right_items counted_in _ right_counted

pub right_values : (ks : List Kind) → IsRowRight (values_of ks) (operands_from ks)
right_values [] = right_end
right_values (k ∷ ks) = right_and_then (value_of k) (operand_from k) (values_of ks) (operands_from ks) (right_of k)
    (right_values ks)
