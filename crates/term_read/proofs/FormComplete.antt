-- The text of a form is read.
use Rattle.std.proofs.Common.{◌≡◌, ℕ, zero, suc, ℤ, refl, sym, ap, ◌∙◌, subst, List, [], ◌∷◌, ◌++◌, map, codes, Option, Some, None, Bool, true, false, ◌||◌, if◌then◌else◌, eqb, IsTrue, arith}
use Rattle.std.specs.List.{list_all}
use Rattle.std.proofs.lemmas.Bool.Decides.{nat_tests}
use borrow.Author.Tests.{eqb-true}
use Rattle.erl_base.specs.Names.{Name, same_name}
use Rattle.core_chars.specs.Characters.{is_lower, is_digit, is_sign, value_from}
use Rattle.erl_term.specs.Term as T
use Rattle.erl_term.specs.Term.{Term, no_pair, Class}
use Rattle.erl_term.specs.Terms.{terms, list_of, put_all}
use Rattle.erl_term.specs.BitString.{byte_bits}
use Rattle.term_text.specs.Atoms.{is_name_character}
use Rattle.term_read.specs.Lexemes.{◌>>=◌, behind_blanks, behind_mark, mark_at, word_front, run_of, quoted_rest, no_fun, name_front, integer_front, integer_at, integer_of, with_rest, digits_front, below, number_at}
use Rattle.term_read.specs.TermGrammar as G
use Rattle.term_read.specs.TermGrammar.{Row, Items, ListEnd, PairOf, PartOf, Form, part_sized, part_at, whole_before_last, bits_in, number_in, extern_rest, fun_head, class_in, code_point, string_fits, is_byte, ReadsTerm}
use Rattle.term_read.specs.Reading.{items_of, row_of, list_by, tuple_by, pair_by, map_by, marked_by, trace_by, identifier_by, hash_by, part_row, byte_text, bits_by, angle_by, string_by, of_word, word_by, quoted_by, integer_by, leaf_by, form_by, read_by}
use Rattle.term_read.specs.declared.flat.Part.{Part}
use Rattle.term_read.proofs.ItemRows.{no_items}
use Rattle.term_read.proofs.Shorter.{some_same, chosen, mark_is, mark_taken}
use Rattle.term_read.proofs.Deciding.{Complete, Apart, never_some, items_complete, row_complete, end_complete, pair_complete, pair_apart, choose, no_item_stands, nil_given, list_tail, list_given}
use Rattle.term_read.proofs.FunForm.{fun_read}
use Rattle.term_read.proofs.PartRows.{part_consumes}
use Rattle.term_read.proofs.Consuming.{consumes, pair_consumes}

-- No form begins as a closing mark does.

terms_apart : (d c : ℕ) (mark : List ℕ) → ((cs : List ℕ) → form_by d (read_by d) (c ∷ cs) ≡ None)
    → Apart (read_by (suc d)) (c ∷ mark)
terms_apart d c mark h =
    record { none = λ cs ds e. ap (form_by d (read_by d)) (mark_taken (c ∷ mark) cs ds e) ∙ h (mark ++ ds) }

pub bracket_apart : (d : ℕ) → Apart (read_by d) (codes "]")
unfolding form_by leaf_by integer_by digits_front
bracket_apart zero = record { none = λ cs ds e. refl }
bracket_apart (suc d) = terms_apart d 93 [] (λ cs. refl)

pub brace_apart : (d : ℕ) → Apart (read_by d) (codes "}")
unfolding form_by leaf_by integer_by digits_front
brace_apart zero = record { none = λ cs ds e. refl }
brace_apart (suc d) = terms_apart d 125 [] (λ cs. refl)

pub angles_apart : Apart part_at (codes ">>")
unfolding part_at number_at integer_at digits_front
angles_apart = record {
  none = λ cs ds e. ap
      (λ front. integer_front front >>= below 256 >>= λ n. part_sized n (mark_at (codes ":") n.1))
      (mark_taken (codes ">>") cs ds e);
}

part_reads : Complete part_at PartOf
part_reads = record { read = λ cs ds x e. e }

abbrev no_parts : List ℕ → Option (List Part × List ℕ)
no_parts ds = Some ([], ds)

-- where a quote stands, no row of parts does
quote_no_row : (cs es : List ℕ) → behind_blanks cs ≡ 34 ∷ es → row_of part_at (codes ">>") cs ≡ None
unfolding row_of mark_at part_at number_at integer_at digits_front
quote_no_row cs es e =
    choose (mark_at (codes ">>") cs) None no_parts
    (items_of part_at cs >>= λ xs. mark_at (codes ">>") xs.1 >>= λ ds. Some (xs.0, ds))
    (ap (behind_mark (codes ">>")) e)
    ∙ ap (λ r. r >>= λ xs. mark_at (codes ">>") xs.1 >>= λ ds. Some (xs.0, ds))
    (no_items part_at cs (ap
    (λ front. integer_front front >>= below 256 >>= λ n. part_sized n (mark_at (codes ":") n.1)) e))

-- What is given of what was read.

abbrev bytes_given : List ℕ → List ℕ → Option (Term × List ℕ)
bytes_given text ds = Some (T.bits (byte_bits text), ds)

abbrev byte_end : List ℕ × List ℕ → Option (Term × List ℕ)
byte_end s = mark_at (codes ">>") s.1 >>= bytes_given s.0

abbrev string_term : List ℕ × List ℕ → Term × List ℕ
string_term s = (list_of (map code_point s.0) T.nil, s.1)

abbrev atom_term : Name × List ℕ → Term × List ℕ
atom_term w = (T.atom w.0, w.1)

abbrev int_given : ℤ × List ℕ → Option (Term × List ℕ)
int_given z = Some (T.int z.0, z.1)

abbrev marked_given : (ℕ → Term) → ℕ × List ℕ → Option (Term × List ℕ)
marked_given f n = Some (f n.0, n.1)

abbrev trace_given : Class × List ℕ → Option (Term × List ℕ)
trace_given c = Some (T.raw_trace c.0, c.1)

never : true ≡ false → ⊥
never e = cc

-- The forms, one by one.

list_read : (d : ℕ) → Complete (read_by d) (ReadsTerm d) → (cs ds es : List ℕ) (ts : List Term) (u : Term)
    → Items (ReadsTerm d) cs ts ds → ListEnd (ReadsTerm d) ds u es
    → list_by (read_by d) cs ≡ Some (list_of ts u, es)
unfolding list_by
list_read d s cs ds es ts u items end =
    let e = items_complete (read_by d) (ReadsTerm d) s (consumes d) cs ds ts items in
    choose (mark_at (codes "]") cs) None nil_given (items_of (read_by d) cs >>= list_given (read_by d))
    (no_item_stands (read_by d) (codes "]") (bracket_apart d) cs ds ts e (mark_at (codes "]") cs) refl)
    ∙ ap (λ r. r >>= list_given (read_by d)) e
    ∙ ap (λ r. r >>= list_tail ts) (end_complete (read_by d) (ReadsTerm d) s ds es u end)

nil_read : (d : ℕ) (cs ds : List ℕ) → mark_at (codes "]") cs ≡ Some ds → list_by (read_by d) cs ≡ Some (T.nil, ds)
unfolding list_by
nil_read d cs ds e =
    choose (mark_at (codes "]") cs) (Some ds) nil_given (items_of (read_by d) cs >>= list_given (read_by d)) e

tuple_read : (d : ℕ) → Complete (read_by d) (ReadsTerm d) → (cs ds : List ℕ) (ts : List Term)
    → Row (ReadsTerm d) (codes "}") cs ts ds
    → tuple_by (read_by d) cs ≡ Some (T.tuple (terms ts), ds)
unfolding tuple_by
tuple_read d s cs ds ts row =
    ap (λ r. r >>= λ ts. Some (T.tuple (terms ts.0), ts.1))
    (row_complete (read_by d) (ReadsTerm d) (codes "}") s (consumes d) (brace_apart d) cs ds ts row)

map_read : (d : ℕ) → Complete (read_by d) (ReadsTerm d) → (cs ds : List ℕ) (ps : List (Term × Term))
    → Row (PairOf (ReadsTerm d)) (codes "}") cs ps ds
    → map_by (read_by d) cs ≡ Some (T.map (put_all ps no_pair), ds)
unfolding map_by
map_read d s cs ds ps row =
    ap (λ r. r >>= λ ps. Some (T.map (put_all ps.0 no_pair), ps.1))
    (row_complete (pair_by (read_by d)) (PairOf (ReadsTerm d)) (codes "}") (pair_complete (read_by d) (ReadsTerm d) s)
    (pair_consumes d) (pair_apart (read_by d) (codes "}") (brace_apart d)) cs ds ps row)

bits_read : (cs ds : List ℕ) (ps : List Part) → Row PartOf (codes ">>") cs ps ds → IsTrue (whole_before_last ps)
    → bits_by cs ≡ Some (T.bits (bits_in ps), ds)
unfolding bits_by part_row
bits_read cs ds ps row w =
    choose (behind_mark (codes "\"") (behind_blanks cs)) None byte_text (part_row cs)
    (no_quote (behind_mark (codes "\"") (behind_blanks cs)) refl)
    ∙ ap (λ r. r >>= λ ps. if whole_before_last ps.0 then Some (T.bits (bits_in ps.0), ps.1) else None) read
    ∙ ap (λ b. if b then Some given else None) w
  where
    given : Term × List ℕ
    given = (T.bits (bits_in ps), ds)

    read : row_of part_at (codes ">>") cs ≡ Some (ps, ds)
    read = row_complete part_at PartOf (codes ">>") part_reads part_consumes angles_apart cs ds ps row

    no_quote : (r : Option (List ℕ)) → behind_mark (codes "\"") (behind_blanks cs) ≡ r → r ≡ None
    no_quote None f = refl
    no_quote (Some es) f = absurd
        (never_some (ps, ds) (sym (quote_no_row cs es (mark_is (codes "\"") (behind_blanks cs) es f)) ∙ read))

text_read : (cs ds es fs text : List ℕ) → behind_blanks cs ≡ 34 ∷ ds → quoted_rest 34 ds ≡ Some (text, es)
    → IsTrue (list_all is_byte text) → mark_at (codes ">>") es ≡ Some fs
    → bits_by cs ≡ Some (T.bits (byte_bits text), fs)
unfolding bits_by byte_text
text_read cs ds es fs text e q b f =
    choose (behind_mark (codes "\"") (behind_blanks cs)) (Some ds) byte_text (part_row cs)
    (ap (behind_mark (codes "\"")) e)
    ∙ ap (λ r. r >>= λ s. if list_all is_byte s.0 then byte_end s else None) q
    ∙ ap (λ c. if c then byte_end (text, es) else None) b ∙ ap (λ r. r >>= bytes_given text) f

string_read : (d : ℕ) (cs ds text : List ℕ) → quoted_rest 34 cs ≡ Some (text, ds) → IsTrue (string_fits d text)
    → string_by d cs ≡ Some (list_of (map code_point text) T.nil, ds)
unfolding string_by
string_read d cs ds text q b =
    ap (λ r. r >>= λ s. if string_fits d s.0 then Some (string_term s) else None) q
    ∙ ap (λ c. if c then Some (string_term (text, ds)) else None) b

skip : {A : Type 0} (b : Bool) (x y z : A) → b ≡ false → y ≡ z → (if b then x else y) ≡ z
skip b x y z e h = ap (λ c. if c then x else y) e ∙ h

-- what the first character of a number is not
number_first : (c : ℕ) (cs ds : List ℕ) (z : ℤ) → integer_front (c ∷ cs) ≡ Some (z, ds)
    → (is_sign c || is_digit c) ≡ true
unfolding digits_front
number_first c cs ds z e = by (is_sign c) (is_digit c) e
  where
    by : (a b : Bool) → (if a then digits_front (eqb c 45) cs
        else if b then with_rest (integer_of false (value_from 10 0 (run_of is_digit (c ∷ cs)).0))
        (run_of is_digit (c ∷ cs)).1 else None) ≡ Some (z, ds)
        → (a || b) ≡ true
    by true b e = refl
    by false true e = refl
    by false false e = absurd cc

number_is_not : (c k : ℕ) → (is_sign c || is_digit c) ≡ true → (is_sign k || is_digit k) ≡ false → eqb c k ≡ false
number_is_not c k h g = by (eqb c k) refl
  where
    by : (b : Bool) → eqb c k ≡ b → b ≡ false
    by false e = refl
    by true e = absurd (never (sym h ∙ ap (λ x. is_sign x || is_digit x) (eqb-true c k e) ∙ g))

number_no_letter : (c : ℕ) → (is_sign c || is_digit c) ≡ true → is_lower c ≡ false
number_no_letter c h = grind (arith, nat_tests, h)

number_form : (d : ℕ) (p : List ℕ → Option (Term × List ℕ)) (c : ℕ) (cs : List ℕ) → (is_sign c || is_digit c) ≡ true
    → form_by d p (c ∷ cs) ≡ integer_by (c ∷ cs)
unfolding form_by leaf_by
number_form d p c cs h =
    skip (eqb c 91) (list_by p cs) _ _ (number_is_not c 91 h refl)
    (skip (eqb c 123) (tuple_by p cs) _ _ (number_is_not c 123 h refl)
    (skip (eqb c 35) (hash_by p cs) _ _ (number_is_not c 35 h refl)
    (skip (eqb c 60) (angle_by cs) _ _ (number_is_not c 60 h refl)
    (skip (eqb c 34) (string_by d cs) _ _ (number_is_not c 34 h refl)
    (skip (eqb c 39) (quoted_by cs) _ _ (number_is_not c 39 h refl)
    (skip (is_lower c) (word_by (c ∷ cs)) _ _ (number_no_letter c h) refl))))))

letter_is_not : (c k : ℕ) → is_lower c ≡ true → is_lower k ≡ false → eqb c k ≡ false
letter_is_not c k h g = by (eqb c k) refl
  where
    by : (b : Bool) → eqb c k ≡ b → b ≡ false
    by false e = refl
    by true e = absurd (never (sym h ∙ ap is_lower (eqb-true c k e) ∙ g))

word_form : (d : ℕ) (p : List ℕ → Option (Term × List ℕ)) (c : ℕ) (cs : List ℕ) → is_lower c ≡ true
    → form_by d p (c ∷ cs) ≡ word_by (c ∷ cs)
unfolding form_by leaf_by
word_form d p c cs h =
    skip (eqb c 91) (list_by p cs) _ _ (letter_is_not c 91 h refl)
    (skip (eqb c 123) (tuple_by p cs) _ _ (letter_is_not c 123 h refl)
    (skip (eqb c 35) (hash_by p cs) _ _ (letter_is_not c 35 h refl)
    (skip (eqb c 60) (angle_by cs) _ _ (letter_is_not c 60 h refl)
    (skip (eqb c 34) (string_by d cs) _ _ (letter_is_not c 34 h refl)
    (skip (eqb c 39) (quoted_by cs) _ _ (letter_is_not c 39 h refl)
    (ap (λ b. if b then word_by (c ∷ cs) else integer_by (c ∷ cs)) h))))))

word_small : (c : ℕ) (cs : List ℕ) (w : List ℕ × List ℕ) → word_front (c ∷ cs) ≡ Some w → is_lower c ≡ true
word_small c cs w e = (chosen (is_lower c) (run_of is_name_character (c ∷ cs)) w e).0

integer_read : (d : ℕ) (p : List ℕ → Option (Term × List ℕ)) (cs ds : List ℕ) (z : ℤ) → integer_front cs ≡ Some (z, ds)
    → form_by d p cs ≡ Some (T.int z, ds)
unfolding integer_by
integer_read d p [] ds z e = absurd cc
integer_read d p (c ∷ cs) ds z e = number_form d p c cs (number_first c cs ds z e) ∙ ap (λ r. r >>= int_given) e

quoted_read : (d : ℕ) (p : List ℕ → Option (Term × List ℕ)) (cs ds : List ℕ) (a : Name)
    → quoted_rest 39 cs ≡ Some (a, ds) → form_by d p (39 ∷ cs) ≡ Some (T.atom a, ds)
unfolding form_by leaf_by quoted_by
quoted_read d p cs ds a e = ap (λ r. r >>= λ a. Some (atom_term a)) e

plain_read : (d : ℕ) (p : List ℕ → Option (Term × List ℕ)) (c : ℕ) (cs ds : List ℕ) (a : Name)
    (r : Option (Name × List ℕ)) → word_front (c ∷ cs) ≡ r → no_fun r ≡ Some (a, ds)
    → form_by d p (c ∷ cs) ≡ Some (T.atom a, ds)
unfolding word_by
plain_read d p c cs ds a None f e = absurd cc
plain_read d p c cs ds a (Some w) f e =
    word_form d p c cs (word_small c cs w f) ∙ ap (λ r. r >>= of_word) f ∙ by (same_name (codes "fun") w.0) e
  where
    by : (b : Bool) → (if b then None else Some w) ≡ Some (a, ds)
        → (if b then extern_rest w.1 else Some (atom_term w)) ≡ Some (T.atom a, ds)
    by true e = absurd cc
    by false e = ap (λ v. Some (atom_term v)) (some_same w (a, ds) e)

atom_read : (d : ℕ) (p : List ℕ → Option (Term × List ℕ)) (cs ds : List ℕ) (a : Name) → name_front cs ≡ Some (a, ds)
    → form_by d p cs ≡ Some (T.atom a, ds)
atom_read d p [] ds a e = absurd cc
atom_read d p (c ∷ cs) ds a e = by (eqb c 39) refl e
  where
    by : (b : Bool) → eqb c 39 ≡ b → (if b then quoted_rest 39 cs else no_fun (word_front (c ∷ cs))) ≡ Some (a, ds)
        → form_by d p (c ∷ cs) ≡ Some (T.atom a, ds)
    by true f e = subst (λ x. form_by d p (x ∷ cs) ≡ Some (T.atom a, ds)) (sym (eqb-true c 39 f))
        (quoted_read d p cs ds a e)
    by false f e = plain_read d p c cs ds a (word_front (c ∷ cs)) refl e

extern_read : (d : ℕ) (p : List ℕ → Option (Term × List ℕ)) (cs ds es : List ℕ) (t : Term)
    → word_front cs ≡ Some (codes "fun", ds) → extern_rest ds ≡ Some (t, es) → form_by d p cs ≡ Some (t, es)
unfolding word_by
extern_read d p [] ds es t f e = absurd cc
extern_read d p (c ∷ cs) ds es t f e =
    word_form d p c cs (word_small c cs (codes "fun", ds) f) ∙ ap (λ r. r >>= of_word) f ∙ e

form_read : (d : ℕ) → Complete (read_by d) (ReadsTerm d) → (cs ds : List ℕ) (t : Term) → Form d (ReadsTerm d) cs t ds
    → form_by d (read_by d) cs ≡ Some (t, ds)
unfolding form_by leaf_by hash_by identifier_by marked_by trace_by
form_read d s _ _ _ (G.integer cs ds z e) = integer_read d (read_by d) cs ds z e
form_read d s _ _ _ (G.atom cs ds a e) = atom_read d (read_by d) cs ds a e
form_read d s _ _ _ (G.nil cs ds e) = nil_read d cs ds e
form_read d s _ _ _ (G.list cs ds es ts u items end) = list_read d s cs ds es ts u items end
form_read d s _ _ _ (G.string cs ds text q b) = string_read d cs ds text q b
form_read d s _ _ _ (G.tuple cs ds ts row) = tuple_read d s cs ds ts row
form_read d s _ _ _ (G.mapping cs ds ps row) = map_read d s cs ds ps row
form_read d s _ _ _ (G.bit_string cs ds ps row w) = bits_read cs ds ps row w
form_read d s _ _ _ (G.byte_string cs ds es fs text e q b f) = text_read cs ds es fs text e q b f
form_read d s _ _ _ (G.external_fun cs ds es t f e) = extern_read d (read_by d) cs ds es t f e
form_read d s _ _ _ (G.local_fun cs ds es fs h ts e row f) =
    fun_read (read_by d) cs ds es fs h ts e
    (row_complete (read_by d) (ReadsTerm d) (codes "]") s (consumes d) (bracket_apart d) ds es ts row) f
form_read d s _ _ _ (G.pid cs ds n e) = ap (λ r. r >>= marked_given T.pid) e
form_read d s _ _ _ (G.reference cs ds n e) = ap (λ r. r >>= marked_given T.reference) e
form_read d s _ _ _ (G.port cs ds n e) = ap (λ r. r >>= marked_given T.port) e
form_read d s _ _ _ (G.raw_trace cs ds c e) = ap (λ r. r >>= trace_given) e

pub reads_complete : (d : ℕ) → Complete (read_by d) (ReadsTerm d)
reads_complete zero = record { read = λ cs ds t h. absurd h }
reads_complete (suc d) = record { read = λ cs ds t h. form_read d (reads_complete d) (behind_blanks cs) ds t h }
