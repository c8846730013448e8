-- What is read of a form is the form's text.
use Rattle.std.proofs.Common.{◌≡◌, ◌^◌, ℕ, zero, suc, refl, sym, ap, ap₂, ◌∙◌, subst, List, [], ◌∷◌, ◌++◌, map, length, codes, Option, Some, None, Bool, true, false, if◌then◌else◌, eqb, arith}
use Rattle.std.specs.List.{list_all}
use Rattle.std.proofs.lemmas.Bool.Decides.{nat_tests}
use borrow.Author.Tests.{eqb-true}
use Rattle.erl_term.proofs.Forms.{left_true, right_true}
use Rattle.erl_base.specs.Names.{Name, same_name}
use Rattle.erl_term.specs.Term as T
use Rattle.erl_term.specs.Term.{Term, no_pair, Class}
use Rattle.erl_term.specs.Terms.{terms, list_of, put_all}
use Rattle.erl_term.specs.BitString.{byte_bits}
use Rattle.term_read.specs.Lexemes.{◌>>=◌, behind_blanks, behind_mark, mark_at, word_front, quoted_rest, no_fun, name_front, integer_front}
use Rattle.term_read.specs.TermGrammar as G
use Rattle.term_read.specs.TermGrammar.{Row, Items, ListEnd, PairOf, PartOf, Form, part_at, whole_before_last, bits_in, number_in, extern_rest, fun_head, class_in, code_point, string_fits, is_byte, ReadsTerm}
use Rattle.core_chars.specs.Characters.{is_lower}
use Rattle.term_read.specs.Reading.{choice, items_of, row_of, list_end, list_by, tuple_by, pair_by, map_by, fun_by, marked_by, trace_by, identifier_by, hash_by, part_row, byte_text, bits_by, angle_by, string_by, of_word, word_by, quoted_by, integer_by, leaf_by, form_by, read_by}
use Rattle.term_read.specs.declared.flat.FunHead.{FunHead}
use Rattle.term_read.specs.declared.flat.Part.{Part}
use Rattle.term_read.proofs.Shorter.{bound, some_same, chosen, mark_is}
use Rattle.term_read.proofs.Deciding.{Sound, items_sound, row_sound, end_sound, pair_sound, nil_given, list_tail, list_given}

-- what reads the form behind these characters
abbrev Reads : ℕ → (List ℕ → Term → List ℕ → Type 0) → List ℕ → Option (Term × List ℕ) → Type 0
Reads d R front r = (ds : List ℕ) (t : Term) → r ≡ Some (t, ds) → Form d R front t ds

-- the same of what was read, by what it equals
along : (d : ℕ) (R : List ℕ → Term → List ℕ → Type 0) (front : List ℕ) (x y : Term × List ℕ) → Some x ≡ Some y
    → Form d R front x.0 x.1 → Form d R front y.0 y.1
along d R front x y e h = subst (λ (z : Term × List ℕ). Form d R front z.0 z.1) (some_same x y e) h

list_sound : (d : ℕ) (p : List ℕ → Option (Term × List ℕ)) (R : List ℕ → Term → List ℕ → Type 0) → Sound p R
    → (cs : List ℕ) → Reads d R (codes "[" ++ cs) (list_by p cs)
unfolding list_by items_of
list_sound d p R s cs ds t e = by (mark_at (codes "]") cs) refl e
  where
    by : (r : Option (List ℕ)) → mark_at (codes "]") cs ≡ r
        → choice r nil_given (items_of p cs >>= list_given p) ≡ Some (t, ds) → Form d R (codes "[" ++ cs) t ds
    by (Some es) f e = along d R (codes "[" ++ cs) (T.nil, es) (t, ds) e (G.nil cs es f)
    by None f e =
        let ts = bound (items_of p cs) (list_given p) (t, ds) e in
        let u = bound (list_end p (ts.0).1) (list_tail (ts.0).0) (t, ds) ts.2 in
        along d R (codes "[" ++ cs) (list_of (ts.0).0 (u.0).0, (u.0).1) (t, ds) u.2
        (G.list cs (ts.0).1 (u.0).1 (ts.0).0 (u.0).0 (items_sound p R s (length cs) cs (ts.0).1 (ts.0).0 ts.1)
        (end_sound p R s (ts.0).1 (u.0).1 (u.0).0 u.1))

tuple_sound : (d : ℕ) (p : List ℕ → Option (Term × List ℕ)) (R : List ℕ → Term → List ℕ → Type 0) → Sound p R
    → (cs : List ℕ) → Reads d R (codes "{" ++ cs) (tuple_by p cs)
unfolding tuple_by
tuple_sound d p R s cs ds t e =
    let ts = bound (row_of p (codes "}") cs) (λ ts. Some (T.tuple (terms ts.0), ts.1)) (t, ds) e in
    along d R (codes "{" ++ cs) (T.tuple (terms (ts.0).0), (ts.0).1) (t, ds) ts.2
    (G.tuple cs (ts.0).1 (ts.0).0 (row_sound p R (codes "}") s cs (ts.0).1 (ts.0).0 ts.1))

map_sound : (d : ℕ) (p : List ℕ → Option (Term × List ℕ)) (R : List ℕ → Term → List ℕ → Type 0) → Sound p R
    → (cs : List ℕ) → Reads d R (codes "#{" ++ cs) (map_by p cs)
unfolding map_by
map_sound d p R s cs ds t e =
    let ps = bound (row_of (pair_by p) (codes "}") cs) (λ ps. Some (T.map (put_all ps.0 no_pair), ps.1)) (t, ds) e in
    along d R (codes "#{" ++ cs) (T.map (put_all (ps.0).0 no_pair), (ps.0).1) (t, ds) ps.2
    (G.mapping cs (ps.0).1 (ps.0).0
    (row_sound (pair_by p) (PairOf R) (codes "}") (pair_sound p R s) cs (ps.0).1 (ps.0).0 ps.1))

abbrev fun_term : FunHead → List Term → Term
fun_term h ts = T.fun h.home h.site h.arity (terms ts)

abbrev fun_close : FunHead → List Term × List ℕ → Option (Term × List ℕ)
fun_close h ts = mark_at (codes ">") ts.1 >>= λ ds. Some (fun_term h ts.0, ds)

fun_sound : (d : ℕ) (p : List ℕ → Option (Term × List ℕ)) (R : List ℕ → Term → List ℕ → Type 0) → Sound p R
    → (cs : List ℕ) → Reads d R (codes "#Fun<" ++ cs) (fun_by p cs)
unfolding fun_by
fun_sound d p R s cs ds t e =
    let h = bound (fun_head cs) (λ h. row_of p (codes "]") h.1 >>= fun_close h.0) (t, ds) e in
    let ts = bound (row_of p (codes "]") (h.0).1) (fun_close (h.0).0) (t, ds) h.2 in
    let es = bound (mark_at (codes ">") (ts.0).1) (λ es. Some (fun_term (h.0).0 (ts.0).0, es)) (t, ds) ts.2 in
    along d R (codes "#Fun<" ++ cs) (fun_term (h.0).0 (ts.0).0, es.0) (t, ds) es.2
    (G.local_fun cs (h.0).1 (ts.0).1 es.0 (h.0).0 (ts.0).0 h.1
    (row_sound p R (codes "]") s (h.0).1 (ts.0).1 (ts.0).0 ts.1) es.1)

marked_sound : (d : ℕ) (R : List ℕ → Term → List ℕ → Type 0) (front cs : List ℕ) (f : ℕ → Term)
    → ((ds : List ℕ) (n : ℕ) → number_in (2 ^ 64) cs ≡ Some (n, ds) → Form d R front (f n) ds)
    → Reads d R front (marked_by f cs)
unfolding marked_by
marked_sound d R front cs f h ds t e =
    let n = bound (number_in (2 ^ 64) cs) (λ n. Some (f n.0, n.1)) (t, ds) e in
    along d R front (f (n.0).0, (n.0).1) (t, ds) n.2 (h (n.0).1 (n.0).0 n.1)

trace_sound : (d : ℕ) (R : List ℕ → Term → List ℕ → Type 0) (cs : List ℕ)
    → Reads d R (codes "#Trace<" ++ cs) (trace_by cs)
unfolding trace_by
trace_sound d R cs ds t e =
    let c = bound (class_in cs) (λ c. Some (T.raw_trace c.0, c.1)) (t, ds) e in
    along d R (codes "#Trace<" ++ cs) (T.raw_trace (c.0).0, (c.0).1) (t, ds) c.2 (G.raw_trace cs (c.0).1 (c.0).0 c.1)

-- one of two: what a mark begins, or the other
either_sound : (d : ℕ) (R : List ℕ → Term → List ℕ → Type 0) (m cs : List ℕ) (f : List ℕ → Option (Term × List ℕ))
    (other : Option (Term × List ℕ))
    → ((es : List ℕ) → Reads d R (35 ∷ (m ++ es)) (f es)) → Reads d R (35 ∷ cs) other
    → Reads d R (35 ∷ cs) (choice (behind_mark m cs) f other)
either_sound d R m cs f other h k ds t e = by (behind_mark m cs) refl e
  where
    by : (r : Option (List ℕ)) → behind_mark m cs ≡ r → choice r f other ≡ Some (t, ds) → Form d R (35 ∷ cs) t ds
    by None g e = k ds t e
    by (Some es) g e = subst (λ xs. Form d R (35 ∷ xs) t ds) (sym (mark_is m cs es g)) (h es ds t e)

nothing_sound : (d : ℕ) (R : List ℕ → Term → List ℕ → Type 0) (front : List ℕ) → Reads d R front None
nothing_sound d R front ds t e = absurd cc

hash_sound : (d : ℕ) (p : List ℕ → Option (Term × List ℕ)) (R : List ℕ → Term → List ℕ → Type 0) → Sound p R
    → (cs : List ℕ) → Reads d R (codes "#" ++ cs) (hash_by p cs)
unfolding hash_by identifier_by
hash_sound d p R s cs =
    either_sound d R (codes "{") cs (map_by p) _ (map_sound d p R s)
    (either_sound d R (codes "Fun<") cs (fun_by p) _ (fun_sound d p R s)
    (either_sound d R (codes "Pid<") cs (marked_by T.pid) _
    (λ es. marked_sound d R (codes "#Pid<" ++ es) es T.pid (G.pid es))
    (either_sound d R (codes "Ref<") cs (marked_by T.reference) _
    (λ es. marked_sound d R (codes "#Ref<" ++ es) es T.reference (G.reference es))
    (either_sound d R (codes "Port<") cs (marked_by T.port) _
    (λ es. marked_sound d R (codes "#Port<" ++ es) es T.port (G.port es))
    (either_sound d R (codes "Trace<") cs trace_by None (trace_sound d R) (nothing_sound d R (35 ∷ cs)))))))

abbrev byte_end : List ℕ × List ℕ → Option (Term × List ℕ)
byte_end s = mark_at (codes ">>") s.1 >>= λ ds. Some (T.bits (byte_bits s.0), ds)

abbrev parts_term : List Part × List ℕ → Term × List ℕ
parts_term ps = (T.bits (bits_in ps.0), ps.1)

abbrev string_term : List ℕ × List ℕ → Term × List ℕ
string_term s = (list_of (map code_point s.0) T.nil, s.1)

abbrev atom_term : Name × List ℕ → Term × List ℕ
atom_term w = (T.atom w.0, w.1)

-- names that are the same are equal
names_same : (a b : Name) → same_name a b ≡ true → a ≡ b
names_same [] [] h = refl
names_same [] (y ∷ b) h = absurd cc
names_same (x ∷ a) [] h = absurd cc
names_same (x ∷ a) (y ∷ b) h = ap₂ (λ z zs. z ∷ zs) (eqb-true x y (left_true (eqb x y) (same_name a b) h))
    (names_same a b (right_true (eqb x y) (same_name a b) h))

part_finds : Sound part_at PartOf
part_finds = record { reads = λ cs ds x e. e }

byte_text_sound : (d : ℕ) (R : List ℕ → Term → List ℕ → Type 0) (cs es : List ℕ) → behind_blanks cs ≡ 34 ∷ es
    → Reads d R (codes "<<" ++ cs) (byte_text es)
unfolding byte_text
byte_text_sound d R cs es f ds t e =
    let s = bound (quoted_rest 34 es) (λ s. if list_all is_byte s.0 then byte_end s else None) (t, ds) e in
    by s.0 s.1 (list_all is_byte (s.0).0) refl s.2
  where
    by : (s : List ℕ × List ℕ) → quoted_rest 34 es ≡ Some s → (b : Bool) → list_all is_byte s.0 ≡ b
        → (if b then byte_end s else None) ≡ Some (t, ds) → Form d R (codes "<<" ++ cs) t ds
    by s q false g e = absurd cc
    by s q true g e =
        let fs = bound (mark_at (codes ">>") s.1) (λ fs. Some (T.bits (byte_bits s.0), fs)) (t, ds) e in
        along d R (codes "<<" ++ cs) (T.bits (byte_bits s.0), fs.0) (t, ds) fs.2
        (G.byte_string cs es s.1 fs.0 s.0 f q g fs.1)

part_row_sound : (d : ℕ) (R : List ℕ → Term → List ℕ → Type 0) (cs : List ℕ)
    → Reads d R (codes "<<" ++ cs) (part_row cs)
unfolding part_row
part_row_sound d R cs ds t e =
    let ps = bound (row_of part_at (codes ">>") cs) (λ ps. if whole_before_last ps.0 then Some (parts_term ps)
    else None) (t, ds) e in
    let k = chosen (whole_before_last (ps.0).0) (parts_term ps.0) (t, ds) ps.2 in
    along d R (codes "<<" ++ cs) (parts_term ps.0) (t, ds) (ap (λ x. Some x) k.1)
    (G.bit_string cs (ps.0).1 (ps.0).0 (row_sound part_at PartOf (codes ">>") part_finds cs (ps.0).1 (ps.0).0 ps.1) k.0)

bits_sound : (d : ℕ) (R : List ℕ → Term → List ℕ → Type 0) (cs : List ℕ) → Reads d R (codes "<<" ++ cs) (bits_by cs)
unfolding bits_by
bits_sound d R cs ds t e = by (behind_mark (codes "\"") (behind_blanks cs)) refl e
  where
    by : (r : Option (List ℕ)) → behind_mark (codes "\"") (behind_blanks cs) ≡ r
        → choice r byte_text (part_row cs) ≡ Some (t, ds) → Form d R (codes "<<" ++ cs) t ds
    by None f e = part_row_sound d R cs ds t e
    by (Some es) f e = byte_text_sound d R cs es (mark_is (codes "\"") (behind_blanks cs) es f) ds t e

angle_sound : (d : ℕ) (R : List ℕ → Term → List ℕ → Type 0) (cs : List ℕ) → Reads d R (codes "<" ++ cs) (angle_by cs)
angle_sound d R cs ds t e =
    let es = bound (behind_mark (codes "<") cs) bits_by (t, ds) e in
    subst (λ xs. Form d R (60 ∷ xs) t ds) (sym (mark_is (codes "<") cs es.0 es.1)) (bits_sound d R es.0 ds t es.2)

string_sound : (d : ℕ) (R : List ℕ → Term → List ℕ → Type 0) (cs : List ℕ) → Reads d R (34 ∷ cs) (string_by d cs)
unfolding string_by
string_sound d R cs ds t e =
    let s = bound (quoted_rest 34 cs) (λ s. if string_fits d s.0 then Some (string_term s) else None) (t, ds) e in
    let k = chosen (string_fits d (s.0).0) (string_term s.0) (t, ds) s.2 in
    along d R (34 ∷ cs) (string_term s.0) (t, ds) (ap (λ x. Some x) k.1) (G.string cs (s.0).1 (s.0).0 s.1 k.0)

quoted_sound : (d : ℕ) (R : List ℕ → Term → List ℕ → Type 0) (cs : List ℕ) → Reads d R (39 ∷ cs) (quoted_by cs)
unfolding quoted_by
quoted_sound d R cs ds t e =
    let a = bound (quoted_rest 39 cs) (λ a. Some (T.atom a.0, a.1)) (t, ds) e in
    along d R (39 ∷ cs) (T.atom (a.0).0, (a.0).1) (t, ds) a.2 (G.atom (39 ∷ cs) (a.0).1 (a.0).0 a.1)

-- a small letter is no quote
small_no_quote : (c : ℕ) → is_lower c ≡ true → eqb c 39 ≡ false
small_no_quote c h = grind (arith, nat_tests, h)

word_sound : (d : ℕ) (R : List ℕ → Term → List ℕ → Type 0) (c : ℕ) (cs : List ℕ) → is_lower c ≡ true
    → Reads d R (c ∷ cs) (word_by (c ∷ cs))
unfolding word_by
word_sound d R c cs h ds t e =
    let w = bound (word_front (c ∷ cs)) of_word (t, ds) e in
    by w.0 w.1 (same_name (codes "fun") (w.0).0) refl w.2
  where
    plain : (w : Name × List ℕ) → word_front (c ∷ cs) ≡ Some w → same_name (codes "fun") w.0 ≡ false
        → name_front (c ∷ cs) ≡ Some w
    plain w f g =
        ap (λ b. if b then quoted_rest 39 cs else no_fun (word_front (c ∷ cs))) (small_no_quote c h) ∙ ap no_fun f
        ∙ ap (λ b. if b then None else Some w) g

    by : (w : Name × List ℕ) → word_front (c ∷ cs) ≡ Some w → (b : Bool) → same_name (codes "fun") w.0 ≡ b
        → (if b then extern_rest w.1 else Some (atom_term w)) ≡ Some (t, ds)
        → Form d R (c ∷ cs) t ds
    by w f true g e = G.external_fun (c ∷ cs) w.1 ds t
        (f ∙ ap (λ a. Some (a, w.1)) (sym (names_same (codes "fun") w.0 g))) e
    by w f false g e = along d R (c ∷ cs) (atom_term w) (t, ds) e (G.atom (c ∷ cs) w.1 w.0 (plain w f g))

integer_sound : (d : ℕ) (R : List ℕ → Term → List ℕ → Type 0) (cs : List ℕ) → Reads d R cs (integer_by cs)
unfolding integer_by
integer_sound d R cs ds t e =
    let z = bound (integer_front cs) (λ z. Some (T.int z.0, z.1)) (t, ds) e in
    along d R cs (T.int (z.0).0, (z.0).1) (t, ds) z.2 (G.integer cs (z.0).1 (z.0).0 z.1)

-- a form that begins with this character, or another
first_sound : (d : ℕ) (R : List ℕ → Term → List ℕ → Type 0) (k c : ℕ) (cs : List ℕ)
    (this other : Option (Term × List ℕ))
    → Reads d R (k ∷ cs) this → (eqb c k ≡ false → Reads d R (c ∷ cs) other)
    → Reads d R (c ∷ cs) (if eqb c k then this else other)
first_sound d R k c cs this other h g ds t e = by (eqb c k) refl e
  where
    by : (b : Bool) → eqb c k ≡ b → (if b then this else other) ≡ Some (t, ds) → Form d R (c ∷ cs) t ds
    by true f e = subst (λ x. Form d R (x ∷ cs) t ds) (sym (eqb-true c k f)) (h ds t e)
    by false f e = g f ds t e

word_or_integer : (d : ℕ) (R : List ℕ → Term → List ℕ → Type 0) (c : ℕ) (cs : List ℕ)
    → Reads d R (c ∷ cs) (if is_lower c then word_by (c ∷ cs) else integer_by (c ∷ cs))
word_or_integer d R c cs ds t e = by (is_lower c) refl e
  where
    by : (b : Bool) → is_lower c ≡ b → (if b then word_by (c ∷ cs) else integer_by (c ∷ cs)) ≡ Some (t, ds)
        → Form d R (c ∷ cs) t ds
    by true f e = word_sound d R c cs f ds t e
    by false f e = integer_sound d R (c ∷ cs) ds t e

leaf_sound : (d : ℕ) (R : List ℕ → Term → List ℕ → Type 0) (c : ℕ) (cs : List ℕ)
    → Reads d R (c ∷ cs) (leaf_by d (c ∷ cs))
unfolding leaf_by
leaf_sound d R c cs =
    first_sound d R 60 c cs (angle_by cs) (if eqb c 34 then string_by d cs else if eqb c 39 then quoted_by cs
    else if is_lower c then word_by (c ∷ cs) else integer_by (c ∷ cs)) (angle_sound d R cs)
    (λ f. first_sound d R 34 c cs (string_by d cs) (if eqb c 39 then quoted_by cs
    else if is_lower c then word_by (c ∷ cs) else integer_by (c ∷ cs)) (string_sound d R cs)
    (λ g. first_sound d R 39 c cs (quoted_by cs) (if is_lower c then word_by (c ∷ cs) else integer_by (c ∷ cs))
    (quoted_sound d R cs) (λ h. word_or_integer d R c cs)))

pub form_sound : (d : ℕ) (p : List ℕ → Option (Term × List ℕ)) (R : List ℕ → Term → List ℕ → Type 0) → Sound p R
    → (cs : List ℕ) → Reads d R cs (form_by d p cs)
unfolding form_by
form_sound d p R s [] = nothing_sound d R []
form_sound d p R s (c ∷ cs) =
    first_sound d R 91 c cs (list_by p cs) (if eqb c 123 then tuple_by p cs else if eqb c 35 then hash_by p cs
    else leaf_by d (c ∷ cs)) (list_sound d p R s cs)
    (λ f. first_sound d R 123 c cs (tuple_by p cs) (if eqb c 35 then hash_by p cs else leaf_by d (c ∷ cs))
    (tuple_sound d p R s cs)
    (λ g. first_sound d R 35 c cs (hash_by p cs) (leaf_by d (c ∷ cs)) (hash_sound d p R s cs)
    (λ h. leaf_sound d R c cs)))

pub reads_sound : (d : ℕ) → Sound (read_by d) (ReadsTerm d)
reads_sound zero = record { reads = λ cs ds t e. absurd cc }
reads_sound (suc d) = record {
  reads = λ cs ds t e. form_sound d (read_by d) (ReadsTerm d) (reads_sound d)
      (behind_blanks cs) ds t e;
}
