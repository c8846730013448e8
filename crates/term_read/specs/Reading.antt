-- How the text of a term is read: functions on characters that the reader's calls equal. That they read the texts of
-- terms and nothing else is proved of them.
use Rattle.std.specs.Prelude.{◌≡◌, ℕ, zero, suc, ◌^◌, List, [], ◌∷◌, ◌++◌, map, ◌==◌, length, Option, Some, None, Result, Ok, Err, if◌then◌else◌, codes}
use Rattle.std.specs.List.{list_all}
use Rattle.erl_base.specs.Names.{Name, same_name}
use Rattle.erl_term.specs.Term as T
use Rattle.erl_term.specs.Term.{Term, no_pair}
use Rattle.erl_term.specs.Terms.{terms, list_of, put_all}
use Rattle.erl_term.specs.BitString.{byte_bits}
use Rattle.core_chars.specs.Characters.{is_lower}
use Rattle.term_read.specs.Lexemes.{◌>>=◌, behind_blanks, behind_mark, mark_at, word_front, quoted_rest, integer_front}
use Rattle.term_read.specs.TermGrammar.{part_at, whole_before_last, bits_in, number_in, extern_rest, fun_head, class_in, code_point, string_fits, is_byte, most_nesting}
use Rattle.term_read.specs.declared.unread.Unread.{Unread}
use Rattle.term_read.specs.declared.unread.Unread.TheVariants.{Syntax, NoMemory}

-- What a call returned, seen by view, is what reading gives, unless memory ran out.
abbrev pub Gives : {X Y : Type 0} → (X → Y) → Result X Unread → Option Y → Type 0
Gives view (Ok x) read = read ≡ Some (view x)
Gives view (Err Syntax) read = read ≡ None
Gives view (Err NoMemory) read = Unit {0}

-- the first that stands there
abbrev pub choice : {A : Type 0} → Option (List ℕ) → (List ℕ → Option A) → Option A → Option A
choice None f other = other
choice (Some cs) f other = f cs

-- one item, and more where a comma was read
abbrev pub and_items : {A : Type 0} → A × List ℕ → Option (List ℕ) → (List ℕ → Option (List A × List ℕ))
    → Option (List A × List ℕ)
and_items x None next = Some (x.0 ∷ [], x.1)
and_items x (Some cs) next = next cs >>= λ xs. Some (x.0 ∷ xs.0, xs.1)

-- at most n items with commas between
abbrev pub items_within : {A : Type 0} → (List ℕ → Option (A × List ℕ)) → ℕ → List ℕ → Option (List A × List ℕ)
items_within p zero cs = None
items_within p (suc n) cs = p cs >>= λ x. and_items x (mark_at (codes ",") x.1) (items_within p n)

-- items with commas between them, as many as the characters allow
unfoldable pub items_of : {A : Type 0} → (List ℕ → Option (A × List ℕ)) → List ℕ → Option (List A × List ℕ)
items_of p cs = items_within p (length cs) cs

-- items that were read, before those that are read on
abbrev pub before : {A : Type 0} → List A → Option (List A × List ℕ) → Option (List A × List ℕ)
before xs None = None
before xs (Some found) = Some (xs ++ found.0, found.1)

-- items that were read, before the tail that is read on
abbrev pub before_tail : List Term → Option (Term × List ℕ) → Option (Term × List ℕ)
before_tail ts None = None
before_tail ts (Some tail) = Some (list_of ts tail.0, tail.1)

-- items with commas between or none, up to a closing mark
unfoldable pub row_of : {A : Type 0} → (List ℕ → Option (A × List ℕ)) → (close : List ℕ) → List ℕ
    → Option (List A × List ℕ)
row_of p close cs =
    choice (mark_at close cs) (λ ds. Some ([], ds))
    (items_of p cs >>= λ xs. mark_at close xs.1 >>= λ ds. Some (xs.0, ds))

-- what ends a list: a tail behind a bar, or nothing
unfoldable pub list_end : (List ℕ → Option (Term × List ℕ)) → List ℕ → Option (Term × List ℕ)
list_end p cs =
    choice (mark_at (codes "|") cs) (λ ds. p ds >>= λ t. mark_at (codes "]") t.1 >>= λ es. Some (t.0, es))
    (mark_at (codes "]") cs >>= λ ds. Some (T.nil, ds))

-- items, and what ends the list
abbrev pub items_and_end : (List ℕ → Option (Term × List ℕ)) → List ℕ → Option (Term × List ℕ)
items_and_end p cs = items_of p cs >>= λ ts. list_end p ts.1 >>= λ u. Some (list_of ts.0 u.0, u.1)

-- behind `[`
unfoldable pub list_by : (List ℕ → Option (Term × List ℕ)) → List ℕ → Option (Term × List ℕ)
list_by p cs = choice (mark_at (codes "]") cs) (λ ds. Some (T.nil, ds)) (items_and_end p cs)

-- the rest of a tuple
unfoldable pub tuple_by : (List ℕ → Option (Term × List ℕ)) → List ℕ → Option (Term × List ℕ)
tuple_by p cs = row_of p (codes "}") cs >>= λ ts. Some (T.tuple (terms ts.0), ts.1)

-- a pair of a map: a key, `=>` and a value
unfoldable pub pair_by : (List ℕ → Option (Term × List ℕ)) → List ℕ → Option ((Term × Term) × List ℕ)
pair_by p cs = p cs >>= λ k. mark_at (codes "=>") k.1 >>= λ ds. p ds >>= λ v. Some ((k.0, v.0), v.1)

-- the rest of a map
unfoldable pub map_by : (List ℕ → Option (Term × List ℕ)) → List ℕ → Option (Term × List ℕ)
map_by p cs = row_of (pair_by p) (codes "}") cs >>= λ ps. Some (T.map (put_all ps.0 no_pair), ps.1)

-- the rest of a fun term
unfoldable pub fun_by : (List ℕ → Option (Term × List ℕ)) → List ℕ → Option (Term × List ℕ)
fun_by p cs =
    fun_head cs >>= λ h. row_of p (codes "]") h.1 >>= λ ts. mark_at (codes ">") ts.1 >>= λ ds.
    Some (T.fun (h.0).home (h.0).site (h.0).arity (terms ts.0), ds)

-- a pid, a reference or a port: its number and `>`
unfoldable pub marked_by : (ℕ → Term) → List ℕ → Option (Term × List ℕ)
marked_by f cs = number_in (2 ^ 64) cs >>= λ n. Some (f n.0, n.1)

-- the rest of a raw trace
unfoldable pub trace_by : List ℕ → Option (Term × List ℕ)
trace_by cs = class_in cs >>= λ c. Some (T.raw_trace c.0, c.1)

-- behind `#`
unfoldable pub identifier_by : List ℕ → Option (Term × List ℕ)
identifier_by cs =
    choice (behind_mark (codes "Pid<") cs) (marked_by T.pid)
    (choice (behind_mark (codes "Ref<") cs) (marked_by T.reference)
    (choice (behind_mark (codes "Port<") cs) (marked_by T.port)
    (choice (behind_mark (codes "Trace<") cs) trace_by None)))

-- what begins with `#`
unfoldable pub hash_by : (List ℕ → Option (Term × List ℕ)) → List ℕ → Option (Term × List ℕ)
hash_by p cs = choice (behind_mark (codes "{") cs) (map_by p)
    (choice (behind_mark (codes "Fun<") cs) (fun_by p) (identifier_by cs))

-- the bits of a binary that is written as a row of parts
unfoldable pub part_row : List ℕ → Option (Term × List ℕ)
part_row cs = row_of part_at (codes ">>") cs >>= λ ps.
    if whole_before_last ps.0 then Some (T.bits (bits_in ps.0), ps.1) else None

-- the bits of a binary that is written as a string of bytes
unfoldable pub byte_text : List ℕ → Option (Term × List ℕ)
byte_text cs = quoted_rest 34 cs >>= λ s.
    if list_all is_byte s.0 then (mark_at (codes ">>") s.1 >>= λ ds. Some (T.bits (byte_bits s.0), ds)) else None

-- behind `<<`
unfoldable pub bits_by : List ℕ → Option (Term × List ℕ)
bits_by cs = choice (behind_mark (codes "\"") (behind_blanks cs)) byte_text (part_row cs)

-- behind `<`
abbrev pub angle_by : List ℕ → Option (Term × List ℕ)
angle_by cs = behind_mark (codes "<") cs >>= bits_by

-- the rest of a string: the list of its code points
unfoldable pub string_by : ℕ → List ℕ → Option (Term × List ℕ)
string_by d cs = quoted_rest 34 cs >>= λ s.
    if string_fits d s.0 then Some (list_of (map code_point s.0) T.nil, s.1) else None

-- an atom, or an external fun behind the word `fun`
abbrev pub of_word : Name × List ℕ → Option (Term × List ℕ)
of_word w = if same_name (codes "fun") w.0 then extern_rest w.1 else Some (T.atom w.0, w.1)

-- what begins with a word
unfoldable pub word_by : List ℕ → Option (Term × List ℕ)
word_by cs = word_front cs >>= of_word

-- a quoted atom
unfoldable pub quoted_by : List ℕ → Option (Term × List ℕ)
quoted_by cs = quoted_rest 39 cs >>= λ a. Some (T.atom a.0, a.1)

-- an integer
unfoldable pub integer_by : List ℕ → Option (Term × List ℕ)
integer_by cs = integer_front cs >>= λ z. Some (T.int z.0, z.1)

-- a term that begins at once: one that holds no terms, and any, whose parts p reads
unfoldable pub leaf_by : (d : ℕ) → List ℕ → Option (Term × List ℕ)
leaf_by d [] = None
leaf_by d (c ∷ cs) =
    if c == 60 then angle_by cs
    else if c == 34 then string_by d cs
    else if c == 39 then quoted_by cs
    else if is_lower c then word_by (c ∷ cs)
    else integer_by (c ∷ cs)

-- a term by its first character
unfoldable pub form_by : (d : ℕ) → (List ℕ → Option (Term × List ℕ)) → List ℕ → Option (Term × List ℕ)
form_by d p [] = None
form_by d p (c ∷ cs) =
    if c == 91 then list_by p cs
    else if c == 123 then tuple_by p cs
    else if c == 35 then hash_by p cs
    else leaf_by d (c ∷ cs)

-- a term that nests at most d deep
abbrev pub read_by : (d : ℕ) → List ℕ → Option (Term × List ℕ)
read_by zero cs = None
read_by (suc d) cs = form_by d (read_by d) (behind_blanks cs)

-- the term, where nothing follows it
abbrev pub if_ended : Term → List ℕ → Option Term
if_ended t [] = Some t
if_ended t (c ∷ cs) = None

-- the term of a whole text
unfoldable pub read_whole : List ℕ → Option Term
read_whole cs = read_by most_nesting cs >>= λ t. if_ended t.0 (behind_blanks t.1)
