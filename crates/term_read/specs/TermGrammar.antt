-- Which characters are the text of a term. Each relation says: from the characters `cs` this is read, and `ds` is left.
use Rattle.std.specs.Prelude.{◌≡◌, ℕ, zero, suc, ◌^◌, ℤ, pos, List, [], ◌∷◌, ◌++◌, map, Bool, true, false, ◌&&◌, ◌==◌, nat_le, nat_lt, Option, Some, None, if◌then◌else◌, IsTrue, codes, chars, IsUtf8}
use Rattle.std.specs.List.{list_all}
use Rattle.erl_base.specs.Names.{Name, same_name}
use Rattle.erl_term.specs.Term as T
use Rattle.erl_term.specs.Term.{Term, Terms, Pairs, no_pair, Class, error, exit, throw}
use Rattle.erl_term.specs.Terms.{terms, list_of, put_all}
use Rattle.erl_term.specs.BitString.{bits_of, byte_bits}
use Rattle.term_read.specs.declared.flat.FunHead.{FunHead}
use Rattle.term_read.specs.declared.flat.Part.{Part}
use Rattle.term_read.specs.Lexemes.{◌>>=◌, behind_blanks, mark_at, word_front, quoted_rest, name_front, name_at, integer_front, number_at}

-- Items.

-- one item or more, with commas between
pub data Items {A : Type 0} (P : List ℕ → A → List ℕ → Type 0) : List ℕ → List A → List ℕ → Type 0 where
  one_item : (cs ds : List ℕ) (x : A) → P cs x ds → mark_at (codes ",") ds ≡ None → Items P cs (x ∷ []) ds
  more_items : (cs ds es fs : List ℕ) (x : A) (xs : List A) → P cs x ds → mark_at (codes ",") ds ≡ Some es
      → Items P es xs fs → Items P cs (x ∷ xs) fs

-- items or none, up to a closing mark
pub data Row {A : Type 0} (P : List ℕ → A → List ℕ → Type 0) (close : List ℕ) : List ℕ → List A → List ℕ → Type 0 where
  no_item : (cs ds : List ℕ) → mark_at close cs ≡ Some ds → Row P close cs [] ds
  some_items : (cs ds es : List ℕ) (xs : List A) → Items P cs xs ds → mark_at close ds ≡ Some es → Row P close cs xs es

-- what ends a list behind its items: `]`, or a bar, the tail and `]`
pub data ListEnd (R : List ℕ → Term → List ℕ → Type 0) : List ℕ → Term → List ℕ → Type 0 where
  no_tail : (cs ds : List ℕ) → mark_at (codes "]") cs ≡ Some ds → ListEnd R cs T.nil ds
  tail : (cs ds es fs : List ℕ) (t : Term) → mark_at (codes "|") cs ≡ Some ds → R ds t es
      → mark_at (codes "]") es ≡ Some fs → ListEnd R cs t fs

-- a key and its value
pub data PairOf (R : List ℕ → Term → List ℕ → Type 0) : List ℕ → Term × Term → List ℕ → Type 0 where
  key_and_value : (cs ds es fs : List ℕ) (k v : Term) → R cs k ds → mark_at (codes "=>") ds ≡ Some es → R es v fs
      → PairOf R cs (k, v) fs

-- Parts of bit strings.

-- a byte, or `v:k` for 1 to 7 bits that hold v
abbrev pub of_size : ℕ → Option (ℕ × List ℕ) → Option (Part × List ℕ)
of_size n None = None
of_size n (Some size) =
    if nat_le 1 size.0 && nat_lt n (2 ^ size.0) then Some (record { number = n; size = size.0 }, size.1) else None

-- a part of a binary with its size, which is 8 where none is written
abbrev pub part_sized : ℕ × List ℕ → Option (List ℕ) → Option (Part × List ℕ)
part_sized n None = Some (record { number = n.0; size = 8 }, n.1)
part_sized n (Some cs) = of_size n.0 (number_at 8 cs)

-- a part of a binary: its number and its size
unfoldable pub part_at : List ℕ → Option (Part × List ℕ)
part_at cs = number_at 256 cs >>= λ n. part_sized n (mark_at (codes ":") n.1)

-- the same, as a relation
abbrev pub PartOf : List ℕ → Part → List ℕ → Type 0
PartOf cs p ds = part_at cs ≡ Some (p, ds)

-- all parts but the last are bytes
abbrev pub whole_before_last : List Part → Bool
whole_before_last [] = true
whole_before_last (p ∷ []) = true
whole_before_last (p ∷ q ∷ ps) = p.size == 8 && whole_before_last (q ∷ ps)

-- the bits of parts, in their order
abbrev pub bits_in : List Part → List Bool
bits_in [] = []
bits_in (p ∷ ps) = bits_of p.size p.number ++ bits_in ps

-- Forms without terms inside.

-- a number and `>`
unfoldable pub number_in : (bound : ℕ) → List ℕ → Option (ℕ × List ℕ)
number_in bound cs = number_at bound cs >>= λ n. mark_at (codes ">") n.1 >>= λ ds. Some (n.0, ds)

-- module, name and arity of an external fun, behind `fun`
unfoldable pub extern_rest : List ℕ → Option (Term × List ℕ)
extern_rest cs =
    name_at cs >>= λ m. mark_at (codes ":") m.1 >>= λ ds. name_at ds >>= λ f. mark_at (codes "/") f.1 >>= λ es.
    number_at (2 ^ 32) es >>= λ n. Some (T.extern m.0 f.0 n.0, n.1)

-- module, site and arity of a local fun, up to the bracket before its captured terms
unfoldable pub fun_head : List ℕ → Option (FunHead × List ℕ)
fun_head cs =
    name_at cs >>= λ m. mark_at (codes ",") m.1 >>= λ ds.
    number_at (2 ^ 32) ds >>= λ s. mark_at (codes ",") s.1 >>= λ es.
    number_at (2 ^ 32) es >>= λ n. mark_at (codes ",") n.1 >>= λ fs. mark_at (codes "[") fs >>= λ gs.
    Some (record { home = m.0; site = s.0; arity = n.0 }, gs)

-- the class that an atom names
abbrev pub class_named : Name → Option Class
class_named a =
    if same_name (codes "error") a then Some error else if same_name (codes "exit") a then Some exit
    else if same_name (codes "throw") a then Some throw else None

-- the class of a raw trace and `>`
unfoldable pub class_in : List ℕ → Option (Class × List ℕ)
class_in cs =
    word_front (behind_blanks cs) >>= λ w. class_named w.0 >>= λ c. mark_at (codes ">") w.1 >>= λ ds. Some (c, ds)

-- Terms.

-- a character as a term
abbrev pub code_point : ℕ → Term
code_point c = T.int (pos c)

-- a string with characters is a list, which has items one level deeper
abbrev pub string_fits : ℕ → List ℕ → Bool
string_fits d [] = true
string_fits zero (c ∷ cs) = false
string_fits (suc d) (c ∷ cs) = true

-- 0 to 255
abbrev pub is_byte : ℕ → Bool
is_byte c = nat_lt c 256

-- The text of a term that begins at once. The parts of the term are read by R, and may nest d deep.
pub data Form (d : ℕ) (R : List ℕ → Term → List ℕ → Type 0) : List ℕ → Term → List ℕ → Type 0 where
  integer : (cs ds : List ℕ) (z : ℤ) → integer_front cs ≡ Some (z, ds) → Form d R cs (T.int z) ds
  atom : (cs ds : List ℕ) (a : Name) → name_front cs ≡ Some (a, ds) → Form d R cs (T.atom a) ds
  nil : (cs ds : List ℕ) → mark_at (codes "]") cs ≡ Some ds → Form d R (codes "[" ++ cs) T.nil ds
  list : (cs ds es : List ℕ) (ts : List Term) (u : Term) → Items R cs ts ds → ListEnd R ds u es
      → Form d R (codes "[" ++ cs) (list_of ts u) es
  string : (cs ds s : List ℕ) → quoted_rest 34 cs ≡ Some (s, ds) → IsTrue (string_fits d s)
      → Form d R (34 ∷ cs) (list_of (map code_point s) T.nil) ds
  tuple : (cs ds : List ℕ) (ts : List Term) → Row R (codes "}") cs ts ds
      → Form d R (codes "{" ++ cs) (T.tuple (terms ts)) ds
  mapping : (cs ds : List ℕ) (ps : List (Term × Term)) → Row (PairOf R) (codes "}") cs ps ds
      → Form d R (codes "#{" ++ cs) (T.map (put_all ps no_pair)) ds
  bit_string : (cs ds : List ℕ) (ps : List Part) → Row PartOf (codes ">>") cs ps ds → IsTrue (whole_before_last ps)
      → Form d R (codes "<<" ++ cs) (T.bits (bits_in ps)) ds
  byte_string : (cs ds es fs s : List ℕ) → behind_blanks cs ≡ 34 ∷ ds → quoted_rest 34 ds ≡ Some (s, es)
      → IsTrue (list_all is_byte s)
      → mark_at (codes ">>") es ≡ Some fs → Form d R (codes "<<" ++ cs) (T.bits (byte_bits s)) fs
  external_fun : (cs ds es : List ℕ) (t : Term) → word_front cs ≡ Some (codes "fun", ds) → extern_rest ds ≡ Some (t, es)
      → Form d R cs t es
  local_fun : (cs ds es fs : List ℕ) (h : FunHead) (ts : List Term) → fun_head cs ≡ Some (h, ds)
      → Row R (codes "]") ds ts es
      → mark_at (codes ">") es ≡ Some fs → Form d R (codes "#Fun<" ++ cs) (T.fun h.home h.site h.arity (terms ts)) fs
  pid : (cs ds : List ℕ) (n : ℕ) → number_in (2 ^ 64) cs ≡ Some (n, ds) → Form d R (codes "#Pid<" ++ cs) (T.pid n) ds
  reference : (cs ds : List ℕ) (n : ℕ) → number_in (2 ^ 64) cs ≡ Some (n, ds)
      → Form d R (codes "#Ref<" ++ cs) (T.reference n) ds
  port : (cs ds : List ℕ) (n : ℕ) → number_in (2 ^ 64) cs ≡ Some (n, ds) → Form d R (codes "#Port<" ++ cs) (T.port n) ds
  raw_trace : (cs ds : List ℕ) (c : Class) → class_in cs ≡ Some (c, ds)
      → Form d R (codes "#Trace<" ++ cs) (T.raw_trace c) ds

-- the text of a term that nests at most d deep, behind blanks
abbrev pub ReadsTerm : (d : ℕ) → List ℕ → Term → List ℕ → Type 0
ReadsTerm zero cs t ds = ⊥
ReadsTerm (suc d) cs t ds = Form d (ReadsTerm d) (behind_blanks cs) t ds

-- how deep a term may nest in a text
abbrev pub most_nesting : ℕ
most_nesting = 2100

-- the bytes are the text of a term, with blanks and comments behind it or none
pub record IsTermText (bytes : List ℕ) (t : Term) : Type 0 where
  pub utf8 : IsUtf8 bytes
  pub rest : List ℕ
  pub reads : ReadsTerm most_nesting (chars bytes) t rest
  pub ends : behind_blanks rest ≡ []
