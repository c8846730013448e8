-- The printed text of a term, in code points (this project's own form, after that of Erlang/OTP 25). What ends in `_on`
-- gives the characters of its subject, and then `r`.
use Rattle.std.specs.Prelude.{ℕ, List, [], ◌∷◌, ◌++◌, length, Bool, true, false, codes}
use Rattle.erl_term.specs.Term.{Term, int, atom, nil, cons, tuple, map, bits, fun, extern, pid, reference, port, raw_trace, Terms, none, more, Pairs, no_pair, pair, Class, error, exit, throw}
use Rattle.erl_term.specs.BitString.{number_from}
use Rattle.term_text.specs.Decimal.{decimal_on, integer_on}
use Rattle.term_text.specs.Atoms.{atom_text}

-- a comma before what is not the first
abbrev pub comma : Bool → List ℕ
comma true = []
comma false = codes ","

-- bytes, and a last part of fewer bits with its number of bits
abbrev pub bits_on : Bool → List Bool → List ℕ → List ℕ
bits_on first [] r = r
bits_on first (a ∷ b ∷ c ∷ d ∷ e ∷ f ∷ g ∷ h ∷ bs) r =
    comma first ++ decimal_on (number_from 0 (a ∷ b ∷ c ∷ d ∷ e ∷ f ∷ g ∷ h ∷ [])) (bits_on false bs r)
bits_on first bs r = comma first ++ decimal_on (number_from 0 bs) (codes ":" ++ decimal_on (length bs) r)

-- the word of a class
abbrev pub class_text : Class → List ℕ
class_text error = codes "error"
class_text exit = codes "exit"
class_text throw = codes "throw"

-- a mark, a number, and `>`
abbrev pub marked_on : List ℕ → ℕ → List ℕ → List ℕ
marked_on mark n r = mark ++ decimal_on n (codes ">" ++ r)

-- the text of a term, and its text where it is the rest of a list
pub record Texts : Type 0 where
  pub whole : List ℕ → List ℕ
  pub rest : List ℕ → List ℕ

-- the texts of a term that is no list
abbrev pub plain_texts : (List ℕ → List ℕ) → Texts
plain_texts text = record { whole = text; rest = λ r. codes "|" ++ text (codes "]" ++ r) }

unfoldable mutual
  pub texts : Term → Texts
  texts (int z) = plain_texts (integer_on z)
  texts (atom a) = plain_texts (λ r. atom_text a ++ r)
  texts nil = record { whole = λ r. codes "[]" ++ r; rest = λ r. codes "]" ++ r }
  texts (cons x y) = record {
    whole = λ r. codes "[" ++ (texts x).whole ((texts y).rest r);
    rest = λ r. codes "," ++ (texts x).whole ((texts y).rest r);
  }
  texts (tuple ts) = plain_texts (λ r. codes "{" ++ row_on true ts (codes "}" ++ r))
  texts (map ps) = plain_texts (λ r. codes "#{" ++ pairs_on true ps (codes "}" ++ r))
  texts (bits bs) = plain_texts (λ r. codes "<<" ++ bits_on true bs (codes ">>" ++ r))
  texts (fun m s a ts) = plain_texts
      (λ r. codes "#Fun<" ++ (atom_text m ++ (codes "," ++ decimal_on s (codes "," ++ decimal_on a (codes ",["
      ++ row_on true ts (codes "]>" ++ r))))))
  texts (extern m f a) = plain_texts
      (λ r. codes "fun " ++ (atom_text m ++ (codes ":" ++ (atom_text f ++ (codes "/" ++ decimal_on a r)))))
  texts (pid n) = plain_texts (marked_on (codes "#Pid<") n)
  texts (reference n) = plain_texts (marked_on (codes "#Ref<") n)
  texts (port n) = plain_texts (marked_on (codes "#Port<") n)
  texts (raw_trace c) = plain_texts (λ r. codes "#Trace<" ++ (class_text c ++ (codes ">" ++ r)))

  -- with commas between, and before the first where there is another before it
  pub row_on : Bool → Terms → List ℕ → List ℕ
  row_on first none r = r
  row_on first (more t ts) r = comma first ++ (texts t).whole (row_on false ts r)

  pub pairs_on : Bool → Pairs → List ℕ → List ℕ
  pairs_on first no_pair r = r
  pairs_on first (pair k v ps) r = comma first ++ (texts k).whole (codes "=>" ++ (texts v).whole (pairs_on false ps r))

-- the text of a term, before what follows
abbrev pub term_on : Term → List ℕ → List ℕ
term_on t r = (texts t).whole r

-- what stands behind an item of a list, where t is the rest of it
abbrev pub rest_on : Term → List ℕ → List ℕ
rest_on t r = (texts t).rest r

-- the text of a term
abbrev pub printed : Term → List ℕ
printed t = term_on t []
