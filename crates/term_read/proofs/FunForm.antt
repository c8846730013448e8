-- How a local fun is read, part by part.
use Rattle.std.proofs.Common.{◌≡◌, ap, ◌∙◌, List, ℕ, Option, Some, None, codes}
use Rattle.erl_term.specs.Term as T
use Rattle.erl_term.specs.Term.{Term}
use Rattle.erl_term.specs.Terms.{terms}
use Rattle.term_read.specs.Lexemes.{◌>>=◌, mark_at}
use Rattle.term_read.specs.TermGrammar.{fun_head}
use Rattle.term_read.specs.Reading.{row_of, fun_by}
use Rattle.term_read.specs.declared.flat.FunHead.{FunHead}

abbrev fun_end : FunHead → List Term × List ℕ → Option (List ℕ) → Option (Term × List ℕ)
fun_end h ts r = r >>= λ ds. Some (T.fun h.home h.site h.arity (terms ts.0), ds)

abbrev fun_row : (List ℕ → Option (Term × List ℕ)) → FunHead × List ℕ → Option (List Term × List ℕ)
    → Option (Term × List ℕ)
fun_row p h r = r >>= λ ts. fun_end h.0 ts (mark_at (codes ">") ts.1)

fun_at : (p : List ℕ → Option (Term × List ℕ)) (cs : List ℕ) (r : Option (FunHead × List ℕ)) → fun_head cs ≡ r
    → fun_by p cs ≡ (r >>= λ h. fun_row p h (row_of p (codes "]") h.1))
unfolding fun_by
fun_at p cs r e = ap (λ s. s >>= λ h. fun_row p h (row_of p (codes "]") h.1)) e

pub fun_no_head : (p : List ℕ → Option (Term × List ℕ)) (cs : List ℕ) → fun_head cs ≡ None → fun_by p cs ≡ None
fun_no_head p cs e = fun_at p cs None e

pub fun_no_row : (p : List ℕ → Option (Term × List ℕ)) (cs ds : List ℕ) (h : FunHead) → fun_head cs ≡ Some (h, ds)
    → row_of p (codes "]") ds ≡ None → fun_by p cs ≡ None
fun_no_row p cs ds h e f = fun_at p cs (Some (h, ds)) e ∙ ap (fun_row p (h, ds)) f

pub fun_no_end : (p : List ℕ → Option (Term × List ℕ)) (cs ds es : List ℕ) (h : FunHead) (ts : List Term)
    → fun_head cs ≡ Some (h, ds) → row_of p (codes "]") ds ≡ Some (ts, es)
    → mark_at (codes ">") es ≡ None → fun_by p cs ≡ None
fun_no_end p cs ds es h ts e f g = fun_at p cs (Some (h, ds)) e ∙ ap (fun_row p (h, ds)) f ∙ ap (fun_end h (ts, es)) g

pub fun_read : (p : List ℕ → Option (Term × List ℕ)) (cs ds es fs : List ℕ) (h : FunHead) (ts : List Term)
    → fun_head cs ≡ Some (h, ds) → row_of p (codes "]") ds ≡ Some (ts, es)
    → mark_at (codes ">") es ≡ Some fs → fun_by p cs ≡ Some (T.fun h.home h.site h.arity (terms ts), fs)
fun_read p cs ds es fs h ts e f g = fun_at p cs (Some (h, ds)) e ∙ ap (fun_row p (h, ds)) f ∙ ap (fun_end h (ts, es)) g

pub ruleset fun_unread = (fun_no_head, fun_no_row, fun_no_end)
