-- Functions that are listed are found with their arity.
use Rattle.std.proofs.Common.{◌≡◌, ℕ, refl, sym, ap, ap₂, ◌∙◌, List, [], ◌∷◌, length, Option, Some, None, Bool, true, false, not, ◌&&◌, eqb, if◌then◌else◌}
use borrow.Author.Tests.{eqb-true, eq-eqb}
use Rattle.erl_base.specs.Names.{Name}
use Rattle.erl_term.proofs.Forms.{left_true}
use Rattle.term_read.specs.Lexemes.{◌>>=◌}
use Rattle.term_read.proofs.Shorter.{some_same}
use Rattle.bif_table.specs.Builtins.{Bif, lookup, look_up, all_bifs, is_row, row_of_bif, arity_of, is_guard, is_collecting}
use Rattle.beam_table.specs.Code as C
use Rattle.beam_table.specs.Code.{Reg, Source}
use Rattle.beam_table.specs.declared.opcode.Opcode.TheVariants as O
use Rattle.insn_terms.specs.Values.{insn_from}
use Rattle.insn_read.specs.OpcodeReading.{agreeing}

found_arity : (bs : List Bif) (f : Name) (n : ℕ) (b : Bif) → look_up bs f n ≡ Some b → arity_of b ≡ n
found_arity [] f n b e = absurd cc
found_arity (a ∷ bs) f n b e = by (is_row (row_of_bif a) f n) refl e (λ g. found_arity bs f n b g)
  where
    by : (t : Bool) → is_row (row_of_bif a) f n ≡ t
        → (elim t [ true ↦ Some a | false ↦ look_up bs f n ]) ≡ Some b
        → (look_up bs f n ≡ Some b → arity_of b ≡ n) → arity_of b ≡ n
    by true h g k = ap arity_of (sym (some_same a b g)) ∙ eqb-true (arity_of a) n (left_true (eqb (arity_of a) n) _ h)
    by false h g k = k g

same_number : (f : Name) (ss : List Source) (b : Bif) → lookup f (length ss) ≡ Some b
    → eqb (length ss) (arity_of b) ≡ true
same_number f ss b e = eq-eqb (length ss) (arity_of b) (sym (found_arity all_bifs f (length ss) b e))

-- what was found, by the number of arguments
found : (f : Name) (n : ℕ) (ss : List Source) (o : Option Bif) → n ≡ length ss → o ≡ lookup f n
    → lookup f (length ss) ≡ o
found f n ss o w k = ap (lookup f) (sym w) ∙ sym k

pub bif_missing : (f : Name) (l : Option ℕ) (n : ℕ) (ss : List Source) (d : Reg) → n ≡ length ss → None ≡ lookup f n
    → agreeing (insn_from O.Bif (f, (l, (ss, (d, tt))))) ≡ None
bif_missing f l n ss d w k = ap (λ r. agreeing (r >>= λ b. Some (C.bif b l ss d))) (found f n ss None w k)

pub bif_by : (f : Name) (l : Option ℕ) (n : ℕ) (ss : List Source) (d : Reg) (b : Bif) (t : Bool) → n ≡ length ss
    → Some b ≡ lookup f n → (is_guard b && not (is_collecting b)) ≡ t
    → agreeing (insn_from O.Bif (f, (l, (ss, (d, tt))))) ≡ (if t then Some (C.bif b l ss d) else None)
bif_by f l n ss d b true w k h =
    let e = found f n ss (Some b) w k in
    ap (λ r. agreeing (r >>= λ c. Some (C.bif c l ss d))) e
    ∙ ap₂ (λ p q. if p && q then Some (C.bif b l ss d) else None) h (same_number f ss b e)
bif_by f l n ss d b false w k h =
    ap (λ r. agreeing (r >>= λ c. Some (C.bif c l ss d))) (found f n ss (Some b) w k)
    ∙ ap (λ p. if p && eqb (length ss) (arity_of b) then Some (C.bif b l ss d) else None) h

pub gc_bif_missing : (f : Name) (l : Option ℕ) (k n : ℕ) (ss : List Source) (d : Reg) → n ≡ length ss
    → None ≡ lookup f n → agreeing (insn_from O.GcBif (f, (l, (k, (ss, (d, tt)))))) ≡ None
gc_bif_missing f l k n ss d w e = ap (λ r. agreeing (r >>= λ b. Some (C.gc_bif b l k ss d))) (found f n ss None w e)

pub gc_bif_by : (f : Name) (l : Option ℕ) (k n : ℕ) (ss : List Source) (d : Reg) (b : Bif) (t : Bool) → n ≡ length ss
    → Some b ≡ lookup f n → is_collecting b ≡ t
    → agreeing (insn_from O.GcBif (f, (l, (k, (ss, (d, tt)))))) ≡ (if t then Some (C.gc_bif b l k ss d) else None)
gc_bif_by f l k n ss d b true w g h =
    let e = found f n ss (Some b) w g in
    ap (λ r. agreeing (r >>= λ c. Some (C.gc_bif c l k ss d))) e
    ∙ ap₂ (λ p q. if p && q then Some (C.gc_bif b l k ss d) else None) h (same_number f ss b e)
gc_bif_by f l k n ss d b false w g h =
    ap (λ r. agreeing (r >>= λ c. Some (C.gc_bif c l k ss d))) (found f n ss (Some b) w g)
    ∙ ap (λ p. if p && eqb (length ss) (arity_of b) then Some (C.gc_bif b l k ss d) else None) h
