-- Terms and what they stand for, computed.
use Rattle.std.proofs.Common.{◌≡◌, ℕ, pos, refl, List, [], ◌∷◌, true, Some, None, codes}
use Rattle.erl_term.specs.Term as T
use Rattle.erl_term.specs.Term.{Term}
use Rattle.erl_term.specs.Terms.{terms, list_of}
use Rattle.beam_table.specs.Code as C
use Rattle.beam_table.specs.Code.{reg, x_reg, y_reg, Insn}
use Rattle.bif_table.specs.Builtins as B
use Rattle.beam_table.specs.OperandBounds.{operand_ok}
use Rattle.insn_terms.specs.Reading.{insn_named, insn_of}

abbrev row : List Term → Term
row ts = T.tuple (terms ts)

abbrev word : List ℕ → Term
word a = T.atom a

abbrev number : ℕ → Term
number n = T.int (pos n)

abbrev x : ℕ → Term
x n = row (word (codes "x") ∷ number n ∷ [])

abbrev y : ℕ → Term
y n = row (word (codes "y") ∷ number n ∷ [])

abbrev f : ℕ → Term
f n = row (word (codes "f") ∷ number n ∷ [])

abbrev typed : Term → Term → Term
typed r u = row (word (codes "tr") ∷ r ∷ u ∷ [])

abbrev move : Term → Term → Term
move s d = row (word (codes "move") ∷ s ∷ d ∷ [])

-- a register has a type or none, and a type has none inside
with_type : insn_of (move (typed (x 1) (number 7)) (y 0)) ≡ Some (C.move (reg (x_reg 1)) (y_reg 0))
unfolding insn_named
with_type = refl

type_of_a_type : insn_of (move (typed (typed (x 1) (number 7)) (number 7)) (y 0)) ≡ None
unfolding insn_named
type_of_a_type = refl

-- the last register, and the first that is none
last_register : insn_of (move (x 1022) (y 0)) ≡ Some (C.move (reg (x_reg 1022)) (y_reg 0))
unfolding insn_named
last_register = refl

no_register : insn_of (move (x 1023) (y 0)) ≡ None
unfolding insn_named
no_register = refl

-- a label, and where there may be none
to_a_label : insn_of (row (word (codes "jump") ∷ f 4 ∷ [])) ≡ Some (C.jump 4)
unfolding insn_named
to_a_label = refl

to_no_label : insn_of (row (word (codes "jump") ∷ f 0 ∷ [])) ≡ None
unfolding insn_named
to_no_label = refl

raises : insn_of (row (word (codes "bif") ∷ word (codes "self") ∷ f 0 ∷ T.nil ∷ x 0 ∷ []))
    ≡ Some (C.bif B.Self None [] (x_reg 0))
unfolding insn_named
raises = refl

other_group : insn_of (row (word (codes "gc_bif") ∷ word (codes "self") ∷ f 0 ∷ number 0 ∷ T.nil ∷ x 0 ∷ [])) ≡ None
unfolding insn_named operand_ok
other_group = refl

-- flags stand where their words do, in any order
abbrev skip : Term → Term
skip fs = row (word (codes "test") ∷ word (codes "bs_skip_bits2") ∷ f 1
    ∷ list_of (x 0 ∷ word (codes "nil") ∷ number 8 ∷ row (word (codes "field_flags") ∷ fs ∷ []) ∷ []) T.nil ∷ [])

some_flags : insn_of (skip (list_of (word (codes "little") ∷ word (codes "big") ∷ word (codes "signed") ∷ []) T.nil))
    ≡ Some (C.bs_skip_bits2 1 (x_reg 0) C.nil 8 (record { signed = true; little = true }))
unfolding insn_named operand_ok
some_flags = refl

no_flag : insn_of (skip (list_of (word (codes "native") ∷ []) T.nil)) ≡ None
unfolding insn_named operand_ok
no_flag = refl

-- an atom alone
alone : insn_of (word (codes "return")) ≡ Some C.return
unfolding insn_named
alone = refl

in_a_tuple : insn_of (row (word (codes "return") ∷ [])) ≡ None
in_a_tuple = refl
