-- An instruction's form as text: its words, and then its operands.
use Rattle.std.proofs.Common.{◌≡◌, refl, ap, ◌∙◌, List, [], ◌∷◌, ◌++◌, ℕ, Bool, true, false, if◌then◌else◌, codes}
use Rattle.erl_base.specs.Names.{Name}
use Rattle.erl_term.specs.Term as T
use Rattle.erl_term.specs.Term.{Term}
use Rattle.erl_term.specs.Terms.{terms}
use Rattle.term_text.specs.Atoms.{atom_text}
use Rattle.term_text.specs.TermText.{texts, term_on, row_on, comma}
use Rattle.beam_table.specs.declared.insn.Insn.{Insn}
use Rattle.beam_table.specs.declared.insn.Insn.TheVariants as V
use Rattle.beam_table.specs.InstructionText.{form}
use Rattle.beam_table.specs.Opcodes.{OpcodeRow, opcode_row, opcode_of}
use Rattle.beam_table.specs.View.{insn_view}
use Rattle.insn_text.specs.Rows.{head_terms, tail_terms}

-- The words.

abbrev words : Bool → Name → List Term
words b n = if b then T.atom (codes "test") ∷ T.atom n ∷ [] else T.atom n ∷ []

pub plain_head : (w : OpcodeRow) (r : List ℕ) → w.is_test ≡ false
    → row_on true (terms (head_terms w)) r ≡ atom_text w.name ++ r
unfolding texts
plain_head w r h = ap (λ b. row_on true (terms (words b w.name)) r) h

pub test_head : (w : OpcodeRow) (r : List ℕ) → w.is_test ≡ true
    → row_on true (terms (head_terms w)) r ≡ codes "test," ++ (atom_text w.name ++ r)
unfolding texts
test_head w r h = ap (λ b. row_on true (terms (words b w.name)) r) h

-- The whole.

-- an instruction without operands
pub bare_form : (i : Insn) → (opcode_row (opcode_of i)).kinds ≡ []
    → form (insn_view i) ≡ T.atom (opcode_row (opcode_of i)).name
bare_form V.Return h = refl
bare_form V.Send h = refl
bare_form V.BuildStacktrace h = refl
bare_form V.IfEnd h = refl
bare_form V.RemoveMessage h = refl
bare_form V.Timeout h = refl
bare_form i h = absurd cc

-- one with operands
tuple_form : (i : Insn) → ((opcode_row (opcode_of i)).kinds ≡ [] → ⊥)
    → form (insn_view i) ≡ T.tuple (terms (head_terms (opcode_row (opcode_of i)) ++ tail_terms i))
tuple_form V.Return h = absurd (h refl)
tuple_form V.Send h = absurd (h refl)
tuple_form V.BuildStacktrace h = absurd (h refl)
tuple_form V.IfEnd h = absurd (h refl)
tuple_form V.RemoveMessage h = absurd (h refl)
tuple_form V.Timeout h = absurd (h refl)
tuple_form i h = refl

joined : (b : Bool) (t : Term) (hs ts : List Term) (r : List ℕ)
    → row_on b (terms (t ∷ (hs ++ ts))) r ≡ row_on b (terms (t ∷ hs)) (row_on false (terms ts) r)
unfolding texts
joined b t [] ts r = refl
joined b t (u ∷ hs) ts r = ap (λ x. comma b ++ term_on t x) (joined false u hs ts r)

words_joined : (b : Bool) (n : Name) (ts : List Term) (r : List ℕ)
    → row_on true (terms (words b n ++ ts)) r ≡ row_on true (terms (words b n)) (row_on false (terms ts) r)
words_joined true n ts r = joined true (T.atom (codes "test")) (T.atom n ∷ []) ts r
words_joined false n ts r = joined true (T.atom n) [] ts r

pub tuple_text : (i : Insn) (r : List ℕ) → ((opcode_row (opcode_of i)).kinds ≡ [] → ⊥)
    → term_on (form (insn_view i)) r
    ≡ codes "{" ++ row_on true (terms (head_terms (opcode_row (opcode_of i))))
    (row_on false (terms (tail_terms i)) (codes "}" ++ r))
unfolding texts
tuple_text i r h =
    let w = opcode_row (opcode_of i) in
    ap (λ t. term_on t r) (tuple_form i h)
    ∙ ap (λ x. codes "{" ++ x) (words_joined w.is_test w.name (tail_terms i) (codes "}" ++ r))
