-- Sources whose literals are well formed have them in normal form.
use Rattle.std.proofs.Common.{refl, List, [], ◌∷◌, suc, Contains, IsTrue, arith}
use Rattle.std.specs.List.{list_all}
use Rattle.erl_term.specs.declared.term.Term.{Term}
use Rattle.erl_term.specs.WellFormed.{IsWellFormed}
use Rattle.erl_term.proofs.Forms.{both_true}
use Rattle.beam_table.specs.declared.operand.Source.{Source}
use Rattle.beam_table.specs.declared.operand.Source.TheVariants as S
use Rattle.insn_text.specs.Literals.{source_normal, sources_normal}

first_normal : (s : Source) (ss : List Source) → ((t : Term) → Contains (s ∷ ss) (S.Literal t) → IsWellFormed t)
    → IsTrue (source_normal s)
first_normal (S.Literal t) ss h = (h t (0, omega arith, refl)).normal
first_normal s ss h = refl

pub all_normal : (ss : List Source) → ((t : Term) → Contains ss (S.Literal t) → IsWellFormed t)
    → IsTrue (sources_normal ss)
all_normal [] h = refl
all_normal (s ∷ ss) h =
    both_true (source_normal s) (list_all source_normal ss) (first_normal s ss h)
    (all_normal ss (λ t w. h t (suc w.0, omega (arith, w.1), w.2)))
