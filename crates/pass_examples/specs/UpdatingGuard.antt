-- A receive whose guard puts a pair into the message, so that it takes maps alone: its body tests the update, and keeps
-- what passes keep.
use Rattle.std.specs.Prelude.{ℕ, [], ◌∷◌, Bool, false, Some, None, codes, pos}
use Rattle.erl_base.specs.declared.ids.FunKey.{FunKey}
use Rattle.erl_term.specs.Term as T
use Rattle.erl_term.specs.Term.{Term}
use Rattle.kernel_form.specs.Kernel as K
use Rattle.kernel_meaning.specs.Forms as Kernel
use Rattle.kernel_meaning.specs.KernelPredicate as KernelPredicate
use Rattle.pass_contract.specs.SameRun.{Compared}
use Rattle.pass_contract.specs.InModule.{InModule}
use Rattle.pass_contract.specs.PassContract.{AddsNoTest, Keeps}
use Rattle.ssa_form.specs.Ssa as S
use Rattle.ssa_form.specs.Ssa.{Body, block, set, br, succeeded, ret}
use Rattle.ssa_form.specs.PassView.{Ahead, ssa_form}
use Rattle.ssa_form.specs.WellFormed.{WellFormed}

-- the key and its value
abbrev pub key : Term
key = T.atom (codes "k")

-- one
abbrev pub one : Term
one = T.int (pos 1)

-- what the timeout gives
abbrev pub late : Term
late = T.atom (codes "late")

-- when let <N> = ~{k => 1 | M}~ in 'true' -> M
abbrev pub takes_maps : K.Tree
takes_maps = K.guarded
    (K.let_in (2 ∷ [])
    (K.simple (K.map_put (K.var 1) (record { key = K.lit key; value = K.lit one; exact = false } ∷ [])))
    (K.values (K.lit (T.atom (codes "true")) ∷ [])))
    (K.body (K.values (K.var 1 ∷ []))) (K.fall 0)

-- receive <M> with it, after 0 -> 'late'
abbrev pub receiving_map : K.Expr
receiving_map = K.receive 7 1 takes_maps (K.lit (T.int (pos 0))) (K.values (K.lit late ∷ []))

-- the function, whose parameter is not used
abbrev pub kernel_receives : FunKey → ℕ → K.Fun
kernel_receives k n = record { key = k; site = n; params = 0 ∷ []; next = 3; body = receiving_map }

-- its body: a look; the update, which is tested; the message is taken, or passed over; at the end of the mailbox the
-- timeout
abbrev pub body_receives : ℕ → Body
body_receives n = record {
  site = n;
  params = 0 ∷ [];
  blocks =
      Some (block [] [] (br (S.var 0) 1 1))
      ∷ Some (block [] (set (Some 1) (S.peek 7) [] ∷ []) (succeeded 1 2 4))
      ∷ Some (block [] (set (Some 2) (S.map_put false) (S.var 1 ∷ S.lit key ∷ S.lit one ∷ []) ∷ []) (succeeded 2 3 5))
      ∷ Some (block [] (set None S.take_message [] ∷ []) (ret (S.var 1)))
      ∷ Some (block [] (set None S.wait (S.lit (T.int (pos 0)) ∷ []) ∷ []) (succeeded 1 1 6))
      ∷ Some (block [] (set None S.skip_message [] ∷ []) (br (S.var 0) 1 1))
      ∷ Some (block [] (set None S.reset [] ∷ []) (ret (S.lit late))) ∷ [];
  contexts = [];
}

-- where marks are not compared: bodies do not note that a receive begins
abbrev pub but_marks : Bool → Compared
but_marks cuts = record { marks = false; cuts = cuts }

-- beside the body
abbrev pub none_to_come : Ahead
none_to_come = record { next = 3; wanted = 0 }

-- both are well formed; the body keeps the contract, however the module is set, and adds no test
pub record UpdatingGuard (cuts : Bool) (m : InModule) (k : FunKey) (n : ℕ) : Type 0 where
  pub source : KernelPredicate.WellFormed m.widths (kernel_receives k n)
  pub formed : WellFormed (body_receives n)
  pub kept : Keeps (but_marks cuts) m (Kernel.form_of (kernel_receives k n)) (ssa_form none_to_come (body_receives n))
  pub tests : AddsNoTest (Kernel.form_of (kernel_receives k n)) (ssa_form none_to_come (body_receives n))

-- whether sub-binaries are compared or not
abbrev pub UpdatingGuardsKeep : Type 0
UpdatingGuardsKeep = (cuts : Bool) (m : InModule) (k : FunKey) (n : ℕ) → UpdatingGuard cuts m k n
