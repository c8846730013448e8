-- What the contract of passes refuses: each beside the small function that it would be made of.
use Rattle.std.specs.Prelude.{◌≡◌, ℕ, suc, List, [], ◌∷◌, false, Some, None, IsTrue, codes}
use Rattle.erl_base.specs.declared.ids.FunKey.{FunKey}
use Rattle.erl_term.specs.Term as T
use Rattle.erl_term.specs.Term.{Term}
use Rattle.erl_term.specs.Terms.{Values}
use Rattle.world_model.specs.Run.{gives, cut, noting, M}
use Rattle.pass_contract.specs.SameRun.{Compared}
use Rattle.pass_contract.specs.Lawful.{IsLawful}
use Rattle.pass_contract.specs.InModule.{InModule}
use Rattle.pass_contract.specs.PassContract.{Run, at_once, Agrees, most_named, AddsNoTest, Keeps}
use Rattle.ssa_form.specs.Ssa as S
use Rattle.ssa_form.specs.Ssa.{Set, Last, Body, block, set, br, succeeded, switch, ret}
use Rattle.ssa_form.specs.PassView.{around_in, ssa_does, ssa_form}
use Rattle.pass_examples.specs.SmallPath.{gives_term, gives_param, ssa_body, in_kernel_form, ahead}

-- a body of one block
abbrev pub one_block : ℕ → List ℕ → List Set → Last → Body
one_block n ps xs l = record { site = n; params = ps; blocks = Some (block [] xs l) ∷ []; contexts = [] }

-- it goes to its block for ever
abbrev pub endless : ℕ → Body
endless n = one_block n (0 ∷ []) [] (br (S.var 0) 0 0)

-- it has a parameter more
abbrev pub two_params : ℕ → Body
two_params n = one_block n (0 ∷ 1 ∷ []) [] (ret (S.var 0))

-- it looks at messages, as a receive
abbrev pub looks_at : ℕ → Body
looks_at n = one_block n (0 ∷ []) (set (Some 1) (S.peek 5) [] ∷ []) (succeeded 1 0 0)

-- a body whose first block ends so, with two more that give the parameter
abbrev pub three_blocks : ℕ → Last → List Set → Body
three_blocks n l xs = record {
  site = n;
  params = 0 ∷ [];
  blocks = Some (block [] [] l) ∷ Some (block [] [] (ret (S.var 0))) ∷ Some (block [] xs (ret (S.var 0))) ∷ [];
  contexts = [];
}

-- it names an element whose number no instruction holds, in a block that nothing leads to
abbrev pub names_much : ℕ → Body
names_much n = three_blocks n (br (S.var 0) 1 1) (set None (S.element (suc most_named)) (S.var 0 ∷ []) ∷ [])

-- it tests a truth value that it knows
abbrev pub asks_more : ℕ → Body
asks_more n = three_blocks n (br (S.lit (T.atom (codes "true"))) 1 2) []

-- it chooses by a literal that it knows
abbrev pub chooses_more : ℕ → Body
chooses_more n = three_blocks n (switch (S.lit T.nil) 1 ((T.nil, 2) ∷ [])) []

-- a run that makes so many sub-binaries
abbrev pub cutting : ℕ → Run
cutting n = at_once (λ here vs s. (noting (cut n) s, gives T.nil))

-- a body that looks from where its marker stands, at the first message alone
abbrev pub goes_by_marker : Body
goes_by_marker = record {
  site = 0;
  params = 0 ∷ [];
  blocks =
      Some (block [] (set None S.use_marker (S.var 0 ∷ []) ∷ set (Some 1) (S.peek 0) [] ∷ []) (succeeded 1 1 2))
      ∷ Some (block [] (set None S.take_message [] ∷ []) (ret (S.lit T.nil)))
      ∷ Some (block [] [] (ret (S.lit T.nil))) ∷ [];
  contexts = [];
}

-- functions that give an entry back
abbrev pub giving_back : ℕ → Values → M Term
giving_back n vs s = (record s { left = suc s.left }, gives T.nil)

-- a module that sets nothing beside the number of its parameters
abbrev pub bare : InModule
bare = record { widths = 1 ∷ []; marks = []; plan = []; choices = []; uncounted = [] }

-- a body that would be made of the function that gives its parameter
abbrev pub Made : Compared → InModule → FunKey → ℕ → Body → Type 0
Made w m k n b = Keeps w m (in_kernel_form k n gives_param) (ssa_form ahead b)

-- it keeps all that the contract says, and tests or chooses more
pub record OneMore (w : Compared) (m : InModule) (k : FunKey) (n : ℕ) (b : Body) : Type 0 where
  pub kept : Made w m k n b
  pub adds : AddsNoTest (in_kernel_form k n gives_param) (ssa_form ahead b) → ⊥

-- whatever is compared, and however the module is set
pub record Refused (w : Compared) (m : InModule) (k : FunKey) (n : ℕ) : Type 0 where
  pub value : Made w m k n (ssa_body n (gives_term T.nil)) → ⊥
  pub end : Made w m k n (endless n) → ⊥
  pub arity : Made w m k n (two_params n) → ⊥
  pub receive : Made w m k n (looks_at n) → ⊥
  pub number : Made w m k n (names_much n) → ⊥
  -- one test more, one choice more
  pub test : OneMore w m k n (asks_more n)
  pub choice : OneMore w m k n (chooses_more n)
  -- one sub-binary more, where they are compared; one less is no fault
  pub more : IsTrue w.cuts → Agrees w (cutting 0) (cutting 1) → ⊥
  pub not_compared : w.cuts ≡ false → Agrees w (cutting 0) (cutting 1)
  pub fewer : Agrees w (cutting 1) (cutting 0)
  -- nothing may be entered that gives entries back
  pub entered : IsLawful giving_back → ⊥
  -- where marks are not compared, a body that goes by a marker does not agree even with itself
  pub marks : w.marks ≡ false
      → Agrees w (ssa_does goes_by_marker (around_in bare)) (ssa_does goes_by_marker (around_in bare)) → ⊥

-- all of them
abbrev pub WrongPassesRefused : Type 0
WrongPassesRefused = (w : Compared) (m : InModule) (k : FunKey) (n : ℕ) → Refused w m k n
