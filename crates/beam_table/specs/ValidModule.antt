-- The conditions of a valid module: what a module of an assembly text meets.
use Rattle.std.specs.Prelude.{ℕ, List, [], ◌∷◌, ◌++◌, map, Bool, true, false, not, ◌&&◌, leb, IsTrue}
use Rattle.erl_base.specs.Lists.{among}
use Rattle.erl_base.specs.Names.{Name, is_key, keys_distinct}
use Rattle.erl_term.specs.Term.{Term}
use Rattle.beam_table.specs.Code.{Insn, label, AsmFun, AsmModule}
use Rattle.erl_term.specs.WellFormed.{maps_rise}
use Rattle.erl_term.specs.Ranges.{fits}
use Rattle.beam_table.specs.Operands.{operands}
use Rattle.beam_table.specs.OperandBounds.{most_arity, label_ok, insn_ok, all_own_labels, entry_labels}

-- of each item
abbrev pub every : {A : Type 0} → (A → Bool) → List A → Bool
every f [] = true
every f (a ∷ as') = f a && every f as'

-- no number twice
abbrev pub distinct : List ℕ → Bool
distinct [] = true
distinct (l ∷ ls) = not (among l ls) && distinct ls

-- the labels that stand in code
abbrev pub labels_in : List Insn → List ℕ
labels_in [] = []
labels_in (label l ∷ is) = l ∷ labels_in is
labels_in (i ∷ is) = labels_in is

-- all labels of a function
abbrev pub labels_of : AsmFun → List ℕ
labels_of f = f.info ∷ f.entry ∷ labels_in f.code

-- all labels of a module
abbrev pub all_labels : List AsmFun → List ℕ
all_labels [] = []
all_labels (f ∷ fs) = labels_of f ++ all_labels fs

-- the entry labels
abbrev pub entries_of : List AsmFun → List ℕ
entries_of fs = map (λ f. f.entry) fs

-- an instruction names labels of its own function alone
abbrev pub names_own : List ℕ → Insn → Bool
names_own ls i = every (λ l. among l ls) (all_own_labels (operands i).1)

-- and entries alone where it enters a function
abbrev pub names_entries : List ℕ → Insn → Bool
names_entries es i = every (λ l. among l es) (entry_labels (operands i).1)

-- a function among these entries
unfoldable pub fun_ok : List ℕ → AsmFun → Bool
unfolding insn_ok
fun_ok es f =
    leb f.key.arity most_arity && every (λ i. insn_ok i && names_own (labels_of f) i && names_entries es i) f.code

-- an attribute that a text can hold
unfoldable pub attribute_ok : Name × Term → Bool
unfolding maps_rise
attribute_ok p = maps_rise p.1 && fits p.1

-- labels and keys are distinct, operands in bounds, and what is named is there
pub record Valid (a : AsmModule) : Type 0 where
  pub labels : IsTrue (every label_ok (all_labels a.funs) && distinct (all_labels a.funs))
  pub functions : IsTrue (every (fun_ok (entries_of a.funs)) a.funs)
  pub exports : IsTrue (keys_distinct a.exports && every (λ f. is_key f (map (λ g. g.key) a.funs)) a.exports)
  pub attributes : IsTrue (every attribute_ok a.attributes)
