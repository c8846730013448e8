-- Tests, selections, and the functions that a run answers itself.
use Rattle.std.specs.Prelude.{ℕ, List, ◌∷◌, length, Bool, true, false, eqb, Option, Some, None, if◌then◌else◌}
use Rattle.erl_base.specs.Names.{Name}
use Rattle.erl_term.specs.Term as T
use Rattle.erl_term.specs.Term.{Term}
use Rattle.erl_term.specs.TermOrder.{same_term}
use Rattle.erl_term.specs.Terms.{listed}
use Rattle.bif_table.specs.Builtins.{Bif}
use Rattle.bif_table.specs.BuiltinAnswer.{answer}
use Rattle.bif_table.specs.TermTests.{TypeTest, Comparison, type_holds, compare_holds, is_tagged}
use Rattle.beam_table.specs.Code.{Reg, Source, AsmModule}
use Rattle.beam_table.specs.MachineState.{Machine}
use Rattle.beam_table.specs.GeneralRules.{Effect, read, read_all, collects, jumps, or_jumps, answers}
use Rattle.beam_table.specs.Data.{if_tuple, if_map, values_at, firsts, seconds}

-- the label of the first value that is equal, or l
unfoldable pub label_of : List Term → List ℕ → Term → ℕ → ℕ
unfolding same_term
label_of (u ∷ us) (j ∷ js) t l = if same_term u t then j else label_of us js t l
label_of _ _ t l = l

-- the label of the size of a tuple, or l
abbrev pub size_label : List (ℕ × ℕ) → Term → ℕ → ℕ
size_label (c ∷ cs) (T.tuple ts) l = if eqb c.0 (length (listed ts)) then c.1 else size_label cs (T.tuple ts) l
size_label _ t l = l

module _ (a : AsmModule) where
  -- whether all are there
  abbrev pub has_all : Option (List Term) → Bool
  has_all None = false
  has_all (Some ts) = true

  -- {test,has_map_fields,L,S,{list,[S,..]}}: S is a map; jumps where a key is absent
  unfoldable pub do_has_fields : ℕ → Source → List Source → Machine → Effect
  unfolding values_at
  do_has_fields l s ss m =
      read m s λ t. if_map t λ qs. read_all m ss λ ks. or_jumps a (has_all (values_at qs ks)) l m

  -- {test,T,L,[S]}: jumps if not
  abbrev pub do_test : TypeTest → ℕ → Source → Machine → Effect
  do_test t l s m = read m s λ u. or_jumps a (type_holds t u) l m

  -- {test,T,L,[S,S]}: jumps if not
  unfoldable pub do_compare : Comparison → ℕ → Source → Source → Machine → Effect
  unfolding compare_holds
  do_compare t l r s m = read m r λ u. read m s λ v. or_jumps a (compare_holds t u v) l m

  -- {test,test_arity,L,[S,N]}: S is a tuple; jumps if it has another size
  abbrev pub do_test_arity : ℕ → Source → ℕ → Machine → Effect
  do_test_arity l s n m = read m s λ t. if_tuple t λ ts. or_jumps a (eqb (length ts) n) l m

  -- {test,is_tagged_tuple,L,[S,N,{atom,A}]}
  abbrev pub do_tagged : ℕ → Source → ℕ → Name → Machine → Effect
  do_tagged l s n b m = read m s λ t. or_jumps a (is_tagged n b t) l m

  -- {select_val,S,L,{list,[S,L,..]}}: all values are read; then jumps to the first equal one's label, else to L
  unfoldable pub do_select : Source → ℕ → List (Source × ℕ) → Machine → Effect
  unfolding label_of
  do_select s l cs m = read m s λ t. read_all m (firsts cs) λ us. jumps a (label_of us (seconds cs) t l) m

  -- {select_tuple_arity,S,L,{list,[N,L,..]}}: by the size of a tuple; any other term goes to L
  abbrev pub do_select_size : Source → ℕ → List (ℕ × ℕ) → Machine → Effect
  do_select_size s l cs m = read m s λ t. jumps a (size_label cs t l) m

  -- {bif,F,L,[S,..],D}: D := the value; a raise jumps to L, if there is one
  unfoldable pub do_bif : Bif → Option ℕ → List Source → Reg → Machine → Effect
  unfolding answer
  do_bif b l ss d m = read_all m ss λ ts. answers a l (answer b m.own ts) d m

  -- the arguments are read before it collects
  unfoldable pub do_gc_bif : Bif → Option ℕ → ℕ → List Source → Reg → Machine → Effect
  unfolding answer
  do_gc_bif b l live ss d m = read_all m ss λ ts. collects live m λ u. answers a l (answer b u.own ts) d u
