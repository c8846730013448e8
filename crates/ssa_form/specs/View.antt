-- The plain body that a `Body` of the program stands for.
use Rattle.std.specs.Prelude.{ℕ, List, [], ◌∷◌, suc, Option, Some, None, map}
use Rattle.std.specs.Option.{option_map}
use Rattle.erl_base.specs.declared.ids.VarId.{VarId}
use Rattle.erl_base.specs.declared.ids.NodeId.{NodeId}
use Rattle.erl_base.specs.declared.ids.BlockId.{BlockId}
use Rattle.erl_term.specs.View.{view}
use Rattle.erl_term.specs.Segments.{Shape}
use Rattle.bif_table.specs.View.{bif_view, type_view, comparison_view}
use Rattle.ssa_form.specs.declared.args.Arg as Code
use Rattle.ssa_form.specs.declared.args.Arg.TheVariants as A
use Rattle.ssa_form.specs.declared.op.Check.{Check}
use Rattle.ssa_form.specs.declared.op.Check.TheVariants as C
use Rattle.ssa_form.specs.declared.op.Field.{Field}
use Rattle.ssa_form.specs.declared.op.Op.{Op}
use Rattle.ssa_form.specs.declared.op.Op.TheVariants as O
use Rattle.ssa_form.specs.declared.op.Set.{Set}
use Rattle.ssa_form.specs.declared.block.Phi.{Phi}
use Rattle.ssa_form.specs.declared.block.Last.{Last}
use Rattle.ssa_form.specs.declared.block.Last.TheVariants as L
use Rattle.ssa_form.specs.declared.block.Block.{Block}
use Rattle.ssa_form.specs.declared.body.Body.{Body}
use Rattle.ssa_form.specs.SetOrder.{nodes_in, chain_in, set_of_node}
use Rattle.ssa_form.specs.Ssa as Plain

-- operands
abbrev pub arg_view : Code.Arg → Plain.Arg
arg_view (A.Var v) = Plain.var v.0
arg_view (A.Lit t) = Plain.lit (view t)

-- variables
abbrev pub var_number : VarId → ℕ
var_number v = v.0

-- tests
abbrev pub check_view : Check → Plain.Check
check_view (C.Test t) = Plain.test (type_view t)
check_view (C.Compare c) = Plain.compares (comparison_view c)
check_view (C.TestArity n) = Plain.test_arity n
check_view (C.IsTaggedTuple n a) = Plain.is_tagged_tuple n a
check_view C.HasMapFields = Plain.has_map_fields

-- segments
abbrev pub field_view : Field → Shape
field_view f = record { unit = f.unit; is_binary = f.binary; signed = f.signed; little = f.little; whole = f.whole }

-- operations
abbrev pub op_view : Op → Plain.Op
op_view O.Copy = Plain.copy
op_view (O.Bif b) = Plain.bif (bif_view b)
op_view O.Cons = Plain.cons
op_view O.Tuple = Plain.tuple
op_view (O.MapPut exact) = Plain.map_put exact
op_view O.MapGet = Plain.map_get
op_view (O.Element n) = Plain.element n
op_view O.Hd = Plain.hd
op_view O.Tl = Plain.tl
op_view (O.Check c) = Plain.check (check_view c)
op_view (O.MakeFun s) = Plain.make_fun s.0
op_view (O.CallLocal s) = Plain.call_local s.0
op_view O.CallFun = Plain.call_fun
op_view O.CallRemote = Plain.call_remote
op_view O.Send = Plain.send
op_view O.Trace = Plain.trace
op_view O.Raise = Plain.raise
op_view O.BsStart = Plain.bs_start
op_view (O.BsInteger f) = Plain.bs_integer (field_view f)
op_view (O.BsBinary f) = Plain.bs_binary (field_view f)
op_view (O.BsSkip f) = Plain.bs_skip (field_view f)
op_view O.BsDone = Plain.bs_done
op_view (O.BsUnit n) = Plain.bs_unit n
op_view O.BsTail = Plain.bs_tail
op_view O.BsPosition = Plain.bs_position
op_view O.BsRestore = Plain.bs_restore
op_view (O.BsCreate fs) = Plain.bs_create (map field_view fs)
op_view O.TryStart = Plain.try_start
op_view O.TryEnd = Plain.try_end
op_view O.Landing = Plain.landing
op_view O.CatchEnd = Plain.catch_end
op_view (O.Peek n) = Plain.peek n
op_view O.Take = Plain.take_message
op_view O.Skip = Plain.skip_message
op_view O.Wait = Plain.wait
op_view O.Reset = Plain.reset
op_view O.Reserve = Plain.reserve
op_view O.Bind = Plain.bind
op_view O.UseMark = Plain.use_marker

-- operands in a row
abbrev pub args_view : List Code.Arg → List Plain.Arg
args_view = map arg_view

-- a set with the frame actions before it
abbrev pub set_view : List Plain.FrameAction → Set → Plain.Set
set_view acts x =
    record { before = acts; dst = option_map var_number x.dst; op = op_view x.op; args = args_view x.args }

-- edges
abbrev pub edge_view : BlockId × Code.Arg → ℕ × Plain.Arg
edge_view e = (e.0.0, arg_view e.1)

-- phis
abbrev pub phi_view : Phi → Plain.Phi
phi_view p = record { dst = p.dst.0; from = map edge_view p.from }

-- lasts
abbrev pub last_view : Last → Plain.Last
last_view (L.Br a t e) = Plain.br (arg_view a) t.0 e.0
last_view (L.Succeeded v t e) = Plain.succeeded v.0 t.0 e.0
last_view (L.Switch a d cs) = Plain.switch (arg_view a) d.0 (map (λ c. (view c.0, c.1.0)) cs)
last_view (L.Ret a) = Plain.ret (arg_view a)

-- a set, if the node has one
abbrev pub with_set : List Plain.FrameAction → Option Set → List Plain.Set → List Plain.Set
with_set acts None xs = xs
with_set acts (Some x) xs = set_view acts x ∷ xs

-- the frame actions before a node's set
abbrev pub Acts : Type 0
Acts = ℕ → List Plain.FrameAction

-- the sets of a chain
abbrev pub chain_view : Body → Acts → List NodeId → List Plain.Set
chain_view b acts [] = []
chain_view b acts (n ∷ ns) = with_set (acts n.0) (set_of_node b n.0) (chain_view b acts ns)

-- last: the frame actions before a block's last
abbrev pub block_view : Body → Acts → (ℕ → List Plain.FrameAction) → ℕ → Block → Plain.Block
block_view b acts last n x = record {
  phis = map phi_view x.phis;
  chain = chain_view b acts (nodes_in (chain_in b.chains (Some x)));
  before = last n;
  last = last_view x.last;
}

-- all blocks
abbrev pub slots_view : Body → Acts → (ℕ → List Plain.FrameAction) → ℕ → List (Option Block) → List (Option Plain.Block)
slots_view b acts last n [] = []
slots_view b acts last n (o ∷ os) = option_map (block_view b acts last n) o ∷ slots_view b acts last (suc n) os

-- no frame actions
abbrev pub no_acts : ℕ → List Plain.FrameAction
no_acts n = []

-- with the frame actions of its nodes and lasts
abbrev pub body_with : Body → Acts → (ℕ → List Plain.FrameAction) → Plain.Body
body_with b acts last = record {
  site = b.site.0;
  params = map var_number b.params;
  blocks = slots_view b acts last 0 b.blocks.slots;
  contexts = b.contexts;
}

-- a body without frames
abbrev pub body_view : Body → Plain.Body
body_view b = body_with b no_acts no_acts
