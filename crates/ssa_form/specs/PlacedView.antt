-- The plain bodies that a `Placed` and a `Framed` of the program stand for.
use Rattle.std.specs.Prelude.{ℕ, List, [], ◌∷◌, map, ◌++◌, Option, Some, None, eqb, if◌then◌else◌}
use Rattle.erl_base.specs.declared.ids.VarId.{VarId}
use Rattle.erl_base.specs.declared.ids.NodeId.{NodeId}
use Rattle.ssa_form.specs.declared.placed.Spot as Code
use Rattle.ssa_form.specs.declared.placed.Spot.TheVariants as S
use Rattle.ssa_form.specs.declared.placed.FrameAction.{FrameAction}
use Rattle.ssa_form.specs.declared.placed.FrameAction.TheVariants as F
use Rattle.ssa_form.specs.declared.placed.BlockFrame.{BlockFrame}
use Rattle.ssa_form.specs.declared.placed.Placed.{Placed}
use Rattle.ssa_form.specs.declared.placed.Framed.{Framed}
use Rattle.ssa_form.specs.Ssa as Plain
use Rattle.ssa_form.specs.Spots.{Spot, x_reg, y_slot, Spots}
use Rattle.ssa_form.specs.PlacedRun as PlacedRun
use Rattle.ssa_form.specs.FramedRun as FramedRun
use Rattle.ssa_form.specs.View.{body_view, body_with}

-- spots
abbrev pub spot_view : Code.Spot → Spot
spot_view (S.X n) = x_reg n
spot_view (S.Y n) = y_slot n

-- the spot of each variable
abbrev pub spots_view : List (VarId × Code.Spot) → Spots
spots_view = map (λ p. (p.0.0, spot_view p.1))

-- bodies with spots
abbrev pub placed_view : Placed → PlacedRun.Placed
placed_view p = record { body = body_view p.body; spots = spots_view p.spots }

-- frame actions
abbrev pub action_view : FrameAction → Plain.FrameAction
action_view (F.Allocate n) = Plain.allocate n
action_view (F.Deallocate n) = Plain.deallocate n
action_view (F.Kill n) = Plain.kill n
action_view (F.Trim n) = Plain.trim n

-- the actions before a node, among those of one block, and of all
abbrev pub actions_in : List (NodeId × List FrameAction) → ℕ → List Plain.FrameAction
actions_in [] n = []
actions_in (p ∷ ps) n = if eqb p.0.0 n then map action_view p.1 else actions_in ps n

-- the actions before the set of a node
abbrev pub node_actions : List BlockFrame → ℕ → List Plain.FrameAction
node_actions [] n = []
node_actions (f ∷ fs) n = actions_in f.nodes n ++ node_actions fs n

-- the actions before the last of a block
abbrev pub last_actions : List BlockFrame → ℕ → List Plain.FrameAction
last_actions [] n = []
last_actions (f ∷ fs) n = if eqb f.block.0 n then map action_view f.last else last_actions fs n

-- a block's frame size, if it has one
abbrev pub with_size : ℕ → Option ℕ → List (ℕ × ℕ) → List (ℕ × ℕ)
with_size b None ps = ps
with_size b (Some n) ps = (b, n) ∷ ps

-- the sizes of all frames
abbrev pub sizes_view : List BlockFrame → List (ℕ × ℕ)
sizes_view [] = []
sizes_view (f ∷ fs) = with_size f.block.0 f.size (sizes_view fs)

-- bodies with frames
abbrev pub framed_view : Framed → FramedRun.Framed
framed_view p = record {
  body = body_with p.body (node_actions p.frames) (last_actions p.frames);
  spots = spots_view p.spots;
  sizes = sizes_view p.frames;
}
