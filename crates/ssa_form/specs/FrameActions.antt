-- Where frame actions stand (this project's own): none before a value that a body gives, before a call that gives it,
-- or
-- before a last that tests its set. There the frame goes where control leaves, behind the last read.
use Rattle.std.specs.Prelude.{List, [], ◌∷◌, Bool, true, false, not, ◌&&◌, ◌||◌, Option, Some, None, IsTrue}
use Rattle.ssa_form.specs.Ssa.{Op, call_local, call_remote, send, FrameAction, Set, Last, br, succeeded, switch, ret, Block}
use Rattle.ssa_form.specs.Storage.{Mode, tail}
use Rattle.ssa_form.specs.SsaRun.{mode_of, none_before}
use Rattle.ssa_form.specs.FramedRun.{Framed}

-- calls that may end a body
abbrev pub may_end : Op → Bool
may_end (call_local n) = true
may_end call_remote = true
may_end send = true
may_end _ = false

-- before a set that its block's last takes so
abbrev pub set_acts : Mode → Set → Bool
set_acts tail x = not (may_end x.op) || none_before x.before
set_acts _ x = true

-- before a last
abbrev pub last_acts : List FrameAction → Last → Bool
last_acts as' (br a t e) = true
last_acts as' (succeeded v t e) = none_before as'
last_acts as' (switch a d cs) = true
last_acts as' (ret a) = none_before as'

-- before the sets of a chain, and before its last
abbrev pub chain_acts : List Set → List FrameAction → Last → Bool
chain_acts [] as' l = last_acts as' l
chain_acts (x ∷ xs) as' l = set_acts (mode_of x.dst xs as' l) x && chain_acts xs as' l

-- in all blocks
abbrev pub blocks_act : List (Option Block) → Bool
blocks_act [] = true
blocks_act (None ∷ os) = blocks_act os
blocks_act (Some x ∷ os) = chain_acts x.chain x.before x.last && blocks_act os

-- of a body
abbrev pub ActionsStand : Framed → Type 0
ActionsStand p = IsTrue (blocks_act p.body.blocks)
