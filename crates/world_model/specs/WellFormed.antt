-- Which replies and scripts are well formed: all their terms are, and the own term is a pid.
use Rattle.std.specs.Prelude.{◌≡◌, ℕ, All}
use Rattle.erl_term.specs.Term as Plain
use Rattle.erl_term.specs.View.{view}
use Rattle.erl_term.specs.WellFormed.{IsWellFormed}
use Rattle.world_model.specs.declared.world.Reply.{Reply}
use Rattle.world_model.specs.declared.world.Script.{Script}

-- a reply
pub record IsWellFormedReply (r : Reply) : Type 0 where
  pub arrivals : All IsWellFormed r.arrivals
  pub term : IsWellFormed r.term

-- a script
pub record IsWellFormedScript (s : Script) : Type 0 where
  pub own : (n : ℕ) × (view s.own ≡ Plain.pid n)
  pub mailbox : All IsWellFormed s.mailbox
  pub replies : All IsWellFormedReply s.replies
