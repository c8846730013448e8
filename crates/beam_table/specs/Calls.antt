-- Calls of functions, of other modules and of funs; returns.
use Rattle.std.specs.Prelude.{ℕ, suc, ◌+◌, ◌-◌, List, [], ◌∷◌, ◌++◌, length, slice_get, get_or, take, Bool, true, false, ◌&&◌, eqb, leb, Option, Some, None, if◌then◌else◌, codes}
use Rattle.erl_base.specs.Names.{Name, same_name}
use Rattle.erl_term.specs.Term as T
use Rattle.erl_term.specs.Term.{Term}
use Rattle.erl_term.specs.Terms.{terms, listed, tagged, list_of}
use Rattle.bif_table.specs.Builtins.{lookup, never_returns}
use Rattle.bif_table.specs.BuiltinAnswer.{Answer, value, raised, answer, badarg}
use Rattle.world_model.specs.World as W
use Rattle.world_model.specs.RemoteCalls.{badarity}
use Rattle.world_model.specs.Requests.{is_send}
use Rattle.world_model.specs.World.{Reply}
use Rattle.step_machine.specs.Steps.{goes, bad, notes, entered}
use Rattle.step_machine.specs.Frames.{in_frame, no_frame}
use Rattle.beam_table.specs.Code.{Reg, x_reg, Source, reg, Extern, AsmFun, AsmModule}
use Rattle.beam_table.specs.MachineState.{Cell, Machine, unset}
use Rattle.beam_table.specs.GeneralRules.{Effect, needs, if_some, if_term, read, read_all, arguments, cells, outside_window, write_term, alone, leaves, builds, entry_at, raising, asking, returns_to}

-- the running activation waits above the one that comes
abbrev pub suspended : Machine → Machine
suspended m = record m { callers = record { frame = m.frame; back = m.code } ∷ m.callers; frame = None }

-- needs a frame but in this case
abbrev pub frame_unless : Bool → Machine → Effect → Effect
frame_unless true m a = a
frame_unless false m a = in_frame bad m.frame λ ys. a

module _ (a : AsmModule) where
  -- enters function s with these X registers and nothing else
  abbrev pub enters : Bool → ℕ → AsmFun → List Cell → Machine → Effect
  enters tail s f cs m =
      notes (entered (record { site = s; tail = tail })) (goes (record m { xs = cs; frame = None; code = f.code }))

  -- the function of arity n with this entry, and its number
  abbrev pub function_at : ℕ → ℕ → (ℕ → AsmFun → Effect) → Effect
  function_at l n k = if_some (entry_at a.funs l 0) λ f. needs (eqb f.1.key.arity n) (k f.0 f.1)

  -- {call,A,L}: needs a frame, leaves, and enters the function of arity A at L in a new activation
  abbrev pub do_call : ℕ → ℕ → Machine → Effect
  do_call n l m =
      in_frame bad m.frame λ ys. leaves n m λ u. function_at l n λ s f. enters false s f (take n u.xs) (suspended u)

  -- {call_only,A,L}: needs no frame; the same in place of this activation
  abbrev pub do_call_only : ℕ → ℕ → Machine → Effect
  do_call_only n l m = no_frame bad m.frame (leaves n m λ u. function_at l n λ s f. enters true s f (take n u.xs) u)

  -- a reply to a call: its term, or a raise of it
  abbrev pub replied : Reply → Machine → (Term → Machine → Effect) → Effect
  replied r m k = elim r.how [
    | W.return ↦ k r.term m
    | W.error ↦ raising a T.error r.term m
    | W.exit ↦ raising a T.exit r.term m
    | W.throw ↦ raising a T.throw r.term m
  ]

  -- asks the world for a call
  abbrev pub calls_out : Name → Name → List Term → Machine → (Term → Machine → Effect) → Effect
  calls_out f g ts m k = asking (W.call f g ts) m λ r u. replied r u k

  -- a reply to a send: the message, or badarg
  abbrev pub sent : Term → Reply → Machine → (Term → Machine → Effect) → Effect
  sent message r m k = elim r.how [
    | W.return ↦ k message m
    | W.error ↦ raising a T.error badarg m
    | W.exit ↦ raising a T.error badarg m
    | W.throw ↦ raising a T.error badarg m
  ]

  -- asks the world to send
  abbrev pub sends : Term → Term → Machine → (Term → Machine → Effect) → Effect
  sends to message m k = asking (W.send to message) m λ r u. sent message r u k

  -- a function of the module erlang that is not listed
  abbrev pub sends_or_calls : Name → List Term → Machine → (Term → Machine → Effect) → Effect
  sends_or_calls g (to ∷ message ∷ []) m k =
      if is_send g then sends to message m k else calls_out (codes "erlang") g (to ∷ message ∷ []) m k
  sends_or_calls g ts m k = calls_out (codes "erlang") g ts m k

  -- what a listed function answers
  abbrev pub answered : Answer → Machine → (Term → Machine → Effect) → Effect
  answered (value t) m k = k t m
  answered (raised c r) m k = raising a c r m

  -- what a function of the module erlang gives: a listed one its value or raise
  unfoldable pub erlang_answers : Name → List Term → Machine → (Term → Machine → Effect) → Effect
  unfolding answer
  erlang_answers g ts m k = elim (lookup g (length ts)) [
    | Some b ↦ answered (answer b m.own ts) m k
    | None ↦ sends_or_calls g ts m k
  ]

  -- what a call of any module gives
  unfoldable pub answers_call : Name → Name → List Term → Machine → (Term → Machine → Effect) → Effect
  unfolding erlang_answers
  answers_call f g ts m k =
      if same_name f (codes "erlang") then erlang_answers g ts m k else calls_out f g ts m k

  -- leaves, with terms in the first n X registers, and answers
  unfoldable pub call_any : ℕ → Extern → Machine → (Term → Machine → Effect) → Effect
  unfolding answers_call
  call_any n e m k = leaves n m λ u. arguments n u.xs λ ts. answers_call e.mod_name e.name ts u k

  -- back to the caller
  abbrev pub returns : Term → Machine → Effect
  returns t m = returns_to m.callers t m

  -- {call_ext,A,{extfunc,M,F,A}}: needs a frame unless the function always raises
  unfoldable pub do_call_ext : ℕ → Extern → Machine → Effect
  unfolding call_any
  do_call_ext n e m = frame_unless (never_returns e.mod_name e.name e.arity) m (call_any n e m alone)

  -- {call_ext_only,A,{extfunc,M,F,A}}: needs no frame; answers, and goes on as return does
  unfoldable pub do_call_ext_only : ℕ → Extern → Machine → Effect
  unfolding call_any
  do_call_ext_only n e m = no_frame bad m.frame (call_any n e m returns)

  -- return: needs no frame, and a term in x0; back to the caller with it alone, or the end
  abbrev pub do_return : Machine → Effect
  do_return m = outside_window m (no_frame bad m.frame (if_term (get_or m.xs 0 unset) λ t. returns t m))

  -- send: needs a frame, leaves, and sends x1 to x0; the message is alone in x0
  abbrev pub do_send : Machine → Effect
  do_send m =
      in_frame bad m.frame λ ys. leaves 2 m λ u. read u (reg (x_reg 0)) λ to. read u (reg (x_reg 1)) λ message.
      sends to message u alone

  -- Funs.

  -- {make_fun3,L,Site,0,D,{list,[S,..]}}: L is the entry of function Site, whose arity is at least the captures;
  -- builds 4 words and one for each capture
  abbrev pub do_make_fun : ℕ → ℕ → Reg → List Source → Machine → Effect
  do_make_fun l s d ss m = if_some (slice_get a.funs s) λ f.
      needs (eqb f.entry l && leb (length ss) f.key.arity) (builds (4 + length ss) m λ u. read_all u ss λ ts.
      write_term u d (T.fun a.name s (f.key.arity - length ss) (terms ts)) goes)

  -- function s, if it is there with n parameters
  abbrev pub with_arity : Option AsmFun → ℕ → Option AsmFun
  with_arity None n = None
  with_arity (Some f) n = if eqb f.key.arity n then Some f else None

  -- function s of this module, if it is there with n parameters
  abbrev pub own_function : Name → ℕ → ℕ → Option AsmFun
  own_function m s n = if same_name m a.name then with_arity (slice_get a.funs s) n else None

  -- enters a fun of this module; any other one is called by the world
  abbrev pub enters_fun : Option AsmFun → Term → ℕ → List Term → List Term → Machine → Effect
  enters_fun (Some f) t s ts us m = enters false s f (cells (ts ++ us)) (suspended m)
  enters_fun None t s ts us m = calls_out (codes "erlang") (codes "apply") (t ∷ list_of ts T.nil ∷ []) m alone

  -- what a term does with arguments: a fun of this module is entered with its captures after them, any other fun is
  -- called by the world; badfun, badarity
  abbrev pub applies : Term → List Term → Machine → Effect
  applies (T.fun b s n us) ts m =
      if eqb n (length ts)
      then enters_fun (own_function b s (n + length (listed us))) (T.fun b s n us) s ts (listed us) m
      else raising a T.error (badarity (T.fun b s n us) ts) m
  applies (T.extern f g n) ts m =
      if eqb n (length ts) then calls_out f g ts m alone else raising a T.error (badarity (T.extern f g n) ts) m
  applies t ts m = raising a T.error (tagged (codes "badfun") t) m

  -- {call_fun,A}: needs a frame; the fun is in x(A), and terms are in x0 to x(A)
  abbrev pub do_call_fun : ℕ → Machine → Effect
  do_call_fun n m =
      in_frame bad m.frame λ ys. leaves (suc n) m λ u. arguments n u.xs λ ts. read u (reg (x_reg n)) λ t.
      applies t ts u

  -- a call by name with the first n X registers, which are looked at only where both names are atoms
  unfoldable pub calls_named : Term → Term → ℕ → Machine → (Term → Machine → Effect) → Effect
  unfolding answers_call
  calls_named (T.atom f) (T.atom g) n m k = arguments n m.xs λ ts. answers_call f g ts m k
  calls_named _ _ n m k = raising a T.error badarg m

  -- {apply,A}, {apply_last,A,N}: the module is in x(A), the function in x(A+1)
  unfoldable pub do_apply : ℕ → Machine → (Term → Machine → Effect) → Effect
  unfolding calls_named
  do_apply n m k =
      leaves (suc (suc n)) m λ u. read u (reg (x_reg n)) λ f. read u (reg (x_reg (suc n))) λ g. calls_named f g n u k
