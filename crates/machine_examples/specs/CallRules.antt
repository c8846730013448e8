-- Calls of other modules, of funs, and of a module's own functions (after OTP 25's BEAM).
use Rattle.std.specs.Prelude.{◌≡◌, ℕ, List, [], ◌∷◌, false, codes}
use Rattle.erl_base.specs.declared.ids.FunKey.{FunKey}
use Rattle.erl_term.specs.Term as T
use Rattle.erl_term.specs.Term.{Term}
use Rattle.erl_term.specs.Terms.{terms}
use Rattle.world_model.specs.World as W
use Rattle.world_model.specs.World.{How}
use Rattle.step_machine.specs.Steps.{Ran, End, entries}
use Rattle.beam_table.specs.Code.{Insn, move, allocate, deallocate, test_heap, return, make_fun3, call_ext, call_fun, send}
use Rattle.machine_examples.specs.Build.{key, atom, int, tuple_term, list_term, x0, r, i, outside, erl, replies, unasked, reply, steps, runs, end_of, returns, fails, asks_for, BadAmong, BadAfter}

-- g/1 and h/1, at the labels 4 and 6 and the sites 1 and 2
abbrev pub others : List (FunKey × List Insn)
others = (key "g" 1, return ∷ []) ∷ (key "h" 1, return ∷ []) ∷ []

-- a call of the fun in x1 with x0
abbrev pub calls_a_fun : List Insn
calls_a_fun = allocate 0 2 ∷ call_fun 1 ∷ deallocate 0 ∷ return ∷ []

-- of a fun with the number 5
abbrev pub called : Term → Ran
called t = steps 40 calls_a_fun others (int 5 ∷ t ∷ []) unasked

-- the fun of g, with this arity
abbrev pub fun_of_g : ℕ → Term
fun_of_g n = T.fun (codes "m") 1 n (terms [])

-- the external fun erlang:is_atom/1
abbrev pub is_atom_fun : Term
is_atom_fun = T.extern (codes "erlang") (codes "is_atom") 1

-- a send of 5 to a pid, where this reply comes
abbrev pub send_end : How → End
send_end h =
    (runs (allocate 0 2 ∷ send ∷ deallocate 0 ∷ return ∷ []) (T.pid 2 ∷ int 5 ∷ [])
    (replies (reply [] h (atom "x") ∷ []))).end

-- which calls are good, and what they lead to
pub record CallRules : Type 0 where
  -- a function `error` of another module may return: it needs a frame
  pub error_of_a_module : BadAfter 0 (call_ext 1 (outside "error" 1) ∷ []) (int 1 ∷ []) unasked
  -- and so does a listed function that returns
  pub listed_function : BadAfter 0 (call_ext 1 (erl "is_atom" 1) ∷ []) (int 1 ∷ []) unasked
  pub raising_function : end_of (call_ext 1 (erl "error" 1) ∷ []) (int 1 ∷ []) ≡ fails (int 1)
  -- a fun has no more captured terms than its function has parameters
  pub captures_within_arity :
      BadAmong 1 (test_heap 9 1 ∷ make_fun3 4 1 x0 (r x0 ∷ r x0 ∷ []) ∷ []) others (int 1 ∷ []) unasked
  -- the label of a fun is that of its own site
  pub label_of_another_site : BadAmong 1 (test_heap 9 1 ∷ make_fun3 6 1 x0 [] ∷ []) others (int 1 ∷ []) unasked
  -- an export means the first function of its name and arity
  pub first_of_a_name :
      (steps 40 (move (i 1) x0 ∷ return ∷ []) ((key "f" 0, move (i 2) x0 ∷ return ∷ []) ∷ []) [] unasked).end
      ≡ returns (int 1)
  -- an external fun is called by the world, though its function is listed
  pub external_fun : (called is_atom_fun).end
      ≡ asks_for (W.call (codes "erlang") (codes "is_atom") (int 5 ∷ []))
  -- a fun of the module that has another arity raises
  pub local_fun_of_another_arity : (called (fun_of_g 0)).end
      ≡ fails (tuple_term (atom "badarity" ∷ tuple_term (fun_of_g 0 ∷ list_term (int 5 ∷ []) ∷ []) ∷ []))
  -- one that fits is entered, and never as a tail call
  pub local_fun : (called (fun_of_g 1)).end ≡ returns (int 5)
  pub local_fun_entry : entries (called (fun_of_g 1)).log ≡ record { site = 1; tail = false } ∷ []
  -- a send gives the message, and raises badarg in whatever way it is refused
  pub message_sent : send_end W.return ≡ returns (int 5)
  pub refused_by_error : send_end W.error ≡ fails (atom "badarg")
  pub refused_by_exit : send_end W.exit ≡ fails (atom "badarg")
  pub refused_by_throw : send_end W.throw ≡ fails (atom "badarg")
