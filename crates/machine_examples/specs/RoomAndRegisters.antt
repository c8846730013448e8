-- Which registers and how much room are left behind an instruction (after OTP 25's BEAM).
use Rattle.std.specs.Prelude.{◌≡◌, ℕ, List, [], ◌∷◌, None, codes}
use Rattle.erl_base.specs.declared.ids.FunKey.{FunKey}
use Rattle.erl_term.specs.Term as T
use Rattle.erl_term.specs.Terms.{terms}
use Rattle.bif_table.specs.Builtins.{Length}
use Rattle.beam_table.specs.Code.{Insn, label, move, allocate, allocate_heap, test_heap, return, put_list, put_tuple2, make_fun3, gc_bif, call, call_only, call_ext, badmatch, try, try_case, loop_rec, loop_rec_end, wait, wait_timeout}
use Rattle.machine_examples.specs.Build.{key, int, tuple_term, list_term, x0, x1, x3, y1, r, i, outside, script, replies, unasked, back, steps, end_of, returns, BadAmong, BadAfter}

-- the function that is called, 'g' of this arity, at label 4 and site 1
abbrev pub callee : ℕ → List Insn → List (FunKey × List Insn)
callee n is = (key "g" n, is) ∷ []

-- a call of a function of another module
abbrev pub ask_g : Insn
ask_g = call_ext 1 (outside "g" 1)

-- two words are built
abbrev pub pair_up : Insn
pair_up = put_list (r x0) (r x0) x0

-- reads x1
abbrev pub read_x1 : Insn
read_x1 = move (r x1) x0

-- reads x0
abbrev pub read_x0 : Insn
read_x0 = move (r x0) x1

-- g/1 with a fun of its own: after room for w words f makes it
abbrev pub made_fun : ℕ → List Insn
made_fun w = test_heap w 1 ∷ make_fun3 4 1 x0 [] ∷ return ∷ []

-- what is gone behind an instruction, and what it needs
pub record RoomAndRegisters : Type 0 where
  -- a call of another module leaves x0 alone
  pub call_ext_registers :
      BadAfter 2 (allocate 0 2 ∷ ask_g ∷ read_x1 ∷ []) (int 1 ∷ int 2 ∷ []) (replies (back (int 3) ∷ []))
  -- a return leaves x0 alone, and no room
  pub return_registers :
      BadAmong 3 (allocate 0 2 ∷ call 2 4 ∷ read_x1 ∷ []) (callee 2 (return ∷ [])) (int 1 ∷ int 2 ∷ []) unasked
  pub return_room :
      BadAmong 4 (allocate 0 1 ∷ call 1 4 ∷ pair_up ∷ []) (callee 1 (test_heap 2 1 ∷ return ∷ [])) (int 1 ∷ []) unasked
  -- a handler has x0, x1 and x2 alone, and no room
  pub handler_registers :
      BadAfter 5 (allocate 1 1 ∷ try 0 3 ∷ move (i 1) x3 ∷ badmatch (r x0) ∷ label 3 ∷ try_case 0 ∷ move (r x3) x0 ∷ [])
      (int 1 ∷ []) unasked
  pub handler_room :
      BadAfter 4 (allocate_heap 1 2 1 ∷ try 0 3 ∷ badmatch (r x0) ∷ label 3 ∷ try_case 0 ∷ pair_up ∷ [])
      (int 1 ∷ []) unasked
  -- a look at the mailbox leaves the message alone, and nothing where none comes
  pub look_registers : BadAfter 1 (loop_rec 3 1 ∷ read_x0 ∷ label 3 ∷ return ∷ []) (int 1 ∷ []) (script (int 5 ∷ []) [])
  pub no_message_registers :
      BadAfter 1 (loop_rec 3 0 ∷ return ∷ label 3 ∷ read_x0 ∷ []) (int 1 ∷ []) (replies (back (int 0) ∷ []))
  -- a message that is passed over is gone from its register
  pub pass_over_registers :
      BadAfter 2 (loop_rec 3 0 ∷ loop_rec_end 3 ∷ label 3 ∷ read_x0 ∷ []) [] (script (int 5 ∷ []) [])
  -- a wait leaves no register
  pub wait_registers : BadAfter 1 (wait 3 ∷ label 3 ∷ read_x0 ∷ []) (int 1 ∷ []) (replies (back (int 0) ∷ []))
  pub no_wait_registers : BadAfter 1 (wait_timeout 3 (i 0) ∷ label 3 ∷ read_x0 ∷ []) (int 1 ∷ []) unasked
  pub timed_wait_registers :
      BadAfter 1 (wait_timeout 3 (i 5) ∷ label 3 ∷ read_x0 ∷ []) (int 1 ∷ []) (replies (back (int 0) ∷ []))
  -- the function that is called has its arguments alone
  pub call_registers :
      BadAmong 2 (allocate 0 2 ∷ call 1 4 ∷ []) (callee 1 (read_x1 ∷ [])) (int 1 ∷ int 2 ∷ []) unasked
  pub last_call_registers : BadAmong 1 (call_only 1 4 ∷ []) (callee 1 (read_x1 ∷ [])) (int 1 ∷ int 2 ∷ []) unasked
  -- what collects leaves no room
  pub collected_room :
      BadAfter 2 (test_heap 2 1 ∷ gc_bif Length None 1 (r x0 ∷ []) x1 ∷ pair_up ∷ []) (T.nil ∷ []) unasked
  -- and neither does a call
  pub call_ext_room : BadAfter 2 (allocate_heap 0 2 1 ∷ ask_g ∷ pair_up ∷ []) (int 1 ∷ []) (replies (back (int 3) ∷ []))
  pub call_room : BadAmong 2 (allocate_heap 0 2 1 ∷ call 1 4 ∷ []) (callee 1 (pair_up ∷ [])) (int 1 ∷ []) unasked
  pub last_call_room : BadAmong 2 (test_heap 2 1 ∷ call_only 1 4 ∷ []) (callee 1 (pair_up ∷ [])) (int 1 ∷ []) unasked
  -- a function that collects reads its arguments before it does
  pub reads_first : end_of (gc_bif Length None 0 (r x0 ∷ []) x0 ∷ return ∷ []) (list_term (int 1 ∷ int 2 ∷ []) ∷ [])
      ≡ returns (int 2)
  -- a tuple takes a word more than it has elements
  pub tuple_words : end_of (test_heap 2 1 ∷ put_tuple2 x0 (r x0 ∷ []) ∷ return ∷ []) (int 1 ∷ [])
      ≡ returns (tuple_term (int 1 ∷ []))
  pub tuple_header : BadAfter 1 (test_heap 1 1 ∷ put_tuple2 x0 (r x0 ∷ []) ∷ []) (int 1 ∷ []) unasked
  -- a frame has its slots and no more, and brings the words that are asked for and no more
  pub frame_slots : BadAfter 1 (allocate 1 1 ∷ move (r x0) y1 ∷ []) (int 1 ∷ []) unasked
  pub frame_words : BadAfter 1 (allocate 0 1 ∷ put_tuple2 x0 [] ∷ []) (int 1 ∷ []) unasked
  pub frame_and_words : BadAfter 1 (allocate_heap 0 1 1 ∷ put_tuple2 x0 (r x0 ∷ []) ∷ []) (int 1 ∷ []) unasked
  -- a fun takes four words, and one for each term that it captures
  pub fun_words : (steps 40 (made_fun 4) (callee 0 (return ∷ [])) (int 1 ∷ []) unasked).end
      ≡ returns (T.fun (codes "m") 1 0 (terms []))
  pub fun_of_three_words : BadAmong 1 (made_fun 3) (callee 0 (return ∷ [])) (int 1 ∷ []) unasked
