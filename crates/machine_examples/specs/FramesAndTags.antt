-- Frames, and the tags of handlers in them (after OTP 25's BEAM).
use Rattle.std.specs.Prelude.{◌≡◌, [], ◌∷◌, codes}
use Rattle.erl_term.specs.Term as T
use Rattle.beam_table.specs.Code.{label, move, swap, allocate, deallocate, trim, return, call, call_only, call_last, call_ext_only, call_fun, apply_last, send, build_stacktrace, try, catch, try_end, catch_end}
use Rattle.machine_examples.specs.Build.{key, atom, int, x0, x1, y0, r, outside, unasked, end_of, returns, BadAmong, BadAfter}

-- what frames and tags have to be
pub record FramesAndTags : Type 0 where
  -- a tag among the slots that `trim` drops is bad
  pub trim_over_a_tag : BadAfter 2 (allocate 2 1 ∷ try 0 3 ∷ trim 1 1 ∷ label 3 ∷ return ∷ []) (int 1 ∷ []) unasked
  -- while one among the slots that stay goes down with them
  pub trim_below_a_tag :
      end_of (allocate 2 1 ∷ try 1 3 ∷ trim 1 1 ∷ try_end 0 ∷ deallocate 1 ∷ label 3 ∷ return ∷ []) (int 1 ∷ [])
      ≡ returns (int 1)
  -- a tag is not moved out of its slot
  pub move_of_a_tag : BadAfter 2 (allocate 1 1 ∷ try 0 3 ∷ move (r y0) x1 ∷ label 3 ∷ return ∷ []) (int 1 ∷ []) unasked
  pub swap_of_a_tag : BadAfter 2 (allocate 1 1 ∷ try 0 3 ∷ swap x0 y0 ∷ label 3 ∷ return ∷ []) (int 1 ∷ []) unasked
  -- a handler is not put over one in its own slot
  pub tag_over_a_tag : BadAfter 2 (allocate 1 1 ∷ try 0 3 ∷ try 0 3 ∷ label 3 ∷ return ∷ []) (int 1 ∷ []) unasked
  -- either tag is ended by `try_end`, and a value that comes to `catch_end` by itself leaves the registers
  pub try_end_of_a_catch :
      end_of (allocate 1 1 ∷ catch 0 3 ∷ try_end 0 ∷ deallocate 1 ∷ return ∷ label 3 ∷ catch_end 0 ∷ []) (int 1 ∷ [])
      ≡ returns (int 1)
  pub catch_end_without_a_raise :
      end_of (allocate 1 2 ∷ catch 0 3 ∷ label 3 ∷ catch_end 0 ∷ move (r x1) x0 ∷ deallocate 1 ∷ return ∷ [])
      (int 1 ∷ int 2 ∷ [])
      ≡ returns (int 2)
  -- these need a frame
  pub call_fun_without_frame : BadAfter 0 (call_fun 0 ∷ []) (T.extern (codes "p") (codes "g") 0 ∷ []) unasked
  pub send_without_frame : BadAfter 0 (send ∷ []) (T.pid 2 ∷ int 1 ∷ []) unasked
  pub stacktrace_without_frame : BadAfter 0 (build_stacktrace ∷ []) (int 1 ∷ []) unasked
  -- this one needs that there is none
  pub last_call_with_frame : BadAfter 1 (allocate 0 1 ∷ call_ext_only 1 (outside "g" 1) ∷ []) (int 1 ∷ []) unasked
  -- a last call has the frame that it says
  pub call_last_without_frame : BadAfter 0 (call_last 1 2 0 ∷ []) (int 1 ∷ []) unasked
  pub call_last_of_another_frame : BadAfter 1 (allocate 2 1 ∷ call_last 1 2 1 ∷ []) (int 1 ∷ []) unasked
  -- it is dropped before the world is asked
  pub apply_last_of_another_frame : BadAfter 1 (allocate 1 2 ∷ apply_last 0 0 ∷ []) (atom "p" ∷ atom "g" ∷ []) unasked
  -- the arguments of a call are set
  pub call_without_argument : BadAmong 1 (allocate 0 0 ∷ call 1 4 ∷ []) ((key "g" 1, return ∷ []) ∷ []) [] unasked
  pub last_call_without_argument : BadAmong 0 (call_only 1 4 ∷ []) ((key "g" 1, return ∷ []) ∷ []) [] unasked
