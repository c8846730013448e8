-- What each instruction does: one row an instruction, in the order of the table.
use Rattle.std.specs.Prelude.{List, [], ◌∷◌, Bool, true, false, Option, Some, None, codes}
use Rattle.erl_term.specs.Term as T
use Rattle.erl_term.specs.Terms.{word}
use Rattle.step_machine.specs.Steps.{goes, bad}
use Rattle.beam_table.specs.Binaries.{do_start_match, do_get_integer, do_get_binary, do_skip_bits, do_test_tail, do_test_unit, do_get_tail, do_get_position, do_set_position, do_create}
use Rattle.beam_table.specs.Calls.{do_call, do_call_only, do_call_ext, do_call_ext_only, returns, do_return, do_send, do_make_fun, do_call_fun, do_apply}
use Rattle.beam_table.specs.Code.{Insn, label, func_info, move, swap, init_yregs, allocate, allocate_heap, deallocate, trim, test_heap, return, put_list, put_tuple2, make_fun3, put_map_assoc, put_map_exact, get_list, get_hd, get_tl, get_tuple_element, get_map_elements, has_map_fields, jump, test, compares, test_arity, is_tagged_tuple, select_val, select_tuple_arity, bif, gc_bif, call, call_only, call_last, call_ext, call_ext_only, call_ext_last, call_fun, apply, apply_last, send, build_stacktrace, raise, badmatch, case_end, try_case_end, if_end, try, catch, try_end, try_case, catch_end, loop_rec, remove_message, loop_rec_end, wait, wait_timeout, timeout, recv_marker_reserve, recv_marker_bind, recv_marker_use, recv_marker_clear, bs_start_match4, bs_get_integer2, bs_get_binary2, bs_skip_bits2, bs_test_tail2, bs_test_unit, bs_get_tail, bs_get_position, bs_set_position, bs_create_bin, AsmModule}
use Rattle.beam_table.specs.Handlers.{do_tag, do_try_end, do_try_case, do_catch_end, do_stacktrace, do_raise, fails}
use Rattle.beam_table.specs.Receives.{do_loop_rec, do_remove, do_loop_end, do_wait, do_wait_timeout, do_timeout, do_reserve, do_bind, do_use, do_clear}
use Rattle.beam_table.specs.MachineState.{Kind, Machine, a_try, a_catch}
use Rattle.beam_table.specs.GeneralRules.{Effect, needs, alone, jumps, raising}
use Rattle.beam_table.specs.Data.{do_move, do_swap, do_init, do_allocate, drops, do_trim, do_test_heap, do_put_list, do_put_tuple, do_get_list, do_get_hd, do_get_tl, do_get_element, do_put_map, do_get_elements}
use Rattle.beam_table.specs.Tests.{do_has_fields, do_test, do_compare, do_test_arity, do_tagged, do_select, do_select_size, do_bif, do_gc_bif}

module _ (a : AsmModule) where
  -- what each instruction does; its code goes on behind it but where it jumps
  unfoldable pub act : Insn → Machine → Effect
  unfolding do_put_map do_get_elements do_has_fields do_compare do_select do_bif do_gc_bif do_call_ext
      do_call_ext_only do_apply do_bind do_use do_clear
  act (label l) m = bad
  act (func_info f) m = raising a T.error (word (codes "function_clause")) m
  act (move s d) m = do_move s d m
  act (swap r s) m = do_swap r s m
  act (init_yregs ns) m = do_init ns m
  act (allocate n live) m = do_allocate n 0 live m
  act (allocate_heap n w live) m = do_allocate n w live m
  act (deallocate n) m = drops n m goes
  act (trim n r) m = do_trim n r m
  act (test_heap w live) m = do_test_heap w live m
  act return m = do_return a m
  act (put_list s r d) m = do_put_list s r d m
  act (put_tuple2 d ss) m = do_put_tuple d ss m
  act (make_fun3 l s d ss) m = do_make_fun a l s d ss m
  act (put_map_assoc s d live ps) m = do_put_map a false s d live ps m
  act (put_map_exact s d live ps) m = do_put_map a true s d live ps m
  act (get_list s d e) m = do_get_list s d e m
  act (get_hd s d) m = do_get_hd s d m
  act (get_tl s d) m = do_get_tl s d m
  act (get_tuple_element s n d) m = do_get_element s n d m
  act (get_map_elements l s ps) m = do_get_elements a l s ps m
  act (has_map_fields l s ss) m = do_has_fields a l s ss m
  act (jump l) m = jumps a l m
  act (test t l s) m = do_test a t l s m
  act (compares t l r s) m = do_compare a t l r s m
  act (test_arity l s n) m = do_test_arity a l s n m
  act (is_tagged_tuple l s n b) m = do_tagged a l s n b m
  act (select_val s l cs) m = do_select a s l cs m
  act (select_tuple_arity s l cs) m = do_select_size a s l cs m
  act (bif b l ss d) m = do_bif a b l ss d m
  act (gc_bif b l live ss d) m = do_gc_bif a b l live ss d m
  act (call n l) m = do_call a n l m
  act (call_only n l) m = do_call_only a n l m
  act (call_last n l k) m = drops k m λ u. do_call_only a n l u
  act (call_ext n e) m = do_call_ext a n e m
  act (call_ext_only n e) m = do_call_ext_only a n e m
  act (call_ext_last n e k) m = drops k m λ u. do_call_ext_only a n e u
  act (call_fun n) m = do_call_fun a n m
  act (apply n) m = do_apply a n m alone
  act (apply_last n k) m = drops k m λ u. do_apply a n u (returns a)
  act send m = do_send a m
  act build_stacktrace m = do_stacktrace m
  act (raise s r) m = do_raise a s r m
  act (badmatch s) m = fails a (codes "badmatch") s m
  act (case_end s) m = fails a (codes "case_clause") s m
  act (try_case_end s) m = fails a (codes "try_clause") s m
  act if_end m = raising a T.error (word (codes "if_clause")) m
  act (try n l) m = do_tag a_try n l m
  act (catch n l) m = do_tag a_catch n l m
  act (try_end n) m = do_try_end n m
  act (try_case n) m = do_try_case n m
  act (catch_end n) m = do_catch_end n m
  act (loop_rec l n) m = do_loop_rec a l n m
  act remove_message m = do_remove m
  act (loop_rec_end l) m = do_loop_end a l m
  act (wait l) m = do_wait a l m
  act (wait_timeout l s) m = do_wait_timeout a l s m
  act timeout m = do_timeout m
  act (recv_marker_reserve d) m = do_reserve d m
  act (recv_marker_bind d s) m = do_bind d s m
  act (recv_marker_use s) m = do_use s m
  act (recv_marker_clear s) m = do_clear s m
  act (bs_start_match4 l live s d) m = do_start_match a l live s d m
  act (bs_get_integer2 l live c s unit fs d) m = do_get_integer a l live c s unit fs d m
  act (bs_get_binary2 l live c s unit fs d) m = do_get_binary a l live c s unit fs d m
  act (bs_skip_bits2 l c s unit fs) m = do_skip_bits a l c s unit fs m
  act (bs_test_tail2 l c n) m = do_test_tail a l c n m
  act (bs_test_unit l c unit) m = do_test_unit a l c unit m
  act (bs_get_tail c d live) m = do_get_tail c d live m
  act (bs_get_position c d live) m = do_get_position c d live m
  act (bs_set_position c r) m = do_set_position c r m
  act (bs_create_bin l live unit d gs) m = do_create a l live d gs m

  -- what may come first after a raise
  abbrev pub may_land : Option Kind → Insn → Bool
  may_land None i = true
  may_land (Some a_try) (try_case n) = true
  may_land (Some a_catch) (catch_end n) = true
  may_land _ i = false

  -- labels do nothing
  abbrev pub past_labels : List Insn → List Insn
  past_labels [] = []
  past_labels (label l ∷ is) = past_labels is
  past_labels (i ∷ is) = i ∷ is

  -- the first instruction of the code
  abbrev pub step_at : List Insn → Machine → Effect
  step_at [] m = bad
  step_at (i ∷ is) m = needs (may_land m.landing i) (act i (record m { code = is }))

  -- a step
  unfoldable pub step : Machine → Effect
  unfolding act
  step m = step_at (past_labels m.code) m
