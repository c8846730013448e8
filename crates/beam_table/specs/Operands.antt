-- The operands of each instruction, with their kinds. From this table come the text of an instruction, the
-- bounds on its operands, and the labels that it names.
use Rattle.std.specs.Prelude.{ℕ, List, [], ◌∷◌, Bool, true, false, Option, codes}
use Rattle.erl_base.specs.Names.{Name}
use Rattle.bif_table.specs.Builtins.{bif_name}
use Rattle.beam_table.specs.Code.{Reg, Source, Extern, Flags, Segment, Insn, func_info, move, swap, init_yregs, allocate, allocate_heap, deallocate, trim, test_heap, return, put_list, put_tuple2, make_fun3, put_map_assoc, put_map_exact, get_list, get_hd, get_tl, get_tuple_element, get_map_elements, has_map_fields, jump, test, compares, test_arity, is_tagged_tuple, select_val, select_tuple_arity, bif, gc_bif, call, call_only, call_last, call_ext, call_ext_only, call_ext_last, call_fun, apply, apply_last, send, build_stacktrace, raise, badmatch, case_end, try_case_end, if_end, try, catch, try_end, try_case, catch_end, loop_rec, remove_message, loop_rec_end, wait, wait_timeout, timeout, recv_marker_reserve, recv_marker_bind, recv_marker_use, recv_marker_clear, bs_start_match4, bs_get_integer2, bs_get_binary2, bs_skip_bits2, bs_test_tail2, bs_test_unit, bs_get_tail, bs_get_position, bs_set_position, bs_create_bin}
use Rattle.bif_table.specs.TermTests.{type_name, comparison_name}

mutual
  -- an operand, by its kind
  pub data Operand : Type 0 where
    source : Source → Operand
    register : Reg → Operand
    -- a label of the same function; of any function's entry; one or `{f,0}`; one or `no_fail`; always `{f,0}`
    own_label : ℕ → Operand
    entry_label : ℕ → Operand
    label_or_zero : Option ℕ → Operand
    label_or_no_fail : Option ℕ → Operand
    no_label : Operand
    x_slot y_slot : ℕ → Operand
    live arity site : ℕ → Operand
    -- of a segment that is built
    unit : ℕ → Operand
    -- slots, words, sizes and other counts
    amount : ℕ → Operand
    always : ℕ → Operand
    word : Name → Operand
    atom_operand : Name → Operand
    extfunc : Extern → Operand
    field_flags flag_list : Flags → Operand
    -- `[..]` and `{list,[..]}`
    items list : Operands → Operand

  -- operands in a row
  pub data Operands : Type 0 where
    end : Operands
    ◌then◌ : Operand → Operands → Operands

infixr 40 ◌then◌
-- for each item its operands
abbrev pub each : {A : Type 0} → (A → Operands → Operands) → List A → Operands
each f [] = end
each f (a ∷ as') = f a (each f as')

-- sources in a row
abbrev pub sources : List Source → Operands
sources ss = each (λ s r. source s then r) ss

-- the type of a segment
abbrev pub kind_word : Bool → Name
kind_word true = codes "binary"
kind_word false = codes "integer"

-- the six operands of a segment that is built
abbrev pub segment : Segment → Operands → Operands
segment g r =
    atom_operand (kind_word g.is_binary) then amount g.number then unit g.unit then flag_list g.flags
    then source g.value then source g.size then r

-- an instruction that the text writes as a test
abbrev pub tested : Name → Operands → Name × Operands
tested t r = (codes "test", word t then r)

-- the operands of the two that put pairs into a map
abbrev pub puts : ℕ → Reg → Source → List (Source × Source) → Operands
puts k d s ps =
    no_label then source s then register d then live k then list (each (λ p r. source p.0 then source p.1 then r) ps)
    then end

-- what is taken from a match context
abbrev pub field : Reg → Source → ℕ → Flags → Operands
field c s u f = register c then source s then amount u then field_flags f then end

-- the table
abbrev pub operands : Insn → Name × Operands
operands (Insn.label l) = (codes "label", own_label l then end)
operands (func_info f) = (codes "func_info", end)
operands (move s d) = (codes "move", source s then register d then end)
operands (swap r s) = (codes "swap", register r then register s then end)
operands (init_yregs ns) = (codes "init_yregs", list (each (λ n r. y_slot n then r) ns) then end)
operands (allocate n k) = (codes "allocate", amount n then live k then end)
operands (allocate_heap n w k) = (codes "allocate_heap", amount n then amount w then live k then end)
operands (deallocate n) = (codes "deallocate", amount n then end)
operands (trim n r) = (codes "trim", amount n then amount r then end)
operands (test_heap w k) = (codes "test_heap", amount w then live k then end)
operands return = (codes "return", end)
operands (put_list s r d) = (codes "put_list", source s then source r then register d then end)
operands (put_tuple2 d ss) = (codes "put_tuple2", register d then list (sources ss) then end)
operands (make_fun3 l n d ss) =
    (codes "make_fun3", entry_label l then site n then always 0 then register d then list (sources ss) then end)
operands (put_map_assoc s d k ps) = (codes "put_map_assoc", puts k d s ps)
operands (put_map_exact s d k ps) = (codes "put_map_exact", puts k d s ps)
operands (get_list s d e) = (codes "get_list", source s then register d then register e then end)
operands (get_hd s d) = (codes "get_hd", source s then register d then end)
operands (get_tl s d) = (codes "get_tl", source s then register d then end)
operands (get_tuple_element s n d) = (codes "get_tuple_element", source s then amount n then register d then end)
operands (get_map_elements l s ps) = (
  codes "get_map_elements",
  own_label l then source s
      then list (each (λ p r. source p.0 then register p.1 then r) ps) then end,
)
operands (has_map_fields l s ss) =
    tested (codes "has_map_fields") (own_label l then source s then list (sources ss) then end)
operands (jump l) = (codes "jump", own_label l then end)
operands (test t l s) = tested (type_name t) (own_label l then items (source s then end) then end)
operands (compares t l r s) =
    tested (comparison_name t) (own_label l then items (source r then source s then end) then end)
operands (test_arity l s n) =
    tested (codes "test_arity") (own_label l then items (source s then amount n then end) then end)
operands (is_tagged_tuple l s n a) =
    tested (codes "is_tagged_tuple")
    (own_label l then items (source s then amount n then atom_operand a then end) then end)
operands (select_val s l cs) = (
  codes "select_val",
  source s then own_label l then list (each (λ c r. source c.0 then own_label c.1 then r) cs)
      then end,
)
operands (select_tuple_arity s l cs) = (
  codes "select_tuple_arity",
  source s then own_label l
      then list (each (λ c r. amount c.0 then own_label c.1 then r) cs) then end,
)
operands (bif b l ss d) =
    (codes "bif", word (bif_name b) then label_or_zero l then items (sources ss) then register d then end)
operands (gc_bif b l k ss d) = (
  codes "gc_bif",
  word (bif_name b) then label_or_zero l then live k then items (sources ss) then register d
      then end,
)
operands (call n l) = (codes "call", arity n then entry_label l then end)
operands (call_only n l) = (codes "call_only", arity n then entry_label l then end)
operands (call_last n l k) = (codes "call_last", arity n then entry_label l then amount k then end)
operands (call_ext n e) = (codes "call_ext", arity n then extfunc e then end)
operands (call_ext_only n e) = (codes "call_ext_only", arity n then extfunc e then end)
operands (call_ext_last n e k) = (codes "call_ext_last", arity n then extfunc e then amount k then end)
operands (call_fun n) = (codes "call_fun", arity n then end)
operands (apply n) = (codes "apply", arity n then end)
operands (apply_last n k) = (codes "apply_last", arity n then amount k then end)
operands send = (codes "send", end)
operands build_stacktrace = (codes "build_stacktrace", end)
operands (raise s r) = (codes "raise", source s then source r then end)
operands (badmatch s) = (codes "badmatch", source s then end)
operands (case_end s) = (codes "case_end", source s then end)
operands (try_case_end s) = (codes "try_case_end", source s then end)
operands if_end = (codes "if_end", end)
operands (try n l) = (codes "try", y_slot n then own_label l then end)
operands (catch n l) = (codes "catch", y_slot n then own_label l then end)
operands (try_end n) = (codes "try_end", y_slot n then end)
operands (try_case n) = (codes "try_case", y_slot n then end)
operands (catch_end n) = (codes "catch_end", y_slot n then end)
operands (loop_rec l n) = (codes "loop_rec", own_label l then x_slot n then end)
operands remove_message = (codes "remove_message", end)
operands (loop_rec_end l) = (codes "loop_rec_end", own_label l then end)
operands (wait l) = (codes "wait", own_label l then end)
operands (wait_timeout l s) = (codes "wait_timeout", own_label l then source s then end)
operands timeout = (codes "timeout", end)
operands (recv_marker_reserve d) = (codes "recv_marker_reserve", register d then end)
operands (recv_marker_bind d s) = (codes "recv_marker_bind", register d then source s then end)
operands (recv_marker_use s) = (codes "recv_marker_use", source s then end)
operands (recv_marker_clear s) = (codes "recv_marker_clear", source s then end)
operands (bs_start_match4 l k s d) =
    (codes "bs_start_match4", label_or_no_fail l then live k then source s then register d then end)
operands (bs_get_integer2 l k c s u f d) =
    tested (codes "bs_get_integer2") (own_label l then live k then items (field c s u f) then register d then end)
operands (bs_get_binary2 l k c s u f d) =
    tested (codes "bs_get_binary2") (own_label l then live k then items (field c s u f) then register d then end)
operands (bs_skip_bits2 l c s u f) = tested (codes "bs_skip_bits2") (own_label l then items (field c s u f) then end)
operands (bs_test_tail2 l c n) =
    tested (codes "bs_test_tail2") (own_label l then items (register c then amount n then end) then end)
operands (bs_test_unit l c u) =
    tested (codes "bs_test_unit") (own_label l then items (register c then amount u then end) then end)
operands (bs_get_tail c d k) = (codes "bs_get_tail", register c then register d then live k then end)
operands (bs_get_position c d k) = (codes "bs_get_position", register c then register d then live k then end)
operands (bs_set_position c p) = (codes "bs_set_position", register c then register p then end)
operands (bs_create_bin l k u d gs) = (
  codes "bs_create_bin",
  label_or_zero l then always 0 then live k then amount u then register d
      then list (each segment gs) then end,
)
