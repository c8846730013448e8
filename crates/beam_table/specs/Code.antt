-- Assembly modules.
use Rattle.std.specs.Prelude.{ℕ, ℤ, Bool, List, Option}
use Rattle.erl_base.specs.Names.{Name}
use Rattle.erl_base.specs.declared.ids.FunKey.{FunKey}
use Rattle.erl_term.specs.Term.{Term}
use Rattle.bif_table.specs.Builtins.{Bif}
use Rattle.bif_table.specs.TermTests.{TypeTest, Comparison}

-- X registers belong to the run, Y registers are the slots of the current frame
pub data Reg : Type 0 where
  x_reg y_reg : ℕ → Reg

-- what is read
pub data Source : Type 0 where
  reg : Reg → Source
  atom : Name → Source
  integer : ℤ → Source
  nil : Source
  literal : Term → Source

-- a function of any module
pub record Extern : Type 0 where
  pub mod_name : Name
  pub name : Name
  pub arity : ℕ

-- how the bits of a segment are read as a number; unsigned and big where neither is set
pub record Flags : Type 0 where
  pub signed : Bool
  pub little : Bool

-- what a segment of a bit string is built from; its number isn't used
pub record Segment : Type 0 where
  pub is_binary : Bool
  pub number : ℕ
  pub unit : ℕ
  pub flags : Flags
  pub value : Source
  pub size : Source

-- A label is its number. Where there may be none (`{f,0}`, or `no_fail`), it is an option.
pub data Insn : Type 0 where
  label : ℕ → Insn
  -- only at the head of a function
  func_info : FunKey → Insn
  move : Source → Reg → Insn
  swap : Reg → Reg → Insn
  -- frames and room
  init_yregs : List ℕ → Insn
  allocate : ℕ → ℕ → Insn
  allocate_heap : ℕ → ℕ → ℕ → Insn
  deallocate : ℕ → Insn
  trim : ℕ → ℕ → Insn
  test_heap : ℕ → ℕ → Insn
  return : Insn
  -- building
  put_list : Source → Source → Reg → Insn
  put_tuple2 : Reg → List Source → Insn
  make_fun3 : ℕ → ℕ → Reg → List Source → Insn
  put_map_assoc : Source → Reg → ℕ → List (Source × Source) → Insn
  put_map_exact : Source → Reg → ℕ → List (Source × Source) → Insn
  -- taking apart
  get_list : Source → Reg → Reg → Insn
  get_hd : Source → Reg → Insn
  get_tl : Source → Reg → Insn
  get_tuple_element : Source → ℕ → Reg → Insn
  get_map_elements : ℕ → Source → List (Source × Reg) → Insn
  -- tests and jumps
  has_map_fields : ℕ → Source → List Source → Insn
  jump : ℕ → Insn
  test : TypeTest → ℕ → Source → Insn
  compares : Comparison → ℕ → Source → Source → Insn
  test_arity : ℕ → Source → ℕ → Insn
  is_tagged_tuple : ℕ → Source → ℕ → Name → Insn
  select_val : Source → ℕ → List (Source × ℕ) → Insn
  select_tuple_arity : Source → ℕ → List (ℕ × ℕ) → Insn
  -- functions that a run answers itself
  bif : Bif → Option ℕ → List Source → Reg → Insn
  gc_bif : Bif → Option ℕ → ℕ → List Source → Reg → Insn
  -- calls
  call : ℕ → ℕ → Insn
  call_only : ℕ → ℕ → Insn
  call_last : ℕ → ℕ → ℕ → Insn
  call_ext : ℕ → Extern → Insn
  call_ext_only : ℕ → Extern → Insn
  call_ext_last : ℕ → Extern → ℕ → Insn
  call_fun : ℕ → Insn
  apply : ℕ → Insn
  apply_last : ℕ → ℕ → Insn
  send : Insn
  build_stacktrace : Insn
  -- raises and handlers
  raise : Source → Source → Insn
  badmatch : Source → Insn
  case_end : Source → Insn
  try_case_end : Source → Insn
  if_end : Insn
  try : ℕ → ℕ → Insn
  catch : ℕ → ℕ → Insn
  try_end : ℕ → Insn
  try_case : ℕ → Insn
  catch_end : ℕ → Insn
  -- receives
  loop_rec : ℕ → ℕ → Insn
  remove_message : Insn
  loop_rec_end : ℕ → Insn
  wait : ℕ → Insn
  wait_timeout : ℕ → Source → Insn
  timeout : Insn
  recv_marker_reserve : Reg → Insn
  recv_marker_bind : Reg → Source → Insn
  recv_marker_use : Source → Insn
  recv_marker_clear : Source → Insn
  -- bit strings
  bs_start_match4 : Option ℕ → ℕ → Source → Reg → Insn
  bs_get_integer2 : ℕ → ℕ → Reg → Source → ℕ → Flags → Reg → Insn
  bs_get_binary2 : ℕ → ℕ → Reg → Source → ℕ → Flags → Reg → Insn
  bs_skip_bits2 : ℕ → Reg → Source → ℕ → Flags → Insn
  bs_test_tail2 : ℕ → Reg → ℕ → Insn
  bs_test_unit : ℕ → Reg → ℕ → Insn
  bs_get_tail : Reg → Reg → ℕ → Insn
  bs_get_position : Reg → Reg → ℕ → Insn
  bs_set_position : Reg → Reg → Insn
  bs_create_bin : Option ℕ → ℕ → ℕ → Reg → List Segment → Insn

-- the code is what follows the entry label
pub record AsmFun : Type 0 where
  pub key : FunKey
  pub info : ℕ
  pub entry : ℕ
  pub code : List Insn

-- a module; an export means the first function of its name and arity
pub record AsmModule : Type 0 where
  pub name : Name
  pub exports : List FunKey
  pub attributes : List (Name × Term)
  pub funs : List AsmFun
