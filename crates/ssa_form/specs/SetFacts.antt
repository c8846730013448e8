-- What can be said of a single set: its operands, whether it is in form, whether it may raise, and what it unsets.
use Rattle.std.specs.Prelude.{ℕ, zero, suc, ◌*◌, List, [], ◌∷◌, length, Bool, true, false, not, ◌&&◌, ◌||◌, eqb, leb, Option, Some, None, if◌then◌else◌}
use Rattle.erl_base.specs.Lists.{among}
use Rattle.bif_table.specs.Builtins as B
use Rattle.bif_table.specs.Builtins.{Bif, arity_of, is_guard}
use Rattle.ssa_form.specs.Ssa.{Arg, var, lit, Check, compares, has_map_fields, Op, copy, bif, cons, tuple, map_put, map_get, element, hd, tl, check, make_fun, call_local, call_fun, call_remote, send, trace, raise, bs_start, bs_integer, bs_binary, bs_skip, bs_done, bs_unit, bs_tail, bs_position, bs_restore, bs_create, try_start, try_end, landing, catch_end, peek, take_message, skip_message, wait, reset, reserve, bind, use_marker, Set}
use Rattle.ssa_form.specs.Storage.{Mode, jump, tests}

-- the variables among operands
abbrev pub arg_vars : List Arg → List ℕ
arg_vars [] = []
arg_vars (var v ∷ as') = v ∷ arg_vars as'
arg_vars (lit t ∷ as') = arg_vars as'

-- the variable that is set, if one is
abbrev pub dst_vars : Option ℕ → List ℕ
dst_vars None = []
dst_vars (Some v) = v ∷ []

-- all of them
abbrev pub all_among : List ℕ → List ℕ → Bool
all_among [] ws = true
all_among (v ∷ vs) ws = among v ws && all_among vs ws

-- none of them
abbrev pub none_among : List ℕ → List ℕ → Bool
none_among [] ws = true
none_among (v ∷ vs) ws = not (among v ws) && none_among vs ws

-- the last tests the set
abbrev pub is_tests : Mode → Bool
is_tests (tests e) = true
is_tests _ = false

-- the last is a plain jump
abbrev pub is_jump : Mode → Bool
is_jump jump = true
is_jump _ = false

-- how a set may be taken by its block's last
pub data Taking : Type 0 where
  never maybe always by_jump : Taking

-- how an operation is taken by the last
abbrev pub taking_of : Op → Taking
taking_of (bif b) = maybe
taking_of (map_put exact) = maybe
taking_of map_get = always
taking_of (check c) = always
taking_of bs_start = maybe
taking_of (bs_integer h) = always
taking_of (bs_binary h) = always
taking_of (bs_skip h) = always
taking_of bs_done = always
taking_of (bs_unit n) = always
taking_of (bs_create hs) = maybe
taking_of try_start = always
taking_of (peek n) = always
taking_of wait = always
taking_of skip_message = by_jump
taking_of _ = never

-- whether a mode takes it so
abbrev pub is_taken : Taking → Mode → Bool
is_taken never mode = not (is_tests mode)
is_taken maybe mode = true
is_taken always mode = is_tests mode
is_taken by_jump mode = is_jump mode

-- how many terms a test asks of
abbrev pub check_count : Check → ℕ → Bool
check_count (compares c) n = eqb n 2
check_count has_map_fields n = leb 2 n
check_count c n = eqb n 1

-- an odd number: a map, then keys with values
abbrev pub is_odd : ℕ → Bool
is_odd zero = false
is_odd (suc n) = not (is_odd n)

-- whether an operation takes this many operands
abbrev pub takes_count : Op → ℕ → Bool
takes_count copy n = eqb n 1
takes_count (bif b) n = eqb n (arity_of b) && is_guard b
takes_count cons n = eqb n 2
takes_count tuple n = true
takes_count (map_put exact) n = is_odd n
takes_count map_get n = eqb n 2
takes_count (element i) n = eqb n 1
takes_count hd n = eqb n 1
takes_count tl n = eqb n 1
takes_count (check c) n = check_count c n
takes_count (make_fun s) n = true
takes_count (call_local s) n = true
takes_count call_fun n = leb 1 n
takes_count call_remote n = leb 2 n
takes_count send n = eqb n 2
takes_count trace n = eqb n 0
takes_count raise n = eqb n 2
takes_count bs_start n = eqb n 1
takes_count (bs_integer h) n = eqb n 2
takes_count (bs_binary h) n = eqb n 2
takes_count (bs_skip h) n = eqb n 2
takes_count bs_done n = eqb n 1
takes_count (bs_unit u) n = eqb n 1
takes_count bs_tail n = eqb n 1
takes_count bs_position n = eqb n 1
takes_count bs_restore n = eqb n 2
takes_count (bs_create hs) n = eqb n (2 * length hs)
takes_count try_start n = eqb n 0
takes_count try_end n = eqb n 1
takes_count landing n = eqb n 1
takes_count catch_end n = eqb n 1
takes_count (peek i) n = eqb n 0
takes_count take_message n = eqb n 0
takes_count skip_message n = eqb n 0
takes_count wait n = eqb n 1
takes_count reset n = eqb n 0
takes_count reserve n = eqb n 0
takes_count bind n = eqb n 2
takes_count use_marker n = eqb n 1

-- a handler and a message that is looked at have a variable
abbrev pub needs_dst : Op → Bool
needs_dst try_start = true
needs_dst (peek n) = true
needs_dst _ = false

-- Operations that give their variable nothing. It may stand there for the last to name.
abbrev pub gives_nothing : Op → Bool
gives_nothing (check c) = true
gives_nothing (bs_skip h) = true
gives_nothing bs_done = true
gives_nothing (bs_unit n) = true
gives_nothing bs_restore = true
gives_nothing try_end = true
gives_nothing take_message = true
gives_nothing skip_message = true
gives_nothing wait = true
gives_nothing reset = true
gives_nothing bind = true
gives_nothing use_marker = true
gives_nothing _ = false

-- the variable that a set gives something: a value, or a handler's tag
abbrev pub given_vars : Set → List ℕ
given_vars x = if gives_nothing x.op then [] else dst_vars x.dst

-- operations whose operand is a handler's tag, which is no value
abbrev pub names_handler : Op → Bool
names_handler try_end = true
names_handler landing = true
names_handler catch_end = true
names_handler _ = false

-- whether there is a variable
abbrev pub has_var : Option ℕ → Bool
has_var None = false
has_var (Some v) = true

-- the operands, the mode and the destination fit the operation
abbrev pub in_form : Mode → Set → Bool
in_form mode x =
    takes_count x.op (length x.args) && is_taken (taking_of x.op) mode && (not (needs_dst x.op) || has_var x.dst)

-- the listed functions that no argument makes raise
abbrev pub never_raises : Bif → Bool
never_raises B.Equals = true
never_raises B.Exactly = true
never_raises B.Differs = true
never_raises B.ExactlyNot = true
never_raises B.Below = true
never_raises B.AtMost = true
never_raises B.Above = true
never_raises B.AtLeast = true
never_raises B.IsAtom = true
never_raises B.IsBinary = true
never_raises B.IsBitstring = true
never_raises B.IsBoolean = true
never_raises B.IsFloat = true
never_raises B.IsFunction = true
never_raises B.IsInteger = true
never_raises B.IsList = true
never_raises B.IsMap = true
never_raises B.IsNumber = true
never_raises B.IsPid = true
never_raises B.IsPort = true
never_raises B.IsReference = true
never_raises B.IsTuple = true
never_raises B.Self = true
never_raises _ = false

-- whether a set may raise; one that the last tests raises only where it waits
abbrev pub may_raise : Mode → Op → Bool
may_raise mode (bif b) = not (is_tests mode || never_raises b)
may_raise mode (map_put exact) = not (is_tests mode)
may_raise mode (call_local n) = true
may_raise mode call_fun = true
may_raise mode call_remote = true
may_raise mode send = true
may_raise mode raise = true
may_raise mode (bs_create hs) = not (is_tests mode)
may_raise mode wait = true
may_raise mode _ = false

-- the receive begins or ends with it, or the world is asked
abbrev pub may_ask : Op → Bool
may_ask (call_local n) = true
may_ask call_fun = true
may_ask call_remote = true
may_ask send = true
may_ask trace = true
may_ask catch_end = true
may_ask (peek n) = true
may_ask wait = true
may_ask _ = false

-- operations that unset the X registers; at the start of a landing they are unset too
abbrev pub unsets_registers : Op → Bool
unsets_registers (call_local n) = true
unsets_registers call_fun = true
unsets_registers call_remote = true
unsets_registers send = true
unsets_registers trace = true
unsets_registers (peek n) = true
unsets_registers skip_message = true
unsets_registers wait = true
unsets_registers _ = false

-- a look
abbrev pub is_peek : Op → Bool
is_peek (peek n) = true
is_peek _ = false

-- a handler opens
abbrev pub is_try_start : Op → Bool
is_try_start try_start = true
is_try_start _ = false

-- `take_message` and `skip_message` end a window
abbrev pub ends_window : Op → Bool
ends_window take_message = true
ends_window skip_message = true
ends_window _ = false

-- no cycle of blocks holds one of these
abbrev pub breaks_cycle : Op → Bool
breaks_cycle reset = true
breaks_cycle use_marker = true
breaks_cycle landing = true
breaks_cycle catch_end = true
breaks_cycle _ = false
