-- Small texts with their faults of scope: computed, row by row of the table. A column stands for a place.
use Rattle.std.proofs.Common.{◌≡◌, ℕ, List, [], ◌∷◌, false, Some, None, pos, codes, refl}
use Rattle.erl_base.specs.Names.{Name}
use Rattle.erl_base.specs.declared.ids.Place.{Place}
use Rattle.erl_base.specs.declared.ids.FunKey.{FunKey}
use Rattle.erl_base.specs.declared.refusal.Refusal.{Refusal}
use Rattle.erl_base.specs.declared.refusal.Kind.TheVariants.{Scope}
use Rattle.erl_base.specs.declared.refusal.ScopeFault.{ScopeFault}
use Rattle.erl_base.specs.declared.refusal.ScopeFault.TheVariants.{UnboundVariable, UnboundFunction, DoubledVariable, DoubledFunction, MissingExport, WrongArity, WrongDegree, ClauseWidth, GuardForm}
use Rattle.erl_term.specs.Term as T
use Rattle.core_form.specs.declared.tree.Binder.{Binder}
use Rattle.core_form.specs.declared.module.FunName.{FunName}
use Rattle.core_form.specs.Core.{Module, Expr, values, var, fun_name, literal, tuple, fun, let_in, letrec, case, apply, call, primop, do_then, catch, try, receive, Exprs, no_expr, and_expr, Defs, no_def, and_def, def, Clauses, no_clause, and_clause, clause, Pattern, any, alias, map_like, bits_like, Patterns, no_pattern, and_pattern, no_key, and_key, key_pattern, no_seg, and_seg, seg_pattern}
use Rattle.core_scope.specs.Degrees.{degree}
use Rattle.core_scope.specs.ScopeFaults.{faults_in, scope_faults}

abbrev at : ℕ → Place
at n = record { line = 1; column = n }

abbrev fault : ℕ → ScopeFault → Refusal
fault n f = record { kind = Scope f; place = at n }

abbrev x : ℕ → Expr
x n = var (at n) (codes "X")

abbrev y : ℕ → Expr
y n = var (at n) (codes "Y")

abbrev one : ℕ → Expr
one n = literal (at n) (T.int (pos 1))

abbrev atom : Name → Expr
atom a = literal (at 0) (T.atom a)

abbrev bind : ℕ → Name → Binder
bind n a = record { name = a; place = at n }

abbrev key : Name → ℕ → FunKey
key a n = record { name = a; arity = n }

abbrev row : List Expr → Exprs
row [] = no_expr
row (e ∷ es) = and_expr e (row es)

abbrev two : ℕ → Expr
two n = values (at n) (row (one 0 ∷ one 0 ∷ []))

-- primop 'match_fail'(1), which never returns
abbrev failing : Expr
failing = primop (at 0) (codes "match_fail") (row (one 0 ∷ []))

abbrev erlang : ℕ → Name → List Expr → Expr
erlang n f es = call (at n) (atom (codes "erlang")) (atom f) (row es)

-- a clause of these patterns, with a guard that is a constant
abbrev when_one : ℕ → Patterns → Expr → Clauses → Clauses
when_one n qs e cs = and_clause (clause (at n) qs (one 0) e) cs

abbrev any_x : ℕ → Pattern
any_x n = any (at n) (codes "X")

abbrev any_y : ℕ → Pattern
any_y n = any (at n) (codes "Y")

abbrev couple : Pattern → Pattern → Patterns
couple a b = and_pattern a (and_pattern b no_pattern)

abbrev only : Pattern → Patterns
only a = and_pattern a no_pattern

abbrev guarded : Expr → Expr
guarded g = case (at 0) (one 0) (and_clause (clause (at 0) (only (any_x 0)) g (one 0)) no_clause)

abbrev found : Expr → List Refusal
found e = faults_in e [] false

-- Unbound variables.

unbound : found (x 3) ≡ fault 3 UnboundVariable ∷ []
unbound = refl

let_is_not_known_in_its_value :
    found (let_in (at 1) (bind 2 (codes "X") ∷ []) (x 3) (x 4)) ≡ fault 3 UnboundVariable ∷ []
let_is_not_known_in_its_value = refl

try_variables_each_in_their_part : found (try (at 1) (one 2) (bind 0 (codes "X") ∷ []) (y 3)
    (bind 0 (codes "Y") ∷ bind 0 (codes "Z") ∷ []) (x 4)) ≡ fault 3 UnboundVariable ∷ fault 4 UnboundVariable ∷ []
try_variables_each_in_their_part = refl

size_of_the_same_binary : found (case (at 1) (one 2) (when_one 3 (only (bits_like (at 4)
    (and_seg (seg_pattern (at 5) (any_x 6) (one 7) (T.int (pos 8)) (codes "integer") T.nil)
    (and_seg (seg_pattern (at 8) (any_y 9) (x 10) (T.int (pos 1)) (codes "integer") T.nil) no_seg)))) (y 11) no_clause))
    ≡ []
size_of_the_same_binary = refl

size_of_another_pattern : found (case (at 1) (two 2) (when_one 3 (couple (any_x 4) (bits_like (at 5)
    (and_seg (seg_pattern (at 6) (any_y 7) (x 8) (T.int (pos 1)) (codes "integer") T.nil) no_seg))) (y 9) no_clause))
    ≡ fault 8 UnboundVariable ∷ []
size_of_another_pattern = refl

key_of_the_same_clause : found (case (at 1) (two 2) (when_one 3 (couple (any_x 4)
    (map_like (at 5) (and_key (key_pattern (x 6) (any_y 7)) no_key))) (y 8) no_clause))
    ≡ fault 6 UnboundVariable ∷ []
key_of_the_same_clause = refl

-- Unbound functions.

unbound_function : found (fun_name (at 3) (key (codes "f") 0)) ≡ fault 3 UnboundFunction ∷ []
unbound_function = refl

another_arity : found (letrec (at 1) (and_def (def (at 2) (key (codes "f") 0)
    (fun (at 3) [] (fun_name (at 4) (key (codes "f") 0)))) no_def) (fun_name (at 5) (key (codes "f") 1)))
    ≡ fault 5 UnboundFunction ∷ []
another_arity = refl

-- Doubled variables.

doubled_parameter :
    found (fun (at 1) (bind 2 (codes "X") ∷ bind 3 (codes "X") ∷ []) (x 4)) ≡ fault 3 DoubledVariable ∷ []
doubled_parameter = refl

inner_parameter_hides : found (fun (at 1) (bind 2 (codes "X") ∷ []) (fun (at 3) (bind 4 (codes "X") ∷ []) (x 5))) ≡ []
inner_parameter_hides = refl

doubled_in_patterns : found (case (at 1) (two 2) (when_one 3 (couple (any_x 4) (any_x 5)) (x 6) no_clause))
    ≡ fault 5 DoubledVariable ∷ []
doubled_in_patterns = refl

doubled_by_alias : found (case (at 1) (one 2) (when_one 3 (only (alias (at 4) (codes "X") (any_x 5))) (x 6) no_clause))
    ≡ fault 5 DoubledVariable ∷ []
doubled_by_alias = refl

one_name_in_two_parts : found (try (at 1) (one 2) (bind 3 (codes "X") ∷ []) (x 4)
    (bind 5 (codes "X") ∷ bind 6 (codes "Y") ∷ []) (x 7)) ≡ []
one_name_in_two_parts = refl

-- Definitions and exports.

abbrev constant : ℕ → Name → ℕ → List Binder → Defs → Defs
constant n f k xs ds = and_def (def (at n) (key f k) (fun (at 0) xs (one 0))) ds

abbrev module_of : List FunName → Defs → Module
module_of fs ds = record {
  name = codes "m";
  exports = fs;
  attributes = [];
  defs = ds;
  floats = None;
  wide = None;
  long = None;
}

abbrev export : ℕ → Name → ℕ → FunName
export n f k = record { key = key f k; place = at n }

doubled_function : found (letrec (at 1) (constant 2 (codes "f") 0 [] (constant 3 (codes "f") 0 [] no_def)) (one 4))
    ≡ fault 3 DoubledFunction ∷ []
doubled_function = refl

two_arities : found (letrec (at 1) (constant 2 (codes "f") 0 []
    (constant 3 (codes "f") 1 (bind 4 (codes "X") ∷ []) no_def)) (one 5)) ≡ []
two_arities = refl

wrong_arity : found (letrec (at 1) (constant 2 (codes "f") 1 [] no_def) (one 3)) ≡ fault 2 WrongArity ∷ []
wrong_arity = refl

missing_export : scope_faults (module_of (export 1 (codes "f") 1 ∷ []) (constant 2 (codes "f") 0 [] no_def))
    ≡ fault 1 MissingExport ∷ []
missing_export = refl

repeated_export : scope_faults (module_of (export 1 (codes "f") 0 ∷ export 2 (codes "f") 0 ∷ [])
    (constant 3 (codes "f") 0 [] no_def)) ≡ []
repeated_export = refl

doubled_in_a_module : scope_faults (module_of [] (constant 1 (codes "f") 0 [] (constant 2 (codes "f") 0 [] no_def)))
    ≡ fault 2 DoubledFunction ∷ []
doubled_in_a_module = refl

known_before_its_definition : scope_faults (module_of []
    (and_def (def (at 1) (key (codes "g") 0) (fun (at 2) [] (fun_name (at 3) (key (codes "f") 0))))
    (constant 4 (codes "f") 0 [] no_def))) ≡ []
known_before_its_definition = refl

-- Degrees.

body_of_a_fun : found (fun (at 1) [] (two 2)) ≡ fault 2 WrongDegree ∷ []
body_of_a_fun = refl

values_of_a_let : found (let_in (at 1) (bind 2 (codes "X") ∷ bind 3 (codes "Y") ∷ []) (one 4) (x 5))
    ≡ fault 4 WrongDegree ∷ []
values_of_a_let = refl

one_value_in_a_list : found (let_in (at 1) (bind 2 (codes "X") ∷ []) (values (at 3) (row (one 4 ∷ []))) (x 5)) ≡ []
one_value_in_a_list = refl

element_is_no_value_list : found (tuple (at 1) (row (values (at 2) (row (one 3 ∷ [])) ∷ []))) ≡ fault 2 WrongDegree ∷ []
element_is_no_value_list = refl

ignored_part : found (do_then (at 1) (two 2) (one 3)) ≡ []
ignored_part = refl

bodies_of_a_subject : found (case (at 1)
    (case (at 2) (one 3) (when_one 4 (only (any_x 0)) (two 5) (when_one 6 (only (any_x 0)) (one 7) no_clause)))
    (when_one 8 (couple (any_x 0) (any_y 0)) (x 9) no_clause)) ≡ fault 7 WrongDegree ∷ []
bodies_of_a_subject = refl

first_body_without_degree : degree (case (at 1) (one 2)
    (when_one 3 (only (any_x 0)) failing (when_one 4 (only (any_x 0)) (two 5) no_clause))) ≡ Some 2
first_body_without_degree = refl

never_returns : found (let_in (at 1) (bind 2 (codes "X") ∷ bind 3 (codes "Y") ∷ [])
    (erlang 4 (codes "error") (one 5 ∷ [])) (x 6)) ≡ []
never_returns = refl

another_module_returns : degree (call (at 1) (atom (codes "m")) (atom (codes "error")) (row (one 2 ∷ []))) ≡ Some 1
another_module_returns = refl

no_such_arity_returns : degree (erlang 1 (codes "throw") (one 2 ∷ one 3 ∷ [])) ≡ Some 1
no_such_arity_returns = refl

other_primops_return : degree (primop (at 1) (codes "recv_peek_message") no_expr) ≡ Some 1
other_primops_return = refl

operator_that_is_a_name : found (letrec (at 1) (constant 2 (codes "f") 0 [] no_def)
    (apply (at 3) (fun_name (at 4) (key (codes "f") 0)) no_expr)) ≡ []
operator_that_is_a_name = refl

operator_of_two_values : found (apply (at 1) (two 2) no_expr) ≡ fault 2 WrongDegree ∷ []
operator_of_two_values = refl

timeout_of_two_values : found (receive (at 1) no_clause (two 2) (two 3)) ≡ fault 2 WrongDegree ∷ []
timeout_of_two_values = refl

-- Widths of clauses.

clause_of_two : found (case (at 1) (one 2) (when_one 3 (couple (any_x 4) (any_y 5)) (x 6) no_clause))
    ≡ fault 3 ClauseWidth ∷ []
clause_of_two = refl

clause_of_a_receive : found (receive (at 1) (when_one 2 (couple (any_x 3) (any_y 4)) (x 5) no_clause) (one 6) (one 7))
    ≡ fault 2 ClauseWidth ∷ []
clause_of_a_receive = refl

any_width_of_what_never_returns : found (case (at 1) failing
    (when_one 2 no_pattern (one 3) (when_one 4 (couple (any_x 5) (any_y 6)) (x 7) no_clause))) ≡ []
any_width_of_what_never_returns = refl

-- Guards.

listed_function : found (guarded (erlang 1 (codes "+") (one 2 ∷ one 3 ∷ []))) ≡ []
listed_function = refl

float_function : found (guarded (erlang 1 (codes "/") (one 2 ∷ one 3 ∷ []))) ≡ []
float_function = refl

raising_function : found (guarded (erlang 1 (codes "error") (one 2 ∷ []))) ≡ fault 1 GuardForm ∷ []
raising_function = refl

function_of_another_module : found (guarded (call (at 1) (atom (codes "lists")) (atom (codes "+"))
    (row (one 2 ∷ one 3 ∷ [])))) ≡ fault 1 GuardForm ∷ []
function_of_another_module = refl

body_in_a_guard :
    found (guarded (case (at 1) (one 2) (when_one 3 (only (any_y 4)) (do_then (at 5) (one 6) (one 7)) no_clause)))
    ≡ fault 5 GuardForm ∷ []
body_in_a_guard = refl

guard_in_a_guard : found (guarded (case (at 1) (one 2)
    (and_clause (clause (at 3) (only (any_y 4)) (catch (at 5) (one 6)) (one 7)) no_clause))) ≡ fault 5 GuardForm ∷ []
guard_in_a_guard = refl

try_in_a_guard : found (guarded (try (at 1) (one 2) (bind 3 (codes "Y") ∷ []) (y 4)
    (bind 5 (codes "Y") ∷ bind 6 (codes "Z") ∷ []) (y 7))) ≡ []
try_in_a_guard = refl

function_name_in_a_guard : found (letrec (at 1) (constant 2 (codes "f") 0 [] no_def)
    (guarded (fun_name (at 3) (key (codes "f") 0)))) ≡ fault 3 GuardForm ∷ []
function_name_in_a_guard = refl

body_of_a_clause_is_free : found (case (at 1) (one 2) (when_one 3 (only (any_x 4)) (catch (at 5) (x 6)) no_clause)) ≡ []
body_of_a_clause_is_free = refl
