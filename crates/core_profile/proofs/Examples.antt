-- Small texts with what is not compiled in them and the limits that they pass: computed, row by row of the tables.
use Rattle.std.proofs.Common.{◌≡◌, ℕ, zero, suc, List, [], ◌∷◌, Some, None, pos, codes, refl}
use Rattle.erl_base.specs.Names.{Name}
use Rattle.erl_base.specs.declared.ids.Place.{Place}
use Rattle.erl_base.specs.declared.ids.FunKey.{FunKey}
use Rattle.erl_base.specs.declared.refusal.Refusal.{Refusal}
use Rattle.erl_base.specs.declared.refusal.Kind.{Kind}
use Rattle.erl_base.specs.declared.refusal.Kind.TheVariants.{Profile, Limit}
use Rattle.erl_base.specs.declared.refusal.Outside.TheVariants.{Float, Primop, FloatFunction, SegmentType, Native, SegmentForm}
use Rattle.erl_base.specs.declared.refusal.LimitName.TheVariants.{Integer, Atom, Arity, Nodes, Definitions, Receive}
use Rattle.erl_term.specs.Term as T
use Rattle.erl_term.specs.Term.{Term}
use Rattle.core_form.specs.declared.tree.Binder.{Binder}
use Rattle.core_form.specs.declared.module.FunName.{FunName}
use Rattle.core_form.specs.Core.{Module, Expr, var, fun_name, literal, tuple, binary, fun, letrec, case, apply, call, primop, receive, Exprs, no_expr, and_expr, no_segment, and_segment, segment, Defs, no_def, and_def, def, no_clause, and_clause, clause, any, bits_like, Patterns, no_pattern, and_pattern, no_seg, and_seg, seg_pattern}
use Rattle.core_form.specs.Walks.{all_in}
use Rattle.core_profile.specs.ProfileFaults.{outside_of, profile_faults}
use Rattle.core_profile.specs.LimitFaults.{limits_of, over, limit_faults, definition_limits, most_nodes}

abbrev at : ℕ → Place
at n = record { line = 1; column = n }

abbrev fault : ℕ → Kind → Refusal
fault n k = record { kind = k; place = at n }

abbrev one : ℕ → Expr
one n = literal (at n) (T.int (pos 1))

abbrev atom : Name → Expr
atom a = literal (at 0) (T.atom a)

abbrev key : Name → ℕ → FunKey
key a n = record { name = a; arity = n }

abbrev flags_of : List Term → Term
flags_of [] = T.nil
flags_of (t ∷ ts) = T.cons t (flags_of ts)

abbrev flag : Name → Term
flag a = T.atom a

abbrev big : Term
big = flags_of (flag (codes "unsigned") ∷ flag (codes "big") ∷ [])

abbrev module_of : List FunName → Defs → Module
module_of fs ds = record {
  name = codes "m";
  exports = fs;
  attributes = [];
  defs = ds;
  floats = None;
  wide = None;
  long = None;
}

abbrev outside_in : Expr → List Refusal
outside_in e = all_in outside_of e

abbrev one_segment : Expr → ℕ → Name → Term → Expr
one_segment size unit kind flags =
    binary (at 1) (and_segment (segment (at 2) (one 3) size (T.int (pos unit)) kind flags) no_segment)

-- Floats.

the_first_float : profile_faults (record (module_of [] no_def) { floats = Some (at 7) }) ≡ fault 7 (Profile Float) ∷ []
the_first_float = refl

-- Primops.

other_name : outside_in (primop (at 1) (codes "dialyzer_unknown") no_expr) ≡ fault 1 (Profile Primop) ∷ []
other_name = refl

match_fail_of_one : outside_in (primop (at 1) (codes "match_fail") (and_expr (one 2) no_expr)) ≡ []
match_fail_of_one = refl

raise_of_one : outside_in (primop (at 1) (codes "raise") (and_expr (one 2) no_expr)) ≡ fault 1 (Profile Primop) ∷ []
raise_of_one = refl

raise_of_two : outside_in (primop (at 1) (codes "raise") (and_expr (one 2) (and_expr (one 3) no_expr))) ≡ []
raise_of_two = refl

trace_of_none : outside_in (primop (at 1) (codes "build_stacktrace") no_expr) ≡ fault 1 (Profile Primop) ∷ []
trace_of_none = refl

-- Float functions.

quotient :
    outside_in (call (at 1) (atom (codes "erlang")) (atom (codes "/")) (and_expr (one 2) (and_expr (one 3) no_expr)))
    ≡ fault 1 (Profile FloatFunction) ∷ []
quotient = refl

quotient_of_another_module :
    outside_in (call (at 1) (atom (codes "m")) (atom (codes "/")) (and_expr (one 2) (and_expr (one 3) no_expr))) ≡ []
quotient_of_another_module = refl

float_of_two :
    outside_in (call (at 1) (atom (codes "erlang")) (atom (codes "float"))
    (and_expr (one 2) (and_expr (one 3) no_expr))) ≡ []
float_of_two = refl

-- Segments.

plain_segment : outside_in (one_segment (one 4) 256 (codes "integer") big) ≡ []
plain_segment = refl

float_segment : outside_in (one_segment (one 4) 1 (codes "float") big) ≡ fault 2 (Profile SegmentType) ∷ []
float_segment = refl

native_alone : outside_in (one_segment (one 4) 1 (codes "integer") (flags_of (flag (codes "native") ∷ [])))
    ≡ fault 2 (Profile Native) ∷ []
native_alone = refl

native_among_others : outside_in (one_segment (one 4) 1 (codes "integer")
    (flags_of (T.int (pos 1) ∷ flag (codes "native") ∷ flag (codes "foo") ∷ [])))
    ≡ fault 2 (Profile Native) ∷ fault 2 (Profile SegmentForm) ∷ []
native_among_others = refl

native_in_an_improper_list : outside_in (one_segment (one 4) 1 (codes "integer")
    (T.cons (flag (codes "native")) (flag (codes "big")))) ≡ fault 2 (Profile SegmentForm) ∷ []
native_in_an_improper_list = refl

no_flags : outside_in (one_segment (one 4) 1 (codes "integer") T.nil) ≡ []
no_flags = refl

unit_of_none : outside_in (one_segment (one 4) 0 (codes "integer") big) ≡ fault 2 (Profile SegmentForm) ∷ []
unit_of_none = refl

unit_of_257 : outside_in (one_segment (one 4) 257 (codes "integer") big) ≡ fault 2 (Profile SegmentForm) ∷ []
unit_of_257 = refl

all_of_an_integer : outside_in (one_segment (atom (codes "all")) 8 (codes "integer") big)
    ≡ fault 2 (Profile SegmentForm) ∷ []
all_of_an_integer = refl

all_of_a_binary : outside_in (one_segment (atom (codes "all")) 8 (codes "binary") big) ≡ []
all_of_a_binary = refl

all_in_a_pattern : outside_in (case (at 1) (one 2) (and_clause (clause (at 3) (and_pattern (bits_like (at 4)
    (and_seg (seg_pattern (at 5) (any (at 6) (codes "X")) (atom (codes "all"))
    (T.int (pos 8)) (codes "integer") big) no_seg))
    no_pattern) (one 7) (one 8)) no_clause)) ≡ fault 5 (Profile SegmentForm) ∷ []
all_in_a_pattern = refl

-- Limits.

abbrev limits_in : Expr → List Refusal
limits_in e = all_in limits_of e

abbrev ones : ℕ → Exprs
ones zero = no_expr
ones (suc n) = and_expr (one 0) (ones n)

abbrev binders : ℕ → List Binder
binders zero = []
binders (suc n) = record { name = codes "X"; place = at 0 } ∷ binders n

abbrev anys : ℕ → Patterns
anys zero = no_pattern
anys (suc n) = and_pattern (any (at 0) (codes "X")) (anys n)

abbrev receiving : ℕ → Expr → Expr
receiving n e = receive (at 1) (and_clause (clause (at 2) (anys n) (one 0) e) no_clause) (one 0) (one 0)

wide_integer : limit_faults (record (module_of [] no_def) { wide = Some (at 7, 39) }) ≡ fault 7 (Limit Integer 39) ∷ []
wide_integer = refl

long_atom : limit_faults (record (module_of [] no_def) { long = Some (at 7, 256) }) ≡ fault 7 (Limit Atom 256) ∷ []
long_atom = refl

use_of_255 : limits_in (fun_name (at 1) (key (codes "f") 255)) ≡ []
use_of_255 = refl

use_of_256 : limits_in (fun_name (at 1) (key (codes "f") 256)) ≡ fault 1 (Limit Arity 256) ∷ []
use_of_256 = refl

export_of_256 : limit_faults (module_of (record { key = key (codes "f") 256; place = at 3 } ∷ []) no_def)
    ≡ fault 3 (Limit Arity 256) ∷ []
export_of_256 = refl

arguments_of_255 : limits_in (apply (at 1) (one 2) (ones 255)) ≡ []
arguments_of_255 = refl

arguments_of_256 : limits_in (apply (at 1) (one 2) (ones 256)) ≡ fault 1 (Limit Arity 256) ∷ []
arguments_of_256 = refl

inner_name_of_256 : limits_in (letrec (at 1) (and_def (def (at 2) (key (codes "f") 256) (fun (at 3) [] (one 4)))
    no_def) (one 5))
    ≡ fault 2 (Limit Arity 256) ∷ []
inner_name_of_256 = refl

-- a definition of 256 parameters passes the limit at its name and at its fun
definition_of_256 :
    limit_faults (module_of [] (and_def (def (at 1) (key (codes "f") 256) (fun (at 2) (binders 256) (one 3))) no_def))
    ≡ fault 1 (Limit Arity 256) ∷ fault 2 (Limit Arity 256) ∷ []
definition_of_256 = refl

-- a fun of n parameters that captures a variable
abbrev capturing : ℕ → Module
capturing n = module_of [] (and_def (def (at 1) (key (codes "f") 1)
    (fun (at 2) (record { name = codes "Y"; place = at 3 } ∷ [])
    (fun (at 4) (binders n) (var (at 5) (codes "Y"))))) no_def)

captures_within : limit_faults (capturing 254) ≡ []
captures_within = refl

captures_past : limit_faults (capturing 255) ≡ fault 4 (Limit Arity 256) ∷ []
captures_past = refl

-- patterns and guards of one receive, its body not
receive_of_340 : limits_in (receiving 339 (tuple (at 9) (ones 100))) ≡ []
receive_of_340 = refl

receive_of_341 : limits_in (receiving 340 (one 9)) ≡ fault 1 (Limit Receive 341) ∷ []
receive_of_341 = refl

receive_in_a_body : limits_in (receiving 300 (receive (at 5)
    (and_clause (clause (at 6) (anys 300) (one 0) (one 7)) no_clause) (one 0) (one 0))) ≡ []
receive_in_a_body = refl

nodes_at_the_limit : over Nodes most_nodes (at 1) 40000 ≡ []
nodes_at_the_limit = refl

nodes_past : over Nodes most_nodes (at 1) 40001 ≡ fault 1 (Limit Nodes 40001) ∷ []
nodes_past = refl

abbrev named : ℕ → Defs → Defs
named n ds = and_def (def (at n) (key (codes "f") 0) (fun (at 0) [] (one 0))) ds

definition_20000 : definition_limits 20000 19999 (named 1 no_def) ≡ []
definition_20000 = refl

definition_20001 : definition_limits 20002 20000 (named 1 (named 2 no_def)) ≡ fault 1 (Limit Definitions 20002) ∷ []
definition_20001 = refl

-- a count of more than 64 bits is told as the largest of them
largest_count : over Nodes most_nodes (at 1) 18446744073709551616 ≡ fault 1 (Limit Nodes 18446744073709551615) ∷ []
largest_count = refl
