-- Trees that a text has and trees that none has, and how many nodes they have: computed.
use Rattle.std.proofs.Common.{◌≡◌, ℕ, [], ◌∷◌, false, true, pos, codes, refl}
use Rattle.erl_base.specs.declared.ids.Place.{Place}
use Rattle.erl_term.specs.Term as T
use Rattle.erl_term.specs.Term.{Term, none, more, no_pair, pair}
use Rattle.core_form.specs.declared.tree.Binder.{Binder}
use Rattle.core_form.specs.Core.{Expr, var, literal, list, tuple, new_map, map_of, fun, let_in, letrec, case, try, no_expr, and_expr, no_part, and_part, map_part, binary, no_segment, and_segment, segment, no_def, and_def, def, no_clause, and_clause, clause, any, known, list_like, tuple_like, bits_like, no_pattern, and_pattern, no_seg, and_seg, seg_pattern}
use Rattle.core_form.specs.Nodes.{nodes, head_nodes}
use Rattle.core_form.specs.SourceTree.{source_expr, source_pattern, is_written, is_no_constant_binary}

-- everything stands here
abbrev at : Place
at = record { line = 1; column = 1 }

abbrev x : Expr
x = var at (codes "X")

abbrev one : Expr
one = literal at (T.int (pos 1))

abbrev binder : Binder
binder = record { name = codes "X"; place = at }

abbrev flags : Term
flags = T.cons (T.atom (codes "unsigned")) (T.cons (T.atom (codes "big")) T.nil)

abbrev bits_of : Expr → Expr → Expr
bits_of v s = binary at (and_segment (segment at v s (T.int (pos 8)) (codes "integer") flags) no_segment)

-- a variable begins with a capital
capital : source_expr (var at (codes "x")) ≡ false
capital = refl

-- constants of constants are constants
constant_tuple : source_expr (tuple at (and_expr one no_expr)) ≡ false
constant_tuple = refl

open_tuple : source_expr (tuple at (and_expr one (and_expr x no_expr))) ≡ true
open_tuple = refl

empty_tuple : source_expr (tuple at no_expr) ≡ false
empty_tuple = refl

constant_pairs : source_expr (new_map at (and_part (map_part one one false) no_part)) ≡ false
constant_pairs = refl

exact_pairs : source_expr (new_map at (and_part (map_part one one true) no_part)) ≡ true
exact_pairs = refl

based_pairs : source_expr (map_of at no_part one) ≡ true
based_pairs = refl

-- a list in a tail is the same list, a constant one too
tail_list : source_expr (list at (and_expr x no_expr) (list at (and_expr x no_expr) x)) ≡ false
tail_list = refl

tail_constant : source_expr (list at (and_expr x no_expr) (literal at (T.cons (T.int (pos 1)) T.nil))) ≡ false
tail_constant = refl

proper_list : source_expr (list at (and_expr x no_expr) (literal at T.nil)) ≡ true
proper_list = refl

list_without_items : source_expr (list at no_expr x) ≡ false
list_without_items = refl

-- one byte of a constant is a constant binary; one of 257 bits, or of a size that is no constant, is none
constant_byte : is_no_constant_binary (bits_of one one) ≡ false
constant_byte = refl

wide_segment : is_no_constant_binary (bits_of one (literal at (T.int (pos 33)))) ≡ true
wide_segment = refl

sized_by_variable : is_no_constant_binary (bits_of one x) ≡ true
sized_by_variable = refl

-- right sides are funs, a case has a clause, a catch part binds two or three
right_side : source_expr (letrec at (and_def (def at (record { name = codes "f"; arity = 0 }) one) no_def) one) ≡ false
right_side = refl

no_clauses : source_expr (case at x no_clause) ≡ false
no_clauses = refl

caught_one : source_expr (try at x (binder ∷ []) x (binder ∷ []) x) ≡ false
caught_one = refl

caught_two : source_expr (try at x (binder ∷ []) x (binder ∷ binder ∷ []) x) ≡ true
caught_two = refl

-- maps and bit strings are no constants in a pattern, nor is what holds one
map_in_pattern : source_pattern (known at (T.tuple (more (T.map no_pair) none))) ≡ false
map_in_pattern = refl

known_tuple : source_pattern (tuple_like at (and_pattern (known at T.nil) no_pattern)) ≡ false
known_tuple = refl

tail_in_pattern : source_pattern
    (list_like at (and_pattern (any at (codes "X")) no_pattern) (known at (T.cons T.nil T.nil))) ≡ false
tail_in_pattern = refl

atom_segment : source_pattern
    (bits_like at (and_seg (seg_pattern at (known at T.nil) one (T.int (pos 1)) (codes "integer") flags) no_seg))
    ≡ false
atom_segment = refl

-- no text writes a pid, nor an integer past 128 bits
no_pid : is_written false (T.pid 1) ≡ false
no_pid = refl

past_128_bits : is_written false (T.int (pos 170141183460469231731687303715884105728)) ≡ false
past_128_bits = refl

-- [X] has an item and its empty tail; the variables of let and fun are nodes
two_parts : nodes (list at (and_expr x no_expr) (literal at T.nil)) ≡ 3
two_parts = refl

bound_variables : nodes (let_in at (binder ∷ binder ∷ []) x (fun at (binder ∷ []) one)) ≡ 7
bound_variables = refl

-- a clause's head without its body
clause_head : head_nodes
    (and_clause (clause at (and_pattern (any at (codes "X")) no_pattern) one (tuple at (and_expr x no_expr))) no_clause)
    ≡ 2
clause_head = refl
