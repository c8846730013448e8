-- The shape that the tree of a text always has (Core Erlang 1.0.3, section 4, as OTP 25 prints it): what could be
-- written as a constant is one, a list goes on in no list, right sides are funs, and names and constants have a text.
use Rattle.std.specs.Prelude.{◌≡◌, ℕ, zero, suc, ◌*◌, ◌^◌, ◌≤◌, List, [], ◌∷◌, length, Bool, true, false, not, ◌&&◌, ◌||◌, ltb, leb, eqb, IsTrue, ℤ, pos, Option, None, codes}
use Rattle.std.specs.List.{list_all}
use Rattle.erl_base.specs.Names.{Name, same_name}
use Rattle.erl_base.specs.declared.ids.FunKey.{FunKey}
use Rattle.erl_term.specs.Term as T
use Rattle.erl_term.specs.Term.{Term, Terms, none, more, Pairs, no_pair, pair}
use Rattle.erl_term.specs.Ranges.{is_within_128}
use Rattle.core_chars.specs.Characters.{is_capital, is_name_char}
use Rattle.core_form.specs.declared.tree.Binder.{Binder}
use Rattle.core_form.specs.declared.module.FunName.{FunName}
use Rattle.core_form.specs.Core.{Module, Expr, values, var, fun_name, literal, list, tuple, new_map, map_of, binary, fun, let_in, letrec, case, apply, call, primop, do_then, catch, try, receive, Exprs, no_expr, and_expr, MapParts, no_part, and_part, map_part, Segments, no_segment, and_segment, segment, Defs, no_def, and_def, def, Clauses, no_clause, and_clause, Pattern, any, alias, known, list_like, tuple_like, map_like, bits_like, Patterns, no_pattern, and_pattern, KeyPatterns, no_key, and_key, key_pattern, SegPatterns, no_seg, and_seg, seg_pattern}
use Rattle.core_form.specs.Walks.{Asked, all_defs}

-- Names and constants.

-- a variable is a capital letter or an underscore, and then characters of names
abbrev pub is_variable_name : Name → Bool
is_variable_name [] = false
is_variable_name (c ∷ cs) = is_capital c && list_all is_name_char cs

-- all of them are names of variables
abbrev pub are_variables : List Binder → Bool
are_variables xs = list_all (λ x. is_variable_name x.name) xs

-- an arity has at most nine digits
abbrev pub is_arity : ℕ → Bool
is_arity n = ltb n (10 ^ 9)

-- the terms that a constant writes; in a pattern maps and bit strings are patterns of their own
module _ (in_pattern : Bool) where
  abbrev mutual
    pub is_written : Term → Bool
    is_written (T.int z) = is_within_128 z
    is_written (T.atom a) = true
    is_written T.nil = true
    is_written (T.cons x y) = is_written x && is_written y
    is_written (T.tuple ts) = are_written ts
    is_written (T.map ps) = not in_pattern && pairs_written ps
    is_written (T.bits bs) = not in_pattern
    is_written (T.extern m f n) = is_arity n
    is_written _ = false

    pub are_written : Terms → Bool
    are_written none = true
    are_written (more t ts) = is_written t && are_written ts

    pub pairs_written : Pairs → Bool
    pairs_written no_pair = true
    pairs_written (pair k v ps) = is_written k && is_written v && pairs_written ps

-- Expressions, each by itself and its parts by their own turn.

-- a literal
abbrev pub is_literal : Expr → Bool
is_literal (literal p t) = true
is_literal _ = false

-- all of them are literals
abbrev pub are_literals : Exprs → Bool
are_literals no_expr = true
are_literals (and_expr e es) = is_literal e && are_literals es

-- a list with an item, written or constant
abbrev pub is_list : Expr → Bool
is_list (list p es e) = true
is_list (literal p (T.cons x y)) = true
is_list _ = false

-- at least one expression
abbrev pub has_item : Exprs → Bool
has_item no_expr = false
has_item (and_expr e es) = true

-- pairs that make a constant map: none of them asks for its key to be there
abbrev pub are_constant_pairs : MapParts → Bool
are_constant_pairs no_part = true
are_constant_pairs (and_part (map_part k v exact) ps) =
    is_literal k && is_literal v && not exact && are_constant_pairs ps

-- a `fun`
abbrev pub is_function : Expr → Bool
is_function (fun p xs e) = true
is_function _ = false

-- definitions, whose right sides are funs
abbrev pub are_functions : Defs → Bool
are_functions no_def = true
are_functions (and_def (def p f e) ds) = is_arity f.arity && is_function e && are_functions ds

-- at least one clause
abbrev pub has_clause : Clauses → Bool
has_clause no_clause = false
has_clause (and_clause c cs) = true

-- what a catch part binds: a class and a reason, and maybe a trace
abbrev pub is_caught : List Binder → Bool
is_caught ys = eqb (length ys) 2 || eqb (length ys) 3

-- an expression whose own form a text can have; its parts are looked at on their own
abbrev pub source_expr : Expr → Bool
source_expr (var p x) = is_variable_name x
source_expr (fun_name p f) = is_arity f.arity
source_expr (literal p t) = is_written false t
source_expr (list p es e) = has_item es && not (is_list e) && not (are_literals es && is_literal e)
source_expr (tuple p es) = not (are_literals es)
source_expr (new_map p ps) = not (are_constant_pairs ps)
source_expr (fun p xs e) = are_variables xs
source_expr (let_in p xs a b) = are_variables xs
source_expr (letrec p ds b) = are_functions ds
source_expr (case p e cs) = has_clause cs
source_expr (try p a xs b ys c) = are_variables xs && are_variables ys && is_caught ys
source_expr _ = true

-- Patterns.

-- a literal pattern
abbrev pub is_known : Pattern → Bool
is_known (known p t) = true
is_known _ = false

-- all of them are literal patterns
abbrev pub are_known : Patterns → Bool
are_known no_pattern = true
are_known (and_pattern r qs) = is_known r && are_known qs

-- at least one pattern
abbrev pub has_pattern : Patterns → Bool
has_pattern no_pattern = false
has_pattern (and_pattern r qs) = true

-- a pattern of list cells, also one that is a literal
abbrev pub is_list_pattern : Pattern → Bool
is_list_pattern (list_like p qs r) = true
is_list_pattern (known p (T.cons x y)) = true
is_list_pattern _ = false

-- a key, or a segment's size: a variable or a constant
abbrev pub is_simple : Expr → Bool
is_simple (var p x) = true
is_simple (literal p t) = true
is_simple _ = false

-- the keys of a map pattern are simple
abbrev pub keys_simple : KeyPatterns → Bool
keys_simple no_key = true
keys_simple (and_key (key_pattern e r) ks) = is_simple e && keys_simple ks

-- a segment's value: a variable or an integer
abbrev pub is_segment_value : Pattern → Bool
is_segment_value (any p x) = true
is_segment_value (known p (T.int z)) = true
is_segment_value _ = false

-- the values and sizes of a binary pattern are simple
abbrev pub segs_simple : SegPatterns → Bool
segs_simple no_seg = true
segs_simple (and_seg (seg_pattern p r e u k f) ss) = is_segment_value r && is_simple e && segs_simple ss

-- a pattern whose own form a text can have
abbrev pub source_pattern : Pattern → Bool
source_pattern (any p x) = is_variable_name x
source_pattern (alias p x r) = is_variable_name x
source_pattern (known p t) = is_written true t
source_pattern (list_like p qs r) = has_pattern qs && not (is_list_pattern r) && not (are_known qs && is_known r)
source_pattern (tuple_like p qs) = not (are_known qs)
source_pattern (map_like p ks) = keys_simple ks
source_pattern (bits_like p ss) = segs_simple ss

-- Binaries of constant segments. Where a number was read as 0, since it is a float or too wide, the tree does not tell
-- them.

-- a flag of a segment that tells its sign or its order of bytes
abbrev pub is_flag : Term → Bool
is_flag (T.atom a) =
    same_name a (codes "signed") || same_name a (codes "unsigned") || same_name a (codes "big")
    || same_name a (codes "little")
is_flag _ = false

-- a proper list of flags, `native` not among them
abbrev pub are_flags : Term → Bool
are_flags T.nil = true
are_flags (T.cons x y) = is_flag x && are_flags y
are_flags _ = false

-- an integer, and from 0 to 256 bits for it
abbrev pub is_constant_segment : Expr → Expr → Term → Bool
is_constant_segment (literal p (T.int z)) (literal q (T.int (pos n))) (T.int (pos u)) =
    leb 1 u && leb u 256 && leb (n * u) 256
is_constant_segment _ _ _ = false

-- all segments are constant integers
abbrev pub are_constant_segments : Segments → Bool
are_constant_segments no_segment = true
are_constant_segments (and_segment (segment p v s u k f) ss) =
    is_constant_segment v s u && same_name k (codes "integer") && are_flags f && are_constant_segments ss

-- not a binary of constant segments
abbrev pub is_no_constant_binary : Expr → Bool
is_no_constant_binary (binary p ss) = not (are_constant_segments ss)
is_no_constant_binary _ = true

-- Modules.

-- asks each expression, pattern and segment for its shape
abbrev pub shapes : Asked Bool
shapes = record {
  at_expr = λ e. source_expr e ∷ [];
  at_pattern = λ r. source_pattern r ∷ [];
  at_clause = λ p. [];
  at_segment = λ p s u k f. (is_written false u && is_written false f) ∷ [];
}

-- the question whether a piece has no binary of constant segments
abbrev pub binaries : Asked Bool
binaries = record {
  at_expr = λ e. is_no_constant_binary e ∷ [];
  at_pattern = λ r. [];
  at_clause = λ p. [];
  at_segment = λ p s u k f. [];
}

-- every answer is yes
abbrev pub AllHold : List Bool → Type 0
AllHold bs = IsTrue (list_all (λ b. b) bs)

-- a module's tree that a text can have
pub record IsSourceTree (m : Module) : Type 0 where
  pub exports : IsTrue (list_all (λ f. is_arity f.key.arity) m.exports)
  pub attributes : IsTrue (list_all (λ a. is_written false a.1) m.attributes)
  pub definitions : IsTrue (are_functions m.defs)
  pub nodes : AllHold (all_defs shapes m.defs)
  pub constants : m.floats ≡ None → m.wide ≡ None → AllHold (all_defs binaries m.defs)
