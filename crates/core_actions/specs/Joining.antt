-- Nodes of parts that were read: one literal where all parts are literals, and else a node.
use Rattle.std.specs.Prelude.{ℕ, ℤ, pos, List, [], Option, None, Some}
use Rattle.erl_base.specs.declared.ids.Place.{Place}
use Rattle.erl_term.specs.Term as T
use Rattle.erl_term.specs.Term.{Term}
use Rattle.erl_term.specs.Terms.{list_of}
use Rattle.core_form.specs.Core as C
use Rattle.core_grammar.specs.ConstantTerms.{and_item, constant_pair, constant_list, constant_tuple, constant_map, character_terms}
use Rattle.core_grammar.specs.ModuleOf.{literal_or, known_or, character_exprs, character_patterns}
use Rattle.core_actions.specs.Read.{ReadExpr, whole, integer, wide_integer, characters, items, ReadPattern, whole_pattern, pattern_characters, pattern_items}

-- the term of a literal
abbrev pub literal_term : C.Expr → Option Term
literal_term (C.literal p t) = Some t
literal_term _ = None

-- the terms of literals, where all of them are
abbrev pub literal_terms : C.Exprs → Option (List Term)
literal_terms C.no_expr = Some []
literal_terms (C.and_expr e es) = and_item (literal_term e) (literal_terms es)

-- the pairs of literals that do not ask for their keys, where all of them are
abbrev pub literal_pairs : C.MapParts → Option (List (Term × Term))
literal_pairs C.no_part = Some []
literal_pairs (C.and_part (C.map_part k v x) ps) =
    and_item (constant_pair (literal_term k) x (literal_term v)) (literal_pairs ps)

-- what ends a list at this place
abbrev pub end_at : Place → Option C.Expr → C.Expr
end_at p None = C.literal p T.nil
end_at p (Some e) = e

-- a list
abbrev pub list_of_items : Place → C.Exprs → C.Expr → C.Expr
list_of_items p es e = literal_or p (constant_list (literal_terms es) (literal_term e)) (C.list p es e)

-- a tuple
abbrev pub tuple_of_items : Place → C.Exprs → C.Expr
tuple_of_items p es = literal_or p (constant_tuple (literal_terms es)) (C.tuple p es)

-- a map without a base
abbrev pub map_of_parts : Place → C.MapParts → C.Expr
map_of_parts p ps = literal_or p (constant_map (literal_pairs ps)) (C.new_map p ps)

-- the expression, where it is no tail
abbrev pub closed : ReadExpr → C.Expr
closed (whole e) = e
closed (integer p z) = C.literal p (T.int z)
closed (wide_integer p) = C.literal p (T.int (pos 0))
closed (characters p cs) = C.literal p (list_of (character_terms cs) T.nil)
closed (items p es o) = list_of_items p es (end_at p o)

-- the items that it adds to a list whose tail it is
abbrev pub added : ReadExpr → C.Exprs
added (characters p cs) = character_exprs p cs
added (items p es o) = es
added _ = C.no_expr

-- and what is behind them
abbrev pub behind : ReadExpr → Option C.Expr
behind (characters p cs) = None
behind (items p es o) = o
behind r = Some (closed r)

-- items before others
abbrev pub before : C.Exprs → C.Exprs → C.Exprs
before C.no_expr fs = fs
before (C.and_expr e es) fs = C.and_expr e (before es fs)

-- the list of these items before a tail, whose own items it has too
abbrev pub joined : Place → C.Exprs → ReadExpr → ReadExpr
joined p es r = items p (before es (added r)) (behind r)

-- the integer that a segment may write
abbrev pub integer_in : ReadExpr → Option ℤ
integer_in (integer p z) = Some z
integer_in (wide_integer p) = Some (pos 0)
integer_in _ = None

-- a number from 0 on
abbrev pub count_of : ℤ → Option ℕ
count_of (pos n) = Some n
count_of _ = None

-- the number from 0 on that is read
abbrev pub count_in : ReadExpr → Option ℕ
count_in (integer p z) = count_of z
count_in _ = None

-- Patterns.

-- the term of a known pattern
abbrev pub known_term : C.Pattern → Option Term
known_term (C.known p t) = Some t
known_term _ = None

-- the terms of known patterns, where all of them are
abbrev pub known_terms : C.Patterns → Option (List Term)
known_terms C.no_pattern = Some []
known_terms (C.and_pattern q qs) = and_item (known_term q) (known_terms qs)

-- what ends a list at this place
abbrev pub pattern_end_at : Place → Option C.Pattern → C.Pattern
pattern_end_at p None = C.known p T.nil
pattern_end_at p (Some q) = q

-- a list
abbrev pub list_of_patterns : Place → C.Patterns → C.Pattern → C.Pattern
list_of_patterns p qs q = known_or p (constant_list (known_terms qs) (known_term q)) (C.list_like p qs q)

-- a tuple
abbrev pub tuple_of_patterns : Place → C.Patterns → C.Pattern
tuple_of_patterns p qs = known_or p (constant_tuple (known_terms qs)) (C.tuple_like p qs)

-- the pattern, where it is no tail
abbrev pub closed_pattern : ReadPattern → C.Pattern
closed_pattern (whole_pattern q) = q
closed_pattern (pattern_characters p cs) = C.known p (list_of (character_terms cs) T.nil)
closed_pattern (pattern_items p qs o) = list_of_patterns p qs (pattern_end_at p o)

-- the items that it adds to a list whose tail it is
abbrev pub added_patterns : ReadPattern → C.Patterns
added_patterns (pattern_characters p cs) = character_patterns p cs
added_patterns (pattern_items p qs o) = qs
added_patterns _ = C.no_pattern

-- and what is behind them
abbrev pub behind_patterns : ReadPattern → Option C.Pattern
behind_patterns (pattern_characters p cs) = None
behind_patterns (pattern_items p qs o) = o
behind_patterns r = Some (closed_pattern r)

-- patterns before others
abbrev pub patterns_before : C.Patterns → C.Patterns → C.Patterns
patterns_before C.no_pattern rs = rs
patterns_before (C.and_pattern q qs) rs = C.and_pattern q (patterns_before qs rs)

-- the list of these patterns before a tail, whose own items it has too
abbrev pub joined_patterns : Place → C.Patterns → ReadPattern → ReadPattern
joined_patterns p qs r = pattern_items p (patterns_before qs (added_patterns r)) (behind_patterns r)
