-- One way through a text that gathers what it uses, and what each function in it uses: what the code does, which only
-- its own contracts cite. That these are the things of the texts is proved.
use Rattle.std.specs.Prelude.{◌≡◌, ◌≤◌, ◌-◌, drop, ℕ, List, [], ◌∷◌, ◌++◌, length, slice_set, ◌&&◌, not, ltb, Option, Some, None, if◌then◌else◌}
use Rattle.erl_base.specs.Lists.{among}
use Rattle.erl_base.specs.declared.ids.Place.{Place}
use Rattle.core_form.specs.Core.{Expr, values, var, fun_name, literal, list, tuple, new_map, map_of, binary, fun, let_in, letrec, case, apply, call, primop, do_then, catch, try, receive, Exprs, no_expr, and_expr, MapParts, no_part, and_part, map_part, Segments, no_segment, and_segment, segment, Def, Defs, no_def, and_def, def, Clauses, no_clause, and_clause, clause, Pattern, any, alias, known, list_like, tuple_like, map_like, bits_like, Patterns, no_pattern, and_pattern, KeyPatterns, no_key, and_key, key_pattern, SegPatterns, no_seg, and_seg, seg_pattern}
use Rattle.core_form.specs.Scope.{Use, Scope, function, binding, with_names, names_of, numbers_of, bound, bound_all}
use Rattle.core_form.specs.Captures.{found}
use Rattle.core_names.specs.declared.table.Known.{Known}
use Rattle.core_names.specs.Table.{function_known}
use Rattle.core_sites.specs.declared.texts.Gathered.{Gathered}
use Rattle.core_sites.specs.Things.{use_at, expanded}

-- a use behind the others, if its number is below l and none of theirs
abbrev pub put : ℕ → List Use → Use → List Use
put l us u = if ltb u.number l && not (among u.number (numbers_of us)) then us ++ u ∷ [] else us

-- more of them
abbrev pub put_all : ℕ → List Use → List Use → List Use
put_all l us [] = us
put_all l us (v ∷ vs) = put_all l (put l us v) vs

-- the same use at another place
abbrev pub moved : Place → Use → Use
moved p u = record u { place = p }

-- the functions of a group, as a table of names has them
abbrev pub named : Defs → Scope → Scope
named no_def g = g
named (and_def (def p f e) ds) g = named ds (function f 0 [] ∷ g)

-- a use of the function that a name means, if it means one
abbrev pub thing : Place → Option Known → List Use
thing p None = []
thing p (Some k) = use_at [] k.position p ∷ []

-- what stands for the functions of a group whose first has n bindings behind it
abbrev pub group_at : ℕ → List Use → ℕ → Option (List Use)
group_at n us m = if ltb m n then None else Some us

-- what was gathered with these uses
abbrev pub with_uses : List Use → Gathered → Gathered
with_uses us s = record { uses = us; texts = s.texts }

-- more uses
abbrev pub put_uses : ℕ → Gathered → List Use → Gathered
put_uses l s us = with_uses (put_all l s.uses us) s

-- a function's text begins, which has used nothing yet: it stands behind the texts before
abbrev pub opened : Gathered → Gathered
opened s = record { uses = []; texts = s.texts ++ [] ∷ [] }

-- what a function's text uses, at its place among the texts
abbrev pub with_text : ℕ → List Use → Gathered → Gathered
with_text i us s = record { uses = s.uses; texts = slice_set s.texts i us }

-- a text inside ends: what it uses is used by the text around it, which had these uses
abbrev pub back_in : ℕ → List Use → Gathered → Gathered
back_in l us s = with_uses (put_all l us s.uses) s

-- l: the bound for numbers; s: what was gathered before. A function of a group has no text of its own, and no function
-- in a pattern has one
abbrev mutual
  pub walked : Expr → Scope → ℕ → Gathered → Gathered
  walked (values p es) g l s = walked_all es g l s
  walked (var p x) g l s = put_uses l s (found x p (binding g x))
  walked (fun_name p f) g l s = put_uses l s (thing p (function_known g f))
  walked (literal p t) g l s = s
  walked (list p es e) g l s = walked e g l (walked_all es g l s)
  walked (tuple p es) g l s = walked_all es g l s
  walked (new_map p ps) g l s = walked_parts ps g l s
  walked (map_of p ps e) g l s = walked e g l (walked_parts ps g l s)
  walked (binary p ss) g l s = walked_segments ss g l s
  walked (fun p xs e) g l s =
      let t = walked e (with_names g (names_of xs)) (length g) (opened s) in
      back_in l s.uses (with_text (length s.texts) t.uses t)
  walked (let_in p xs a b) g l s = walked b (with_names g (names_of xs)) l (walked a g l s)
  walked (letrec p ds b) g l s =
      let h = named ds g in
      let t = walked_defs ds h (length h) (opened s) in
      let own = put_all (length g) [] t.uses in
      let r = walked b h (length h) (with_text (length s.texts) own t) in
      back_in l s.uses (with_uses (expanded (group_at (length g) own) r.uses) r)
  walked (case p e cs) g l s = walked_clauses cs g l (walked e g l s)
  walked (apply p e es) g l s = walked_all es g l (walked e g l s)
  walked (call p m f es) g l s = walked_all es g l (walked f g l (walked m g l s))
  walked (primop p n es) g l s = walked_all es g l s
  walked (do_then p a b) g l s = walked b g l (walked a g l s)
  walked (catch p e) g l s = walked e g l s
  walked (try p a xs b ys c) g l s =
      walked c (with_names g (names_of ys)) l (walked b (with_names g (names_of xs)) l (walked a g l s))
  walked (receive p cs t b) g l s = walked b g l (walked t g l (walked_clauses cs g l s))

  pub walked_all : Exprs → Scope → ℕ → Gathered → Gathered
  walked_all no_expr g l s = s
  walked_all (and_expr e es) g l s = walked_all es g l (walked e g l s)

  pub walked_parts : MapParts → Scope → ℕ → Gathered → Gathered
  walked_parts no_part g l s = s
  walked_parts (and_part (map_part k v x) ps) g l s = walked_parts ps g l (walked v g l (walked k g l s))

  pub walked_segments : Segments → Scope → ℕ → Gathered → Gathered
  walked_segments no_segment g l s = s
  walked_segments (and_segment (segment p v z u k f) ss) g l s =
      walked_segments ss g l (walked z g l (walked v g l s))

  -- by the text of a function that is defined
  pub walked_def : Def → Scope → ℕ → Gathered → Gathered
  walked_def (def p f (fun q xs e)) g l s = walked e (with_names g (names_of xs)) l s
  walked_def (def p f e) g l s = walked e g l s

  pub walked_defs : Defs → Scope → ℕ → Gathered → Gathered
  walked_defs no_def g l s = s
  walked_defs (and_def d ds) g l s = walked_defs ds g l (walked_def d g l s)

  pub walked_clauses : Clauses → Scope → ℕ → Gathered → Gathered
  walked_clauses no_clause g l s = s
  walked_clauses (and_clause (clause p qs e b) cs) g l s =
      let h = with_names g (bound_all qs) in
      let t = walked_patterns qs g l (record { uses = s.uses; texts = [] }) in
      walked_clauses cs g l (walked b h l (walked e h l (with_uses t.uses s)))

  pub walked_pattern : Pattern → Scope → ℕ → Gathered → Gathered
  walked_pattern (any p x) g l s = s
  walked_pattern (alias p x q) g l s = walked_pattern q g l s
  walked_pattern (known p t) g l s = s
  walked_pattern (list_like p qs q) g l s = walked_pattern q g l (walked_patterns qs g l s)
  walked_pattern (tuple_like p qs) g l s = walked_patterns qs g l s
  walked_pattern (map_like p ks) g l s = walked_keys ks g l s
  walked_pattern (bits_like p ss) g l s = walked_segs ss g l s

  pub walked_patterns : Patterns → Scope → ℕ → Gathered → Gathered
  walked_patterns no_pattern g l s = s
  walked_patterns (and_pattern q qs) g l s = walked_patterns qs g l (walked_pattern q g l s)

  pub walked_keys : KeyPatterns → Scope → ℕ → Gathered → Gathered
  walked_keys no_key g l s = s
  walked_keys (and_key (key_pattern e q) ks) g l s =
      walked_keys ks g l (walked_pattern q g l (walked e g l s))

  pub walked_segs : SegPatterns → Scope → ℕ → Gathered → Gathered
  walked_segs no_seg g l s = s
  walked_segs (and_seg (seg_pattern p q e u k f) ss) g l s =
      walked_segs ss (with_names g (bound q)) l (walked e g l s)

-- by the patterns of a clause
abbrev pub row_walked : Patterns → Scope → ℕ → Gathered → Gathered
row_walked qs g l s = with_uses (walked_patterns qs g l (record { uses = s.uses; texts = [] })).uses s

-- by a right side
abbrev pub right_walked : Expr → Scope → ℕ → Gathered → Gathered
right_walked (fun q xs e) g l s = walked e (with_names g (names_of xs)) l s
right_walked e g l s = walked e g l s

-- by a fun
abbrev pub fun_walked : Expr → Scope → ℕ → Gathered → Gathered
fun_walked e h n s =
    let t = walked e h n (opened s) in
    with_text (length s.texts) t.uses t

-- by the definitions of a group, whose names count too
abbrev pub group_walked : Defs → Scope → Gathered → Gathered
group_walked ds g s = walked_defs ds (named ds g) (length (named ds g)) s

-- by the body of a group too, where n bindings stand outside and the group's text is the one behind i others; what the
-- group uses of the outside stands for its functions
abbrev pub rest_walked : Expr → Scope → ℕ → ℕ → Gathered → Gathered
rest_walked b h n i s =
    let own = put_all n [] s.uses in
    let r = walked b h (length h) (with_text i own s) in
    with_uses (expanded (group_at n own) r.uses) r

-- what the functions in a module's definitions use, which are bound
abbrev pub module_texts : Defs → Scope → List (List Use)
module_texts ds g = (walked_defs ds g 0 (record { uses = []; texts = [] })).texts

-- the text that comes next, and nothing where none is left
abbrev pub first_text : List (List Use) → List Use
first_text [] = []
first_text (t ∷ ts) = t

-- the texts behind that one
abbrev pub later_texts : List (List Use) → List (List Use)
later_texts [] = []
later_texts (t ∷ ts) = ts

-- a scope and one inside of it, from which it is reached again
pub record IsInside (outer inner : Scope) : Type 0 where
  pub longer : length outer ≤ length inner
  pub left : drop (length inner - length outer) inner ≡ outer
