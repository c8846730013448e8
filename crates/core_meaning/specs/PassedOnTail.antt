-- Rests of binaries that a function hands on in a tail call, to a function that takes them apart at once
-- (this project's own).
use Rattle.std.specs.Prelude.{ℕ, zero, suc, ◌+◌, List, [], ◌∷◌, ◌++◌, length, slice_get, Bool, true, false, ◌&&◌, eqb, Option, Some, None, if◌then◌else◌, codes}
use Rattle.erl_base.specs.Names.{Name, same_name}
use Rattle.core_form.specs.Core.{Expr, values, fun_name, tuple, let_in, letrec, case, apply, primop, do_then, try, receive, Exprs, no_expr, and_expr, Clauses, no_clause, and_clause, clause, Pattern, any, alias, list_like, tuple_like, map_like, bits_like, Patterns, no_pattern, and_pattern, KeyPatterns, no_key, and_key, key_pattern, SegPatterns, no_seg, and_seg, seg_pattern}
use Rattle.core_form.specs.Scope.{Use, Scope, binding, function_of, with_names, names_of, bound_all}
use Rattle.core_form.specs.Captures.{sites_in, sites_in_defs, sites_in_clauses, in_group}
use Rattle.core_form.specs.Sites.{Site, inside}
use Rattle.core_form.specs.Walks.{literal_name, expr_count, within, uses}
use Rattle.core_meaning.specs.SegmentShape.{shape_of}
use Rattle.core_meaning.specs.MarkedReceive.{is_variable}

-- a parameter: its function's site, and its place in the list from 0
pub record Param : Type 0 where
  pub site : ℕ
  pub index : ℕ

-- whether two parameters are the same
abbrev pub same_param : Param → Param → Bool
same_param a b = eqb a.site b.site && eqb a.index b.index

-- whether a parameter is one of these
abbrev pub is_param_of : List Param → Param → Bool
is_param_of [] a = false
is_param_of (b ∷ bs) a = if same_param a b then true else is_param_of bs a

-- Tail calls.

-- the parameters of site s, from i on, to which these arguments hand the variable n
abbrev pub params_at : ℕ → ℕ → Exprs → ℕ → Scope → List Param
params_at s i no_expr n g = []
params_at s i (and_expr e es) n g =
    if is_variable n e g then record { site = s; index = i } ∷ params_at s (suc i) es n g
    else params_at s (suc i) es n g

-- the parameters of a function that a scope has
abbrev pub if_site : Option (ℕ × List Use) → (ℕ → List Param) → List Param
if_site None f = []
if_site (Some x) f = f x.0

-- the parameters to which calls in tail position, outside of inner functions, hand a variable
abbrev mutual
  pub handed : Expr → Scope → ℕ → ℕ → List Param
  handed (apply p (fun_name q f) es) g k n =
      if eqb f.arity (expr_count es) then if_site (function_of g f) (λ s. params_at s 0 es n g) else []
  handed (let_in p xs a b) g k n = handed b (with_names g (names_of xs)) (k + sites_in a) n
  handed (letrec p ds b) g k n = handed b (in_group ds k g) (k + sites_in_defs ds) n
  handed (do_then p a b) g k n = handed b g (k + sites_in a) n
  handed (case p e cs) g k n = handed_clauses cs g (k + sites_in e) n
  handed (receive p cs t b) g k n = handed_clauses cs g k n ++ handed b g (k + sites_in_clauses cs + sites_in t) n
  handed (try p a xs b ys c) g k n =
      handed b (with_names g (names_of xs)) (k + sites_in a) n
      ++ handed c (with_names g (names_of ys)) (k + sites_in a + sites_in b) n
  handed _ g k n = []

  pub handed_clauses : Clauses → Scope → ℕ → ℕ → List Param
  handed_clauses no_clause g k n = []
  handed_clauses (and_clause (clause p qs e b) cs) g k n =
      handed b (with_names g (bound_all qs)) (k + sites_in e) n
      ++ handed_clauses cs g (k + sites_in e + sites_in b) n

-- The function that takes the rest apart.

-- the elements of a subject; what is no value list is its only element
abbrev pub elements : Expr → Exprs
elements (values p es) = es
elements e = and_expr e no_expr

-- the pattern at place j, from 0
abbrev pub pattern_at : ℕ → Patterns → Option Pattern
pattern_at j no_pattern = None
pattern_at zero (and_pattern q qs) = Some q
pattern_at (suc j) (and_pattern q qs) = pattern_at j qs

-- the uses of a variable among expressions
abbrev pub variables_equal : ℕ → Exprs → Scope → List ℕ
variables_equal n no_expr g = []
variables_equal n (and_expr e es) g = if is_variable n e g then n ∷ variables_equal n es g else variables_equal n es g

-- the uses of a variable as an element of a tuple `{'function_clause', ..}` with which match_fail is called
abbrev pub failing_uses : ℕ → Expr → Scope → List ℕ → List ℕ
failing_uses n (primop p f (and_expr (tuple q (and_expr e es)) no_expr)) g ls =
    if same_name f (codes "match_fail") && same_name (literal_name e) (codes "function_clause")
    then variables_equal n es g else []
failing_uses n _ g ls = []

-- whether every use of a variable in a guard and a body is such a use
abbrev pub only_failing : ℕ → Expr → Expr → Scope → Bool
only_failing n e b g =
    eqb (length (within (failing_uses n) e g [] ++ within (failing_uses n) b g [])) (uses n e g + uses n b g)

-- the number of a binding; a name without one is no variable of a module that compiles
abbrev pub number_or_zero : Option ℕ → ℕ
number_or_zero None = 0
number_or_zero (Some n) = n

-- a binary pattern, or a variable that is used at most to fail by
abbrev pub pattern_takes : Option Pattern → Expr → Expr → Scope → Bool
pattern_takes (Some (bits_like p ss)) e b g = true
pattern_takes (Some (any p x)) e b g = only_failing (number_or_zero (binding g x)) e b g
pattern_takes _ e b g = false

-- whether each clause has at place j a pattern that takes the rest apart, or does not need it
abbrev pub all_take : ℕ → Clauses → Scope → Bool
all_take j no_clause g = true
all_take j (and_clause (clause p qs e b) cs) g =
    pattern_takes (pattern_at j qs) e b (with_names g (bound_all qs)) && all_take j cs g

-- the places from i on at which a variable stands among a subject's elements
abbrev pub places_among : ℕ → ℕ → Exprs → Scope → List ℕ
places_among i n no_expr g = []
places_among i n (and_expr e es) g =
    if is_variable n e g then i ∷ places_among (suc i) n es g else places_among (suc i) n es g

-- those of these places at which all clauses do
abbrev pub takes_at : List ℕ → Clauses → Scope → List ℕ
takes_at [] cs g = []
takes_at (j ∷ js) cs g = if all_take j cs g then j ∷ takes_at js cs g else takes_at js cs g

-- the places of a variable in the subject of a case that takes it apart
abbrev pub taking_cases : ℕ → Expr → Scope → List ℕ → List ℕ
taking_cases n (case p e cs) g ls = takes_at (places_among 0 n (elements e) g) cs g
taking_cases n _ g ls = []

-- whether a list has an element
abbrev pub is_some_list : List ℕ → Bool
is_some_list [] = false
is_some_list (n ∷ ns) = true

-- whether a function uses a parameter once, in the subject of a case that takes it apart
abbrev pub takes_apart : Option Site → ℕ → Bool
takes_apart None i = false
takes_apart (Some x) i =
    let n = length x.scope + i in
    eqb (uses n x.body (inside x)) 1 && is_some_list (within (taking_cases n) x.body (inside x) [])

-- The variables that are passed on.

-- the variables of last segments with type binary and size 'all'
abbrev mutual
  pub rests : Pattern → List Name
  rests (alias p x q) = rests q
  rests (list_like p qs q) = rests_all qs ++ rests q
  rests (tuple_like p qs) = rests_all qs
  rests (map_like p ks) = rests_keys ks
  rests (bits_like p ss) = rests_segs ss
  rests _ = []

  pub rests_all : Patterns → List Name
  rests_all no_pattern = []
  rests_all (and_pattern q qs) = rests q ++ rests_all qs

  pub rests_keys : KeyPatterns → List Name
  rests_keys no_key = []
  rests_keys (and_key (key_pattern e q) ks) = rests q ++ rests_keys ks

  pub rests_segs : SegPatterns → List Name
  rests_segs (and_seg (seg_pattern p (any r x) e u k f) no_seg) =
      if (shape_of e u k f).whole && (shape_of e u k f).is_binary then x ∷ [] else []
  rests_segs (and_seg q ss) = rests_segs ss
  rests_segs no_seg = []

-- those of these parameters that are taken apart
abbrev pub keep_taken : List Site → List Param → List Param
keep_taken ss [] = []
keep_taken ss (a ∷ as') =
    if takes_apart (slice_get ss a.site) a.index then a ∷ keep_taken ss as' else keep_taken ss as'

-- what a clause does with the variables that its patterns bind; its scope has these, and its body's sites have numbers
-- from `site` on
pub record ClauseUse : Type 0 where
  pub guard : Expr
  pub body : Expr
  pub scope : Scope
  pub site : ℕ

-- how often it uses a variable
abbrev pub uses_in : ℕ → ClauseUse → ℕ
uses_in n c = uses n c.guard c.scope + uses n c.body c.scope

-- the parameters to which calls in tail position hand it
abbrev pub handed_in : ℕ → ClauseUse → List Param
handed_in n c = handed c.body c.scope c.site n

-- the parameters that a variable reaches, where it has one use and stands in a clause in tail position
abbrev pub reaches : List Site → Name → ClauseUse → List Param
reaches ss x c =
    let n = number_or_zero (binding c.scope x) in
    if eqb (uses_in n c) 1 then keep_taken ss (handed_in n c) else []

-- of each of these variables
abbrev pub reaches_each : List Site → List Name → ClauseUse → List Param
reaches_each ss [] c = []
reaches_each ss (x ∷ xs) c = reaches ss x c ++ reaches_each ss xs c

module _ (ss : List Site) where
  abbrev mutual
    -- the parameters that variables of an expression in tail position reach
    pub reached : Expr → Scope → ℕ → List Param
    reached (let_in p xs a b) g k = reached b (with_names g (names_of xs)) (k + sites_in a)
    reached (letrec p ds b) g k = reached b (in_group ds k g) (k + sites_in_defs ds)
    reached (do_then p a b) g k = reached b g (k + sites_in a)
    reached (case p e cs) g k = reached_clauses cs g (k + sites_in e)
    reached (receive p cs t b) g k = reached_clauses cs g k ++ reached b g (k + sites_in_clauses cs + sites_in t)
    reached (try p a xs b ys c) g k =
        reached b (with_names g (names_of xs)) (k + sites_in a)
        ++ reached c (with_names g (names_of ys)) (k + sites_in a + sites_in b)
    reached _ g k = []

    pub reached_clauses : Clauses → Scope → ℕ → List Param
    reached_clauses no_clause g k = []
    reached_clauses (and_clause (clause p qs e b) cs) g k =
        reaches_each ss (rests_all qs)
        (record { guard = e; body = b; scope = with_names g (bound_all qs); site = k + sites_in e })
        ++ reached b (with_names g (bound_all qs)) (k + sites_in e)
        ++ reached_clauses cs g (k + sites_in e + sites_in b)

  -- those that variables of these functions reach
  abbrev pub all_reached : List Site → List Param
  all_reached [] = []
  all_reached (x ∷ xs) = reached x.body (inside x) x.first ++ all_reached xs
