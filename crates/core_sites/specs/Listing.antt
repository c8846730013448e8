-- One way through a module that lists its functions: what the code does, which only its own contracts cite. That these
-- are the sites of the module is proved.
use Rattle.std.specs.Prelude.{ℕ, ◌-◌, List, [], ◌∷◌, ◌++◌, length, replicate, slice_get, Option, Some, None}
use Rattle.erl_base.specs.declared.ids.Place.{Place}
use Rattle.erl_base.specs.declared.ids.FunKey.{FunKey}
use Rattle.core_form.specs.declared.tree.Binder.{Binder}
use Rattle.core_form.specs.declared.module.Site.{Site}
use Rattle.core_sites.specs.declared.told.Told.{Told}
use Rattle.core_sites.specs.declared.told.Told.TheVariants.{Sites, Counts}
use Rattle.core_sites.specs.declared.told.Telling.{Telling}
use Rattle.core_form.specs.Core.{Expr, values, var, fun_name, literal, list, tuple, new_map, map_of, binary, fun, let_in, letrec, case, apply, call, primop, do_then, catch, try, receive, Exprs, no_expr, and_expr, MapParts, no_part, and_part, map_part, Segments, no_segment, and_segment, segment, Def, Defs, no_def, and_def, def, Clauses, no_clause, and_clause, clause}
use Rattle.core_form.specs.Scope.{Use, Scope, with_names, names_of, params_of, bound_all}
use Rattle.core_form.specs.Sites as Plain
use Rattle.core_sites.specs.Things.{expanded}
use Rattle.core_sites.specs.Gathering.{put_all, named, module_texts, first_text, later_texts}

-- uses as variables where they are used first
abbrev pub binders_of : List Use → List Binder
binders_of [] = []
binders_of (u ∷ us) = record { name = u.name; place = u.place } ∷ binders_of us

-- what a list of functions tells of a site: its place, key, parameters and captures
abbrev pub shown : Plain.Site → Site
shown x = record { place = x.place; key = x.key; params = x.params; captures = binders_of x.captures }

-- what the functions capture, by how many bindings stand behind each
abbrev pub Held : Type 0
Held = List (Option (List Use))

-- what is held, if anything
abbrev pub one_of : Option (Option (List Use)) → Option (List Use)
one_of None = None
one_of (Some o) = o

-- what the function with so many bindings behind it captures, if it is held
abbrev pub held_at : Held → ℕ → Option (List Use)
held_at st n = one_of (slice_get st n)

-- with nothing held for the numbers below n that are not there
abbrev pub padded : ℕ → Held → Held
padded n st = st ++ replicate (n - length st) None

-- the functions of a group with these captures
abbrev pub with_group : Defs → List Use → Held → Held
with_group no_def us st = st
with_group (and_def d ds) us st = with_group ds us (st ++ Some us ∷ [])

-- what is captured below l by a text that uses these
abbrev pub resolved : Held → ℕ → List Use → List Use
resolved st l us = put_all l [] (expanded (held_at st) us)

-- what the next text captures below l
abbrev pub next_captures : Held → ℕ → List (List Use) → List Use
next_captures st l ts = resolved st l (first_text ts)

-- a function as it is told
abbrev pub told_site : Place → Option FunKey → List Binder → List Use → Site
told_site p f xs us = record { place = p; key = f; params = xs; captures = binders_of us }

-- what is held inside of a group that captures these, where n bindings stand outside of it
abbrev pub group_held : Defs → ℕ → List Use → Held → Held
group_held ds n us st = with_group ds us (padded n st)

-- one function more
abbrev pub listing : Place → Option FunKey → List Binder → List Use → Told → Told
listing p f xs us (Sites out) = Sites (out ++ told_site p f xs us ∷ [])
listing p f xs us (Counts out) = Counts (out ++ length us ∷ [])

-- a definition's function
abbrev pub own_listing : Def → List Use → Told → Told
own_listing (def p f e) us out = listing p (Some f) (params_of e) us out

-- the functions of a module's definitions, which capture nothing
abbrev pub own_listings : Defs → Told → Told
own_listings no_def out = out
own_listings (and_def d ds) out = own_listings ds (own_listing d [] out)

-- what was told, and the texts behind the next
abbrev pub text_taken : Telling → Telling
text_taken s = record { told = s.told; texts = later_texts s.texts }

-- a fun more
abbrev pub fun_told : Place → List Binder → List Use → Telling → Telling
fun_told p xs us s = record { told = listing p None xs us s.told; texts = s.texts }

-- a definition's function more
abbrev pub def_told : Def → List Use → Telling → Telling
def_told d us s = record { told = own_listing d us s.told; texts = s.texts }

-- s: the functions before, and the texts of those that come
abbrev mutual
  pub listed : Expr → Scope → Held → Telling → Telling
  listed (values p es) g st s = listed_all es g st s
  listed (var p x) g st s = s
  listed (fun_name p f) g st s = s
  listed (literal p t) g st s = s
  listed (list p es e) g st s = listed e g st (listed_all es g st s)
  listed (tuple p es) g st s = listed_all es g st s
  listed (new_map p ps) g st s = listed_parts ps g st s
  listed (map_of p ps e) g st s = listed e g st (listed_parts ps g st s)
  listed (binary p ss) g st s = listed_segments ss g st s
  listed (fun p xs e) g st s =
      let h = with_names g (names_of xs) in
      listed e h st (fun_told p xs (next_captures st (length g) s.texts) (text_taken s))
  listed (let_in p xs a b) g st s = listed b (with_names g (names_of xs)) st (listed a g st s)
  listed (letrec p ds b) g st s =
      let h = named ds g in
      let us = next_captures st (length g) s.texts in
      let su = group_held ds (length g) us st in
      listed b h su (listed_defs ds h su us (text_taken s))
  listed (case p e cs) g st s = listed_clauses cs g st (listed e g st s)
  listed (apply p e es) g st s = listed_all es g st (listed e g st s)
  listed (call p m f es) g st s = listed_all es g st (listed f g st (listed m g st s))
  listed (primop p n es) g st s = listed_all es g st s
  listed (do_then p a b) g st s = listed b g st (listed a g st s)
  listed (catch p e) g st s = listed e g st s
  listed (try p a xs b ys c) g st s =
      listed c (with_names g (names_of ys)) st (listed b (with_names g (names_of xs)) st (listed a g st s))
  listed (receive p cs t b) g st s = listed b g st (listed t g st (listed_clauses cs g st s))

  pub listed_all : Exprs → Scope → Held → Telling → Telling
  listed_all no_expr g st s = s
  listed_all (and_expr e es) g st s = listed_all es g st (listed e g st s)

  pub listed_parts : MapParts → Scope → Held → Telling → Telling
  listed_parts no_part g st s = s
  listed_parts (and_part (map_part k v x) ps) g st s = listed_parts ps g st (listed v g st (listed k g st s))

  pub listed_segments : Segments → Scope → Held → Telling → Telling
  listed_segments no_segment g st s = s
  listed_segments (and_segment (segment p v z u k f) ss) g st s =
      listed_segments ss g st (listed z g st (listed v g st s))

  -- the functions inside of one that is defined
  pub listed_inside : Def → Scope → Held → Telling → Telling
  listed_inside (def p f (fun q xs e)) g st s = listed e (with_names g (names_of xs)) st s
  listed_inside (def p f e) g st s = listed e g st s

  -- all functions of a group capture the same
  pub listed_defs : Defs → Scope → Held → List Use → Telling → Telling
  listed_defs no_def g st us s = s
  listed_defs (and_def d ds) g st us s =
      listed_defs ds g st us (listed_inside d g st (def_told d us s))

  pub listed_clauses : Clauses → Scope → Held → Telling → Telling
  listed_clauses no_clause g st s = s
  listed_clauses (and_clause (clause p qs e b) cs) g st s =
      let h = with_names g (bound_all qs) in
      listed_clauses cs g st (listed b h st (listed e h st s))

-- the functions inside of a right side
abbrev pub right_listed : Expr → Scope → Held → Telling → Telling
right_listed (fun q xs e) g st s = listed e (with_names g (names_of xs)) st s
right_listed e g st s = listed e g st s

-- the functions of a group that captures these, with those in them
abbrev pub group_listed : Defs → Scope → List Use → Held → Telling → Telling
group_listed ds g us st s = listed_defs ds (named ds g) (group_held ds (length g) us st) us (text_taken s)

-- the functions inside of those that are defined
abbrev pub all_inside : Defs → Scope → Held → Telling → Telling
all_inside no_def g st s = s
all_inside (and_def d ds) g st s = all_inside ds g st (listed_inside d g st s)

-- all functions of a module
abbrev pub listed_module : Defs → Told → Told
listed_module ds out =
    let s : Telling = record { told = own_listings ds out; texts = module_texts ds (named ds []) } in
    (all_inside ds (named ds []) (with_group ds [] []) s).told
