-- Small texts with what is built of their tokens. Each tells the definition from a wrong one; the line above it says
-- which slip that is.
use Prim.Native.String.{String}
use Rattle.std.specs.Prelude.{◌≡◌, ℕ, pos, [], ◌∷◌, ◌++◌, Option, None, Some, codes}
use Rattle.erl_base.specs.declared.ids.Place.{Place}
use Rattle.erl_term.specs.Term as T
use Rattle.erl_term.specs.Terms.{terms}
use Rattle.core_lex.specs.Tokens.{tokens}
use Rattle.core_form.specs.Core as C
use Rattle.core_form.specs.View.{patterns, clauses, defs}
use Rattle.core_grammar.specs.Examples.{at}
use Rattle.core_grammar.specs.ModuleOf.{function_key}
use Rattle.core_build.specs.Building.{built}

-- what is built of a text
abbrev pub built_text : String → Option C.Module
built_text text = built (tokens (codes text))

-- of the text of a module whose only function has this body
abbrev pub built_body : String → Option C.Module
built_body text = built (tokens (codes "module 'm' [] attributes [] 'f'/0 = fun () -> " ++ codes text ++ codes " end"))

-- the module with this body, and with its first float
abbrev pub body_module : Option Place → C.Expr → C.Module
body_module first e = record {
  name = codes "m";
  exports = [];
  attributes = [];
  defs = defs (C.def (at 29) (function_key (codes "f") 0) (C.fun (at 37) [] e) ∷ []);
  floats = first;
  wide = None;
  long = None;
}

-- an integer
abbrev pub int_at : ℕ → ℕ → C.Expr
int_at n z = C.literal (at n) (T.int (pos z))

-- the atom 'a'
abbrev pub a_at : ℕ → C.Expr
a_at n = C.literal (at n) (T.atom (codes "a"))

-- a variable
abbrev pub var_at : ℕ → String → C.Expr
var_at n x = C.var (at n) (codes x)

-- the same, as the only pattern
abbrev pub any_at : ℕ → String → C.Patterns
any_at n x = patterns (C.any (at n) (codes x) ∷ [])

-- what is built of each text
pub record SmallTexts : Type 0 where
  -- exports, attributes and definitions stand in their places, and the binder is the fun's
  pub one_definition : built_text "module 'm' ['f'/1] attributes ['a' = 1] 'f'/1 = fun (X) -> X end" ≡ Some (record {
    name = codes "m";
    exports = record { key = function_key (codes "f") 1; place = at 13 } ∷ [];
    attributes = (codes "a", T.int (pos 1)) ∷ [];
    defs = defs (C.def (at 41) (function_key (codes "f") 1)
        (C.fun (at 49) (record { name = codes "X"; place = at 54 } ∷ []) (var_at 60 "X")) ∷ []);
    floats = None;
    wide = None;
    long = None;
  })
  -- the clauses, the timeout and the body behind it
  pub receives : built_body "receive X when 'a' -> 1 after 5 -> X" ≡ Some (body_module None
      (C.receive (at 47) (clauses (C.clause (at 55) (any_at 55 "X") (a_at 62) (int_at 69 1) ∷ [])) (int_at 77 5)
      (var_at 82 "X")))
  -- a bracket before a clause is its own, or its first pattern's
  pub brackets : built_body "case 0 of (<Y> when 'a' -> Y -| []) (Z -| []) when 'a' -> Z end" ≡ Some (body_module None
      (C.case (at 47) (int_at 52 0) (clauses (C.clause (at 58) (any_at 59 "Y") (a_at 67) (var_at 74 "Y")
      ∷ C.clause (at 83) (any_at 84 "Z") (a_at 98) (var_at 105 "Z") ∷ []))))
  -- a list goes on in the tail, what is one constant is one literal, and a float in an annotation is passed by
  pub constants : built_body "( {[1|[2]],3.0} -| [4.0] )" ≡ Some (body_module (Some (at 58))
      (C.literal (at 49)
      (T.tuple (terms (T.cons (T.int (pos 1)) (T.cons (T.int (pos 2)) T.nil) ∷ T.int (pos 0) ∷ [])))))
  -- no module is built of what ends too early
  pub too_short : built_text "module 'm' [] attributes []" ≡ None
