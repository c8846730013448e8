-- What a call of a fun leads to (Core Erlang 1.0.3, section 5: apply; funs as OTP 25 has them).
use Rattle.std.specs.Prelude.{◌≡◌, ℕ, List, [], ◌∷◌, false}
use Rattle.erl_term.specs.Term as T
use Rattle.erl_term.specs.Term.{Term}
use Rattle.erl_term.specs.Terms.{terms}
use Rattle.world_model.specs.World as W
use Rattle.world_model.specs.Run.{Outcome, gives, waits}
use Rattle.core_form.specs.Core.{Def}
use Rattle.core_meaning.specs.CoreRun.{Result}
use Rattle.core_examples.specs.Build.{i, v, apply, name_of, local, tuple, fun, letrec, def, own_fun, int, tuple_of, list_term, runs, shown, alone, entry, fails_with}
use Rattle.std.specs.Prelude.{codes}

-- 'g'/0 = fun () -> 3, at site 1, and 'h'/1 = fun (Z) -> fun (Y) -> {Y,Z}, at site 2 with its fun at site 3
abbrev pub others : List Def
others = def "g" [] (i 3) ∷ def "h" ("Z" ∷ []) (fun ("Y" ∷ []) (tuple (v "Y" ∷ v "Z" ∷ []))) ∷ []

-- 'f'/1 = fun (F) -> apply F (1)
abbrev pub applied : Term → Result
applied t = runs ("F" ∷ []) (apply (v "F") (i 1 ∷ [])) others (t ∷ []) alone

-- nothing is entered, and this request finds no reply
abbrev pub asked_for : W.Request → Result
asked_for q = shown [] [] (waits q)

-- the call of a fun that is not one of the module's own
abbrev pub apply_request : Term → W.Request
apply_request t = W.call (codes "erlang") (codes "apply") (t ∷ list_term (int 1 ∷ []) ∷ [])

-- the raise where a fun of another arity is called with 1
abbrev pub wrong_arity : Term → Outcome Term
wrong_arity t = fails_with "badarity" (tuple_of (t ∷ list_term (int 1 ∷ []) ∷ []))

-- the external fun erlang:is_atom/n
abbrev pub is_atom_fun : ℕ → Term
is_atom_fun n = T.extern (codes "erlang") (codes "is_atom") n

-- which funs are entered, which raise, and which the world calls
pub record FunCalls : Type 0 where
  -- a fun of the module with what it captured is entered, and never as a tail call
  pub own : applied (own_fun 3 1 (int 7 ∷ []))
      ≡ shown [] (entry 3 false ∷ []) (gives (tuple_of (int 1 ∷ int 7 ∷ [])))
  -- one of another arity raises
  pub own_of_another_arity : applied (own_fun 1 0 []) ≡ shown [] [] (wrong_arity (own_fun 1 0 []))
  -- a function's name that is called with another number of arguments is a fun of another arity
  pub name_of_another_arity : runs [] (apply (name_of "g" 0) (i 1 ∷ [])) others [] alone
      ≡ shown [] [] (wrong_arity (own_fun 1 0 []))
  -- a fun of another module is called by the world, though this module has a site that would fit
  pub of_another_module : let t = T.fun (codes "n") 3 1 (terms (int 7 ∷ [])) in
      applied t ≡ asked_for (apply_request t)
  -- and so is a fun of a site that the module does not have
  pub of_an_unknown_site : let t = own_fun 99 1 [] in applied t ≡ asked_for (apply_request t)
  -- an external fun is called by the world, though its function is listed
  pub external : applied (is_atom_fun 1) ≡ asked_for (W.call (codes "erlang") (codes "is_atom") (int 1 ∷ []))
  -- one of another arity raises
  pub external_of_another_arity : applied (is_atom_fun 2) ≡ shown [] [] (wrong_arity (is_atom_fun 2))
  -- a function's name as a value is a fun with the function's site, and with what its group captured
  pub name_as_value :
      runs ("X" ∷ [])
      (letrec (def "k" ("N" ∷ []) (tuple (v "X" ∷ v "N" ∷ [])) ∷ [])
      (tuple (name_of "k" 1 ∷ local "k" (i 4 ∷ []) ∷ []))) [] (int 5 ∷ []) alone
      ≡ shown [] (entry 1 false ∷ [])
      (gives (tuple_of (own_fun 1 1 (int 5 ∷ []) ∷ tuple_of (int 5 ∷ int 4 ∷ []) ∷ [])))
