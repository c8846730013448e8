-- The numbers of the functions in an expression, and the order of what they capture (this project's own).
use Rattle.std.specs.Prelude.{◌≡◌, ℕ, List, [], ◌∷◌, map, true, false}
use Rattle.erl_base.specs.declared.ids.Place.{Place}
use Rattle.erl_term.specs.Terms.{Values}
use Rattle.world_model.specs.World as W
use Rattle.world_model.specs.World.{asked, taken}
use Rattle.world_model.specs.Run.{gives}
use Rattle.core_form.specs.Core as C
use Rattle.core_form.specs.Core.{Expr, Module, no_expr}
use Rattle.core_form.specs.Sites.{Site, module_sites}
use Rattle.core_meaning.specs.CoreRun.{Result}
use Rattle.core_examples.specs.Build.{p0, key, i, v, a, apply, tuple, fun, let_in, letrec, case, receive, same, clause, when, any, literal_like, key_like, map_with, puts, binary, segment, bits_like, part_like, def, program, own_fun, int, atom, runs, shown, script, alone, nothing_came, entry, look}

-- receive <X> when 'true' -> fun () -> {X} after apply fun (Y) -> Y (Z) -> fun () -> 'late'
abbrev pub three_funs : Expr
three_funs =
    receive (clause (any "X") (fun [] (tuple (v "X" ∷ []))) ∷ [])
    (apply (fun ("Y" ∷ []) (v "Y")) (v "Z" ∷ []))
    (fun [] (a "late"))

-- a module's function with three parameters that gives a fun, called with 1, 2 and 3
abbrev pub given_fun : Expr → Result
given_fun e = runs ("X" ∷ "Y" ∷ "Z" ∷ []) e [] (int 1 ∷ int 2 ∷ int 3 ∷ []) alone

-- it gives the fun at site 1, of n arguments, with these captured terms
abbrev pub fun_holding : ℕ → Values → Result
fun_holding n ts = shown [] [] (gives (own_fun 1 n ts))

-- letrec 'g'/0 = fun () -> X in fun () -> apply 'g'/0 (), where 'g' is named at line 7
abbrev pub by_name : Module
by_name =
    program (def "f" ("X" ∷ []) (letrec (def "g" [] (v "X") ∷ [])
    (fun [] (C.apply p0 (C.fun_name (record { line = 7; column = 9 }) (key "g" 0)) no_expr))) ∷ [])

-- where a function's captured variables are used first
abbrev pub first_uses : Site → List Place
first_uses x = map (λ u. u.place) x.captures

-- the numbers of functions, and what they capture
pub record SiteNumbers : Type 0 where
  -- the functions in the clauses of a receive have the first numbers
  pub in_clauses : runs ("Z" ∷ []) three_funs [] (int 0 ∷ []) (script (atom "m" ∷ []) [])
      ≡ record (shown (taken 0 ∷ []) (entry 2 false ∷ []) (gives (own_fun 1 0 (atom "m" ∷ [])))) {
        looks = look 0 true ∷ [];
        examined = 0 ∷ [];
      }
  -- then come those in its timeout, and then those behind it
  pub behind_timeout : runs ("Z" ∷ []) three_funs [] (int 0 ∷ []) (script [] (nothing_came ∷ []))
      ≡ shown (asked W.look nothing_came ∷ []) (entry 2 false ∷ []) (gives (own_fun 3 0 []))
  -- each clause counts on from the one before
  pub in_later_clauses :
      runs ("Z" ∷ []) (case (v "Z")
      (clause (literal_like (int 1)) (fun [] (i 1)) ∷ clause (literal_like (int 2)) (fun [] (i 2))
      ∷ clause (any "X") (fun [] (v "X")) ∷ []))
      [] (int 3 ∷ []) alone
      ≡ shown [] [] (gives (own_fun 3 0 (int 3 ∷ [])))
  -- the right side of a let is used before its body, the clauses of a receive before its timeout
  pub captures_of_let :
      given_fun (fun [] (let_in "A" (v "Y")
      (receive (when (any "B" ∷ []) (same (v "B") (v "Z")) (v "A") ∷ []) (v "X") (a "late"))))
      ≡ fun_holding 0 (int 2 ∷ int 3 ∷ int 1 ∷ [])
  -- the pairs of a map before its base
  pub captures_of_map : given_fun (fun [] (map_with (puts (i 1) (v "Y") ∷ []) (v "X")))
      ≡ fun_holding 0 (int 2 ∷ int 1 ∷ [])
  -- the value of a segment before its size
  pub captures_of_segment : given_fun (fun [] (binary (segment (v "X") (v "Y") 1 "integer" ∷ [])))
      ≡ fun_holding 0 (int 1 ∷ int 2 ∷ [])
  -- the key of a map pattern is a use
  pub captured_key : given_fun (fun ("B" ∷ []) (case (v "B") (clause (key_like (v "X") (any "A")) (v "A") ∷ [])))
      ≡ fun_holding 1 (int 1 ∷ [])
  -- and so is the size in a binary pattern
  pub captured_size :
      given_fun (fun ("B" ∷ []) (case (v "B")
      (clause (bits_like (part_like (any "A") (v "Y") 1 "integer" ∷ [])) (v "A") ∷ [])))
      ≡ fun_holding 1 (int 2 ∷ [])
  -- a function's name uses what its group captures, at the place of the name
  pub captured_by_name : map first_uses (module_sites by_name)
      ≡ [] ∷ (p0 ∷ []) ∷ (record { line = 7; column = 9 } ∷ []) ∷ []
