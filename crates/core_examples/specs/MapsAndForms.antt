-- Maps, and forms of expressions and patterns that are rare (Core Erlang 1.0.3, section 5; maps as OTP 25).
use Rattle.std.specs.Prelude.{◌≡◌, [], ◌∷◌}
use Rattle.erl_term.specs.Term as T
use Rattle.erl_term.specs.Term.{Term}
use Rattle.world_model.specs.Run.{gives}
use Rattle.core_form.specs.Core.{Expr}
use Rattle.core_meaning.specs.CoreRun.{Result}
use Rattle.core_examples.specs.Build.{i, v, a, tuple, list, new_map, map_with, puts, replaces, case, clause, any, alias, list_like, tuple_like, key_like, int, atom, tuple_of, list_term, map_of, runs, shown, alone, fails_with}

-- an expression of X and Y, called with these terms
abbrev pub of_two : Expr → Term → Term → Result
of_two e t u = runs ("X" ∷ "Y" ∷ []) e [] (t ∷ u ∷ []) alone

-- ~{'b'=>1, 'a'=>2, 'a':=3, 'b'=>4|X}~
abbrev pub twice : Expr
twice =
    map_with (puts (a "b") (i 1) ∷ puts (a "a") (i 2) ∷ replaces (a "a") (i 3) ∷ puts (a "b") (i 4) ∷ []) (v "X")

-- case X of <B = [H|R]> -> {R,B,H}; <{H}> -> H; <Z> -> 'other'
abbrev pub apart : Expr
apart =
    case (v "X")
    (clause (alias "B" (list_like (any "H" ∷ []) (any "R"))) (tuple (v "R" ∷ v "B" ∷ v "H" ∷ []))
    ∷ clause (tuple_like (any "H" ∷ [])) (v "H") ∷ clause (any "Z") (a "other") ∷ [])

-- maps, lists, aliases and keys
pub record MapsAndForms : Type 0 where
  -- a later pair replaces the value that an earlier one put at its key
  pub later_pair : of_two twice (map_of []) (int 0)
      ≡ shown [] [] (gives (map_of ((atom "a", int 3) ∷ (atom "b", int 4) ∷ [])))
  -- and the values that the base had
  pub base_value : of_two twice (map_of ((atom "b", int 0) ∷ (atom "c", int 1) ∷ [])) (int 0)
      ≡ shown [] [] (gives (map_of ((atom "a", int 3) ∷ (atom "b", int 4) ∷ (atom "c", int 1) ∷ [])))
  -- a map without a base begins empty, so that no key can be replaced
  pub no_base : of_two (new_map (puts (i 1) (v "X") ∷ [])) (int 5) (int 0)
      ≡ shown [] [] (gives (map_of ((int 1, int 5) ∷ [])))
  pub no_base_to_replace : of_two (new_map (replaces (i 1) (v "X") ∷ [])) (int 5) (int 0)
      ≡ shown [] [] (fails_with "badkey" (int 1))
  -- an alias names the whole term; a list pattern takes the first item and the rest
  pub aliased_list : of_two apart (list_term (int 1 ∷ int 2 ∷ [])) (int 0)
      ≡ shown [] [] (gives (tuple_of (list_term (int 2 ∷ []) ∷ list_term (int 1 ∷ int 2 ∷ []) ∷ int 1 ∷ [])))
  -- nil has no first item, and a tuple pattern wants a tuple of its width
  pub no_item : of_two apart T.nil (int 0) ≡ shown [] [] (gives (atom "other"))
  pub another_width : of_two apart (tuple_of (int 1 ∷ int 2 ∷ [])) (int 0) ≡ shown [] [] (gives (atom "other"))
  -- a list goes on with its tail
  pub list_with_tail : of_two (list (i 1 ∷ v "X" ∷ []) (v "Y")) (int 2) (list_term (int 3 ∷ []))
      ≡ shown [] [] (gives (list_term (int 1 ∷ int 2 ∷ int 3 ∷ [])))
  -- the key of a map pattern can be a variable
  pub key_variable : of_two (case (v "Y") (clause (key_like (v "X") (any "A")) (v "A") ∷ [])) (int 1)
      (map_of ((int 0, atom "no") ∷ (int 1, atom "yes") ∷ []))
      ≡ shown [] [] (gives (atom "yes"))
