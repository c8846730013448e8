-- The order of terms (Erlang's term order, and this project's own reading where Erlang leaves it open).
use Rattle.std.specs.Prelude.{◌≡◌, [], ◌∷◌}
use Rattle.std.specs.declared.cmp.Ordering.TheVariants.{Less, Greater}
use Rattle.erl_term.specs.Term as T
use Rattle.erl_term.specs.TermOrder.{compare}
use Rattle.core_examples.specs.Build.{atom, int, list_term, tuple_of, map_of, bytes, own_fun}

-- which of two terms comes first
pub record TermsInOrder : Type 0 where
  -- lists go item by item, whatever their lengths
  pub lists_by_items : compare (list_term (int 2 ∷ [])) (list_term (int 1 ∷ int 1 ∷ [])) ≡ Greater
  pub lists_by_lengths : compare (list_term (int 1 ∷ [])) (list_term (int 1 ∷ int 1 ∷ [])) ≡ Less
  -- tuples go by their sizes first
  pub tuples_by_sizes : compare (tuple_of (int 2 ∷ [])) (tuple_of (int 1 ∷ int 1 ∷ [])) ≡ Less
  -- a list comes before a bit string, and nil before both
  pub list_and_bits : compare (list_term (int 1 ∷ [])) (bytes (0 ∷ [])) ≡ Less
  pub bits_and_list : compare (bytes (0 ∷ [])) (list_term (int 1 ∷ [])) ≡ Greater
  pub nil_and_bits : compare T.nil (T.bits []) ≡ Less
  -- maps of one size go by all their keys, and then by their values
  pub maps_by_keys :
      compare (map_of ((atom "a", int 2) ∷ (atom "b", int 1) ∷ []))
      (map_of ((atom "a", int 1) ∷ (atom "c", int 1) ∷ []))
      ≡ Less
  pub maps_by_values :
      compare (map_of ((atom "a", int 2) ∷ (atom "b", int 1) ∷ []))
      (map_of ((atom "a", int 1) ∷ (atom "b", int 2) ∷ []))
      ≡ Greater
  pub maps_by_sizes : compare (map_of ((atom "b", int 1) ∷ [])) (map_of ((atom "a", int 1) ∷ (atom "c", int 1) ∷ []))
      ≡ Less
  -- local funs of one module go by their sites, then by their arities, then by what they captured
  pub funs_by_sites : compare (own_fun 1 5 []) (own_fun 2 0 []) ≡ Less
  pub funs_by_arities : compare (own_fun 1 5 (int 9 ∷ [])) (own_fun 1 6 (int 0 ∷ [])) ≡ Less
  pub funs_by_captures : compare (own_fun 1 5 (int 9 ∷ [])) (own_fun 1 5 (int 0 ∷ [])) ≡ Greater
