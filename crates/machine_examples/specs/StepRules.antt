-- What a step begins with, and the order in which one instruction writes (after OTP 25's BEAM).
use Rattle.std.specs.Prelude.{◌≡◌, [], ◌∷◌}
use Rattle.beam_table.specs.Code.{label, return, jump, get_list, get_map_elements}
use Rattle.machine_examples.specs.Build.{atom, int, list_term, map_of, x0, r, a, end_of, returns}

-- labels, and the order of two writes
pub record StepRules : Type 0 where
  -- all labels before an instruction are passed
  pub labels : end_of (label 3 ∷ label 4 ∷ label 5 ∷ return ∷ []) (int 1 ∷ []) ≡ returns (int 1)
  pub labels_jumped_to : end_of (jump 3 ∷ label 3 ∷ label 4 ∷ return ∷ []) (int 1 ∷ []) ≡ returns (int 1)
  -- the item of a list is written before its rest
  pub item_first : end_of (get_list (r x0) x0 x0 ∷ return ∷ []) (list_term (int 1 ∷ int 2 ∷ []) ∷ [])
      ≡ returns (list_term (int 2 ∷ []))
  -- the values of keys are written in the order of the keys
  pub keys_in_order :
      end_of (get_map_elements 3 (r x0) ((a "a", x0) ∷ (a "b", x0) ∷ []) ∷ label 3 ∷ return ∷ [])
      (map_of ((atom "a", int 1) ∷ (atom "b", int 2) ∷ []) ∷ [])
      ≡ returns (int 2)
