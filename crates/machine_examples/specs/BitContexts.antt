-- Matching bit strings by contexts, and building them (after OTP 25's BEAM).
use Rattle.std.specs.Prelude.{◌≡◌, ℕ, List, [], ◌∷◌, None, false}
use Rattle.erl_term.specs.Term.{Term}
use Rattle.step_machine.specs.Steps.{End, subs}
use Rattle.beam_table.specs.Code as C
use Rattle.beam_table.specs.Code.{Insn, label, move, test_heap, return, put_list, bs_start_match4, bs_get_integer2, bs_get_binary2, bs_skip_bits2, bs_test_tail2, bs_get_tail, bs_get_position, bs_set_position, bs_create_bin}
use Rattle.machine_examples.specs.Build.{atom, int, bytes, x0, x1, x2, r, a, i, unsigned_big, unasked, runs, returns, BadAfter}

-- a context in x0, behind which a jump to label 3 gives 'no'
abbrev pub matching : List Insn → List Insn
matching is = bs_start_match4 None 1 (r x0) x0 ∷ is

-- the code at label 3
abbrev pub otherwise_no : List Insn
otherwise_no = label 3 ∷ move (a "no") x0 ∷ return ∷ []

-- how it ends, and how many sub-binaries it made
abbrev pub seen_of : List Insn → List Term → End × ℕ
seen_of is ts = ((runs is ts unasked).end, subs (runs is ts unasked).log)

-- 'yes'
abbrev pub then_yes : List Insn
then_yes = move (a "yes") x0 ∷ return ∷ otherwise_no

-- a byte that is built from the number in x0
abbrev pub byte : C.Segment
byte = record { is_binary = false; number = 0; unit = 1; flags = unsigned_big; value = r x0; size = i 8 }

-- two bytes
abbrev pub two_bytes : Term
two_bytes = bytes (1 ∷ 2 ∷ [])

-- contexts of x0 and x1; the first goes to its end, the second as far as it can, and then the first to that place
abbrev pub between_contexts : List Insn
between_contexts =
    bs_start_match4 None 2 (r x0) x0 ∷ bs_start_match4 None 2 (r x1) x1 ∷ bs_skip_bits2 3 x0 (i 16) 1 unsigned_big
    ∷ bs_get_position x0 x2 2 ∷ bs_set_position x1 x2 ∷ bs_get_position x1 x2 2 ∷ bs_set_position x0 x2
    ∷ bs_get_tail x0 x0 2 ∷ return ∷ otherwise_no

-- what contexts keep, and what is counted
pub record BitContexts : Type 0 where
  -- a context does not go past the end of its bits
  pub position_past_the_end : seen_of between_contexts (two_bytes ∷ bytes (3 ∷ []) ∷ [])
      ≡ (returns (bytes (2 ∷ [])), 1)
  -- as many bits are left as are asked for, and not fewer
  pub exact_tail : seen_of (matching (bs_test_tail2 3 x0 16 ∷ then_yes)) (two_bytes ∷ []) ≡ (returns (atom "yes"), 0)
  pub shorter_tail : seen_of (matching (bs_test_tail2 3 x0 24 ∷ then_yes)) (two_bytes ∷ []) ≡ (returns (atom "no"), 0)
  -- a tail that is got stays in the context
  pub tail_stays : seen_of (matching (bs_get_tail x0 x1 1 ∷ bs_get_tail x0 x0 1 ∷ return ∷ [])) (two_bytes ∷ [])
      ≡ (returns two_bytes, 2)
  -- a part that is got is a sub-binary, and leaves the context
  pub part_is_made :
      seen_of (matching (bs_get_binary2 3 1 x0 (i 8) 1 unsigned_big x1 ∷ bs_get_tail x0 x0 1 ∷ return ∷ otherwise_no))
      (two_bytes ∷ [])
      ≡ (returns (bytes (2 ∷ [])), 2)
  -- a number has no size `all`
  pub number_of_all :
      seen_of (matching (bs_get_integer2 3 1 x0 (a "all") 8 unsigned_big x0 ∷ return ∷ otherwise_no)) (two_bytes ∷ [])
      ≡ (returns (atom "no"), 0)
  -- while what is skipped may be all
  pub skip_of_all :
      seen_of (matching (bs_skip_bits2 3 x0 (a "all") 8 unsigned_big ∷ bs_test_tail2 3 x0 0 ∷ then_yes))
      (two_bytes ∷ [])
      ≡ (returns (atom "yes"), 0)
  -- these two collect: registers above Live and the room are gone
  pub position_collects :
      BadAfter 2 (bs_start_match4 None 2 (r x0) x0 ∷ bs_get_position x0 x2 1 ∷ move (r x1) x0 ∷ [])
      (two_bytes ∷ int 1 ∷ []) unasked
  pub building_collects :
      BadAfter 1 (bs_create_bin None 1 1 x0 (byte ∷ []) ∷ move (r x1) x0 ∷ [])
      (int 1 ∷ int 2 ∷ []) unasked
  pub building_leaves_no_room :
      BadAfter 2 (test_heap 2 1 ∷ bs_create_bin None 1 1 x0 (byte ∷ []) ∷ put_list (r x0) (r x0) x0 ∷ [])
      (int 1 ∷ []) unasked
  -- a context is no position
  pub context_is_no_position :
      BadAfter 2 (bs_start_match4 None 2 (r x0) x0 ∷ move (r x0) x1 ∷ bs_set_position x0 x1 ∷ [])
      (two_bytes ∷ int 1 ∷ []) unasked
