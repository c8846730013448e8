-- Values on their way into operations and calls.
use Rattle.std.specs.Prelude.{ℕ, suc, List, [], ◌∷◌, slice_get, Bool, true, false, not, ◌&&◌, ◌||◌, eqb, Option, Some, None, if◌then◌else◌}
use Rattle.erl_base.specs.Lists.{among}
use Rattle.erl_term.specs.Term as T
use Rattle.erl_term.specs.Term.{Term}
use Rattle.erl_term.specs.Terms.{Values}
use Rattle.erl_term.specs.Segments.{Shape, built, joined}
use Rattle.bif_table.specs.Builtins as B
use Rattle.world_model.specs.MapUpdate.{Put}
use Rattle.step_machine.specs.Frames.{MatchContext, rest_of}
use Rattle.ssa_form.specs.Storage.{Held, term, context, Mode, tail}

-- a call is the body's result
abbrev pub is_tail : Mode → Bool
is_tail tail = true
is_tail _ = false

-- Values that are terms.

-- a term before terms
abbrev pub also : Held → Option Values → Option Values
also (term t) (Some ts) = Some (t ∷ ts)
also _ _ = None

-- all of them, if all are terms
abbrev pub terms_of : List Held → Option Values
terms_of [] = Some []
terms_of (h ∷ hs) = also h (terms_of hs)

-- Local calls. A context that is handed on stands for the rest of its bits. Only a call that ends the body hands one
-- on, once, and only at a parameter where one may come.

-- whether a context may come at a parameter
abbrev pub is_reached : List (ℕ × ℕ) → ℕ → ℕ → Bool
is_reached [] n i = false
is_reached (p ∷ ps) n i = (eqb p.0 n && eqb p.1 i) || is_reached ps n i

-- whether this context is held
abbrev pub is_context : ℕ → Held → Bool
is_context n (context m) = eqb n m
is_context n _ = false

-- whether it is held again
abbrev pub has_context : ℕ → List Held → Bool
has_context n [] = false
has_context n (h ∷ hs) = is_context n h || has_context n hs

-- the rest of its bits
abbrev pub rest_in : Option MatchContext → Option Term
rest_in None = None
rest_in (Some w) = Some (T.bits (rest_of w))

-- a term, or a context that may be handed on
abbrev pub one_handed : Bool → List MatchContext → Held → List Held → Option Term
one_handed may cs (term t) hs = Some t
one_handed may cs (context n) hs = if may && not (has_context n hs) then rest_in (slice_get cs n) else None
one_handed may cs _ hs = None

-- a term before terms, if both are there
abbrev pub with_term : Option Term → Option Values → Option Values
with_term (Some t) (Some ts) = Some (t ∷ ts)
with_term _ _ = None

-- operands from number i on
abbrev pub handed_from : ℕ → Bool → List MatchContext → List (ℕ × ℕ) → ℕ → List Held → Option Values
handed_from i ends cs reached n [] = Some []
handed_from i ends cs reached n (h ∷ hs) =
    with_term (one_handed (ends && is_reached reached n i) cs h hs) (handed_from (suc i) ends cs reached n hs)

-- all operands of a call
abbrev pub handed : Bool → List MatchContext → List (ℕ × ℕ) → ℕ → List Held → Option Values
handed ends cs reached n hs = handed_from 0 ends cs reached n hs

-- a call by terms of a function that always raises
abbrev pub raises_for_sure : Term → Term → ℕ → Bool
raises_for_sure (T.atom m) (T.atom f) n = B.never_returns m f n
raises_for_sure _ _ n = false

-- Operands in groups: keys with values, values with sizes.

-- a pair before pairs
abbrev pub with_put : Put → Option (List Put) → Option (List Put)
with_put q None = None
with_put q (Some qs) = Some (q ∷ qs)

-- keys with values
abbrev pub puts_of : Bool → Values → Option (List Put)
puts_of exact [] = Some []
puts_of exact (k ∷ []) = None
puts_of exact (k ∷ v ∷ vs) = with_put (record { key = k; value = v; exact = exact }) (puts_of exact vs)

-- a segment's bits before the others'
abbrev pub with_part : Option (List Bool) → Option (Option (List Bool)) → Option (Option (List Bool))
with_part p None = None
with_part p (Some ps) = Some (joined p ps)

-- the sub-binaries that a part of a bit string makes: none where its variable is one of these, whose parts are handed
-- on
abbrev pub part_cuts : List ℕ → Option ℕ → ℕ
part_cuts hs None = 1
part_cuts hs (Some v) = if among v hs then 0 else 1

-- the bits of segments; inside an answer, None is badarg
abbrev pub parts_of : List Shape → Values → Option (Option (List Bool))
parts_of [] [] = Some (Some [])
parts_of (h ∷ hs) (v ∷ n ∷ vs) = with_part (built h v n) (parts_of hs vs)
parts_of _ _ = None
