-- Small words on terms: lists, atoms, tagged tuples, maps.
use Rattle.std.specs.Prelude.{ℕ, List, [], ◌∷◌, Bool, true, false, if◌then◌else◌, Option, Some, None, codes}
use Rattle.std.specs.declared.cmp.Ordering.TheVariants.{Less, Equal, Greater}
use Rattle.erl_base.specs.Names.{Name}
use Rattle.erl_term.specs.Term as T
use Rattle.erl_term.specs.Term.{Term, Terms, none, more, Pairs, no_pair, pair, Class}
use Rattle.erl_term.specs.TermOrder.{compare, same_term}

-- the values of an expression: Core Erlang's value lists
abbrev pub Values : Type 0
Values = List Term

-- rows of a term, and lists
abbrev pub terms : List Term → Terms
terms [] = none
terms (t ∷ ts) = more t (terms ts)

-- a row of pairs, from a list
abbrev pub pairs : List (Term × Term) → Pairs
pairs [] = no_pair
pairs (p ∷ ps) = pair p.0 p.1 (pairs ps)

-- the terms of a row, as a list
abbrev pub listed : Terms → List Term
listed none = []
listed (more t ts) = t ∷ listed ts

-- the pairs of a row, as a list
abbrev pub listed_pairs : Pairs → List (Term × Term)
listed_pairs no_pair = []
listed_pairs (pair k v ps) = (k, v) ∷ listed_pairs ps

-- the value of an expression that has one
abbrev pub only : Values → Term
only [] = T.nil
only (t ∷ ts) = t

-- the list with these items and this tail
abbrev pub list_of : Values → Term → Term
list_of [] t = t
list_of (v ∷ vs) t = T.cons v (list_of vs t)

-- atoms
abbrev pub word : List ℕ → Term
word a = T.atom a

-- `true` and `false` as atoms
abbrev pub truth : Bool → Term
truth true = word (codes "true")
truth false = word (codes "false")

-- the atom of a class
abbrev pub class_word : Class → Term
class_word T.error = word (codes "error")
class_word T.exit = word (codes "exit")
class_word T.throw = word (codes "throw")

-- a pair whose first element is an atom
abbrev pub tagged : Name → Term → Term
tagged a t = T.tuple (more (word a) (more t none))

-- the value of a key in a map
abbrev pub value_at : Pairs → Term → Option Term
value_at no_pair k = None
value_at (pair l v ps) k = if same_term k l then Some v else value_at ps k

-- whether a term was found
abbrev pub is_there : Option Term → Bool
is_there None = false
is_there (Some t) = true

-- the pairs of a map with this value at this key
unfoldable pub put : Term → Term → Pairs → Pairs
unfolding compare
put k v no_pair = pair k v no_pair
put k v (pair l w ps) = elim (compare k l) [
  | Less ↦ pair k v (pair l w ps)
  | Equal ↦ pair k v ps
  | Greater ↦ pair l w (put k v ps)
]

-- pairs put into a map in order: the later of two with equal keys wins
abbrev pub put_all : List (Term × Term) → Pairs → Pairs
put_all [] ps = ps
put_all (q ∷ qs) ps = put_all qs (put q.0 q.1 ps)
