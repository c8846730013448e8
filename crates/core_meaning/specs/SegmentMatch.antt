-- How the segments of a binary pattern take their bits from the front, one after the other, in whatever form they are
-- written (Core Erlang 1.0.3, section 5: pattern matching; OTP 25, bit syntax).
use Rattle.std.specs.Prelude.{ℕ, ◌+◌, List, [], ◌∷◌, ◌++◌, length, take, drop, Bool, Option, Some, None}
use Rattle.erl_term.specs.Term.{Term}
use Rattle.erl_term.specs.Segments.{Shape, taken_size, segment_value}

-- what is done with a value, if there is one
abbrev pub if_there : {A B : Type 0} → Option A → (A → B) → B → B
if_there None f b = b
if_there (Some a) f b = f a

-- what is bound by two parts
abbrev pub both : {A : Type 0} → Option (List A) → Option (List A) → Option (List A)
both None b = None
both (Some xs) None = None
both (Some xs) (Some ys) = Some (xs ++ ys)

-- a binding more
abbrev pub also : {A : Type 0} → A → Option (List A) → Option (List A)
also a None = None
also a (Some xs) = Some (a ∷ xs)

-- a segment: how its bits are read; its size, where variables have these values; what its value binds, if it is the one
-- that is wanted; and what the sizes of later segments see of it
pub record Segment (Env Binding : Type 0) : Type 0 where
  pub shape : Shape
  pub size : Env → Option Term
  pub binds : Term → Option (List Binding)
  pub shows : Term → Env → Env

module _ {Env Binding : Type 0} where
  -- what segments bind that match all of these bits
  abbrev pub match_segs : List (Segment Env Binding) → Env → List Bool → Option (List Binding)
  match_segs [] env [] = Some []
  match_segs [] env (b ∷ bs) = None
  match_segs (x ∷ xs) env bs =
      if_there (taken_size x.shape (x.size env) (length bs)) (λ n.
      let t = segment_value x.shape (take n bs) in
      both (x.binds t) (match_segs xs (x.shows t env) (drop n bs))) None

  -- how many sub-binaries they make, each this many where its bits can be taken, all earlier ones matching
  abbrev pub seg_cuts : List ℕ → List (Segment Env Binding) → Env → List Bool → ℕ
  seg_cuts (k ∷ ks) (x ∷ xs) env bs =
      if_there (taken_size x.shape (x.size env) (length bs)) (λ n.
      let t = segment_value x.shape (take n bs) in
      k + if_there (x.binds t) (λ ws. seg_cuts ks xs (x.shows t env) (drop n bs)) 0) 0
  seg_cuts _ _ env bs = 0
