-- What follows from what a clause says of a value that may be there.
use Rattle.std.proofs.Common.{Option, Some, None, Result, Ok, Err, IfOk}
use Rattle.std.specs.Option.{MatchOption}

module _ {X E : Type 0} {P P' : Type 0} {Q Q' : X → Type 0} where
  pub carried : (r : Result (Option X) E) → (P → P') → ((x : X) → Q x → Q' x) →
      IfOk r (λ o. MatchOption o P Q) → IfOk r (λ o. MatchOption o P' Q')
  carried (Ok None) f g h = f h
  carried (Ok (Some x)) f g h = g x h
  carried (Err e) f g h = tt
