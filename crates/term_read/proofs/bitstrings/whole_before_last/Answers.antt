use Rattle.std.proofs.Common.{◌≡◌, ◌∙◌, ◌<◌, true, List, [], ◌∷◌, length, refl, arith}
use Rattle.term_read.specs.declared.flat.Part.{Part}
use Rattle.term_read.specs.TermGrammar.{whole_before_last}
use Rattle.term_read.proofs.bitstrings.whole_before_last.Goals as goal

short : (ps : List Part) → length ps < 2 → true ≡ whole_before_last ps
short [] h = refl
short (p ∷ []) h = refl
short (p ∷ q ∷ ps) h = absurd (omega (arith, h))

pub returns : goal.returns
returns c = short c.loop-rest.rest.now c.in_default.len_below ∙ c.loop-rest.invariant
