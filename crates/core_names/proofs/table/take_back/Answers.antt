use Rattle.std.proofs.Common.{◌≡◌, List, [], ◌∷◌, ◌++◌, Option, Some, None, MatchOption, sym, ap, ◌∙◌, length, arith, length-append}
use Rattle.core_names.specs.declared.table.Binding.{Binding}
use Rattle.core_names.proofs.Rows.{taken_off}
use Rattle.core_names.proofs.table.take_back.Goals as goal

popped : (old new others : List Binding) (last : Binding) (o : Option Binding)
    → MatchOption o ((old ≡ []) × (new ≡ [])) (λ b. old ≡ new ++ b ∷ []) → old ≡ others ++ last ∷ [] → new ≡ others
popped old new others last None h e =
    let k = ap length (sym h.0 ∙ e) in let l = length-append others (last ∷ []) in absurd (omega (arith, k, l))
popped old new others last (Some b) h e = taken_off others new last b (sym e ∙ h)

pub returns : goal.returns
returns c others last e = popped _ _ others last c.pop.result c.pop.ensures e
