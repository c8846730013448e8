use Rattle.std.proofs.Common.{◌≡◌, ◌∷◌, [], rules, sym, subst}
use Rattle.core_syntax.specs.declared.item.Shape.TheVariants.{Other}
use Rattle.core_syntax.specs.declared.item.Part.TheVariants as P
use Rattle.core_syntax.specs.declared.item.Item.TheVariants as I
use Rattle.core_syntax.specs.Beginnings.{at}
use Rattle.core_syntax.proofs.Accepting.{Reading, reading_start, goes_on_at, syntax_at, nesting_at, text_at_end}
use Rattle.core_syntax.proofs.check.check_syntax.Goals as goal

pub loop-token-init : goal.loop-token-init
loop-token-init c =
    let e : c.push-2.new.self ≡ at 0 (I.Part P.Module) ∷ at 0 I.End ∷ [] = search rules in
    subst (λ l. Reading [] l Other) (sym e) reading_start

pub returns-in-Refused-clause-refused : goal.returns-in-Refused-clause-refused
returns-in-Refused-clause-refused c =
    syntax_at c.args.tokens.now c.loop-token.token-index c.token-item.result _ _ _ _ _ c.loop-token.invariant
    (search rules) (search rules) c.in_ok-now.ensures c.in-Refused.is c.fault.ensures

pub returns-in-TooDeep-clause-refused : goal.returns-in-TooDeep-clause-refused
returns-in-TooDeep-clause-refused c =
    nesting_at c.args.tokens.now c.loop-token.token-index c.token-item.result _ _ _ _ _ c.loop-token.invariant
    (search rules) (search rules) c.in_ok-now.ensures c.in-TooDeep.is c.fault-in-TooDeep.ensures

pub loop-token-preserved : goal.loop-token-preserved
loop-token-preserved c =
    goes_on_at c.args.tokens.now c.loop-token.token-index c.token-item.result _ _ _ _ _ c.loop-token.invariant
    (search rules) (search rules) c.in_ok-now.ensures c.in-Taken.is

pub returns-clause-ok : goal.returns-clause-ok
returns-clause-ok c =
    text_at_end c.args.tokens.now c.loop-token.token-index _ _ c.loop-token.invariant (search rules) (search rules)
    c.requires.closed
