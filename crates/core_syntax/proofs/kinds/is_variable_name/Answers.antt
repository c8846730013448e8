use Rattle.std.proofs.Common.{rules}
use Rattle.std.proofs.lemmas.Str.{IsUtf8-past_char}
use Rattle.core_syntax.proofs.Names.{name_more, name_stops, name_ends}
use Rattle.core_syntax.proofs.kinds.is_variable_name.Goals as goal

pub returns-then-not-goes_on : goal.returns-then-not-goes_on
returns-then-not-goes_on c =
    name_stops _ _ _ _ _ c.loop-c.invariant.utf8 c.in-Some.ensures.steps.0 (search rules) c.loop-c.invariant.named

pub loop-c-preserved : goal.loop-c-preserved
loop-c-preserved c = record {
  named = name_more _ _ _ _ _ c.loop-c.invariant.utf8 c.in-Some.ensures.steps.0 (search rules)
      c.loop-c.invariant.named;
  utf8 = IsUtf8-past_char _ _ _ c.loop-c.invariant.utf8 c.in-Some.ensures.steps.0;
}

pub returns : goal.returns
returns c = name_ends _ _ _ c.in-None.ensures.steps.0.0 c.loop-c.invariant.named
