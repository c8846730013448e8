use Rattle.std.proofs.Common.{arith}
use Rattle.std.proofs.lemmas.List.{length_push}
use Rattle.std.proofs.lemmas.Str.{IsUtf8-past_char}
use Rattle.utf8_text.proofs.Places.{place_more, place_end, line_more, column_more}
use Rattle.utf8_text.proofs.pieces.end_of.Goals as goal

pub loop-c-preserved : goal.loop-c-preserved
loop-c-preserved c = record {
  rest = place_more _ _ _ _ _ _ c.loop-c.invariant.utf8 c.in-Some.ensures.steps.0 c.past-place.ensures
      c.loop-c.invariant.rest;
  utf8 = IsUtf8-past_char _ _ _ c.loop-c.invariant.utf8 c.in-Some.ensures.steps.0;
  line = let l = line_more _ _ _ _ c.past-place.ensures c.loop-c.invariant.line
      in omega (arith, l, length_push c.loop-c.yielded c.in-Some.c);
  column = let l = column_more _ _ _ _ c.past-place.ensures c.loop-c.invariant.column
      in omega (arith, l, length_push c.loop-c.yielded c.in-Some.c);
}

pub returns : goal.returns
returns c = place_end _ _ _ c.in-None.ensures.steps.0.0 c.loop-c.invariant.rest
