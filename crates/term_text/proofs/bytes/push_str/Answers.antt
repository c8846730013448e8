use Rattle.std.proofs.Common.{rules}
use Rattle.std.proofs.lemmas.Str.{IsUtf8-past_char}
use Rattle.term_text.proofs.Walks.{char_added, chars_ended}
use Rattle.term_text.proofs.bytes.push_str.Goals as goal

pub loop-c-preserved : goal.loop-c-preserved
loop-c-preserved c = record {
  utf8 = IsUtf8-past_char _ _ _ c.loop-c.invariant.utf8 c.in-Some.ensures.steps.0;
  added = char_added _ _ _ _ _ _ c.loop-c.invariant.utf8 c.in-Some.ensures.steps.0
      (search rules) c.loop-c.invariant.added;
}

pub returns : goal.returns
returns c = chars_ended _ _ _ c.in-None.ensures.steps.0.0 c.loop-c.invariant.added
