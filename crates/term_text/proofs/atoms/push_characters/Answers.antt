use Rattle.std.proofs.lemmas.Str.{IsUtf8-past_char}
use Rattle.term_text.proofs.Walks.{quoted_added, quoted_ended}
use Rattle.term_text.proofs.atoms.push_characters.Goals as goal

pub loop-c-preserved : goal.loop-c-preserved
loop-c-preserved c = record {
  utf8 = IsUtf8-past_char _ _ _ c.loop-c.invariant.utf8 c.in-Some.ensures.steps.0;
  added = quoted_added _ _ _ _ _ _ c.loop-c.invariant.utf8 c.in-Some.ensures.steps.0
      c.in_ok-push_character.ensures c.loop-c.invariant.added;
}

pub returns : goal.returns
returns c = quoted_ended _ _ _ c.in-None.ensures.steps.0.0 c.loop-c.invariant.added
