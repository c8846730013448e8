use Rattle.std.proofs.Common.{rules, arith}
use Rattle.std.proofs.lemmas.Str.{IsUtf8-past_char}
use Rattle.term_text.proofs.Walks.{word_more, word_ends}
use Rattle.term_text.proofs.atoms.is_spelled.Goals as goal

pub loop-c-preserved : goal.loop-c-preserved
loop-c-preserved c = record {
  same = word_more c.args.word.now _ _ c.loop-c.at c.in-Some.c _ c.loop-c.invariant.utf8 c.in-Some.ensures.steps.0
      (omega arith) (search rules) c.loop-c.invariant.same;
  within = omega arith;
  utf8 = IsUtf8-past_char _ _ _ c.loop-c.invariant.utf8 c.in-Some.ensures.steps.0;
}

pub returns : goal.returns
returns c = word_ends _ _ _ _ c.in-None.ensures.steps.0.0 c.loop-c.invariant.within c.loop-c.invariant.same
