use Rattle.std.proofs.Common.{rules, chars, ◌∙◌}
use Rattle.std.proofs.lemmas.Str.{IsUtf8-past_char}
use Rattle.term_text.proofs.Walks.{name_more, name_stops, name_ends, no_name}
use Rattle.term_text.proofs.atoms.is_plain_word.Goals as goal

pub returns-then-not-goes_on : goal.returns-then-not-goes_on
returns-then-not-goes_on c =
    name_stops _ _ _ _ (chars c.args.word.now) c.loop-c.invariant.utf8 c.in-Some.ensures.steps.0 (search rules)
    c.loop-c.invariant.named

pub loop-c-preserved : goal.loop-c-preserved
loop-c-preserved c = record {
  named = name_more _ _ _ _ _ c.loop-c.invariant.utf8 c.in-Some.ensures.steps.0 (search rules)
      c.loop-c.invariant.named;
  utf8 = IsUtf8-past_char _ _ _ c.loop-c.invariant.utf8 c.in-Some.ensures.steps.0;
}

pub returns-then-begun : goal.returns-then-begun
returns-then-begun c =
    name_ends _ _ _ (chars c.args.word.now) c.in-None.ensures.steps.0.0 c.loop-c.invariant.named c.if-begun.true
    c.is_kept_word.ensures

pub returns-else-begun : goal.returns-else-begun
returns-else-begun c =
    c.if-begun.false
    ∙ no_name _ _ (chars c.args.word.now) c.in-None.ensures.steps.0.0 c.loop-c.invariant.named c.if-begun.false
