use Rattle.std.proofs.lemmas.List.{drop_more, drop_all}
use Rattle.core_actions.proofs.PatternRows.{code_pattern_pushed, sound_pushed, patterns_done}
use Rattle.core_actions.proofs.pattern_lists.code_patterns.Goals as goal

pub loop-code-preserved : goal.loop-code-preserved
loop-code-preserved c =
    let cons = drop_more c.args.codes.now c.loop-code.code-index _ c.loop-code-test.true in
    record {
      read = code_pattern_pushed c.args.place _ _ _ _ _ _ _ cons c.in_ok-push.ensures.ok c.code_pattern.ensures.value
          c.loop-code.invariant.read;
      sound = sound_pushed _ _ _ c.in_ok-push.ensures.ok c.loop-code.invariant.sound c.code_pattern.ensures.sound;
    }

pub returns-clause-value : goal.returns-clause-value
returns-clause-value c =
    patterns_done c.args.place c.loop-code.items _ _ (drop_all _ _ c.loop-code-test.false)
    c.loop-code.invariant.read
