use Rattle.std.proofs.Common.{◌∙◌}
use Rattle.core_chars.proofs.Names.{chars_of_spelled, named, spelled_whole}
use Rattle.core_chars.proofs.quoted.name_in.Goals as goal

pub returns : goal.returns
returns c =
    named _ _ _ (chars_of_spelled _ _ c.as_str.utf8
    (c.as_str.ensures.value ∙ spelled_whole _ c.args.text.now c.loop-c.c-index c.loop-c-test.false
    c.loop-c.invariant)) c.from_text.ensures
