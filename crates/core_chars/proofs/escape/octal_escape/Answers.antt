use Rattle.core_chars.proofs.Values.{octal_read}
use Rattle.core_chars.proofs.escape.octal_escape.Goals as goal

pub returns-clause-value : goal.returns-clause-value
returns-clause-value c =
    octal_read _ _ _ _ _ c.front-most.ensures c.octal_len-size.ensures.len c.code_of.ensures c.code_escape.ensures.value
