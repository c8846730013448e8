use Rattle.core_chars.proofs.Values.{short_hex_read}
use Rattle.core_chars.proofs.escape.short_hex_escape.Goals as goal

pub returns-clause-value : goal.returns-clause-value
returns-clause-value c =
    short_hex_read _ _ _ _ _ c.front-most.ensures c.hex_len.ensures.len c.if-hex_len-ne2.false c.code_of.ensures
    c.code_escape.ensures.value
