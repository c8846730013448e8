use Rattle.std.proofs.Common.{sym}
use Rattle.std.proofs.lemmas.Str.{utf8_valid_len-IsUtf8}
use Rattle.utf8_text.proofs.Fronts.{no_error}
use Rattle.utf8_text.proofs.pieces.text_front.Goals as goal

pub returns-in-Ok-clause-len : goal.returns-in-Ok-clause-len
returns-in-Ok-clause-len c = sym (utf8_valid_len-IsUtf8 _ c.in-Ok.ensures.cases.1)

pub returns-in-Ok-clause-broken : goal.returns-in-Ok-clause-broken
returns-in-Ok-clause-broken c = no_error c.args.bytes.now
