use Rattle.std.proofs.Common.{refl}
use Rattle.term_read.proofs.OneTerm.{text_read, text_only, text_refused}
use Rattle.term_read.proofs.reader.read_term.Goals as goal

pub returns-in-Ok-clause-read : goal.returns-in-Ok-clause-read
returns-in-Ok-clause-read c = text_read _ _ c.in-Ok.ensures.value

pub returns-in-Ok-clause-only : goal.returns-in-Ok-clause-only
returns-in-Ok-clause-only c t h = text_only _ _ c.in-Ok.ensures.value t h

pub returns-in-Err-Syntax-clause-refused : goal.returns-in-Err-Syntax-clause-refused
returns-in-Err-Syntax-clause-refused c =
    let refused = rw c.in-Err-Syntax.field-0-is at c.in-Err-Syntax.ensures.value in
    (refl, λ t h. text_refused c.args.text.now refused t h)
