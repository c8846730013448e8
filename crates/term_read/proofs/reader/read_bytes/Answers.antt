use Rattle.std.proofs.Common.{◌∙◌, ap, chars}
use Rattle.term_read.proofs.OneTerm.{gives_text}
use Rattle.term_read.proofs.reader.read_bytes.Goals as goal

pub returns-in_ok-characters-in-Ok-clause-value : goal.returns-in_ok-characters-in-Ok-clause-value
returns-in_ok-characters-in-Ok-clause-value c =
    gives_text _ _ _ c.in-Ok.ensures.cases.1
    (c.as_slice.ensures.value ∙ c.in_ok-characters-in-Ok.ensures
    ∙ ap chars c.in-Ok.ensures.cases.0) c.read_whole.ensures.value
