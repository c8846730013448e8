use Rattle.std.proofs.Common.{sym, ap, ◌∙◌, Some, None, if◌then◌else◌}
use Rattle.pass_line.proofs.Reading.{defs-short, defs-long, defs-two}
use Rattle.pass_line.proofs.reader.is_end.Goals as goal

pub returns-in_default : goal.returns-in_default
returns-in_default c = λ ds. defs-short ds _ c.in_default.len_below

pub returns-in_default-2 : goal.returns-in_default-2
returns-in_default-2 c = λ ds. defs-long ds _ c.requires c.in_default.len_at_least

pub returns : goal.returns
returns c = λ ds.
    defs-two ds _ _ _ c.in-len2.len_at_least c.in-len2.len_below c.word-item.is c.last-item.is
    ∙ ap (λ b. if b then Some ds else None) (sym c.ends.ensures)
