use Rattle.std.proofs.Common.{rules, Some, sym, ap, ◌∙◌}
use Rattle.pass_line.proofs.Carried.{carried}
use Rattle.pass_line.proofs.Fronts.{behind, front1}
use Rattle.pass_line.proofs.Reading.{names-short, names-close, names-some}
use Rattle.pass_line.proofs.reader.names.Goals as goal

pub returns-in_default : goal.returns-in_default
returns-in_default c = names-short _ c.in_default.len_below

pub returns-then-is_close_bracket : goal.returns-then-is_close_bracket
returns-then-is_close_bracket c =
    names-close _ _ _ (front1 _ _ c.in-len1-up.len_at_least c.first-item.is) (search rules)
    ∙ ap (λ x. Some (x, behind 1 c.args.tokens.now)) (sym c.new.ensures)

pub returns : goal.returns
returns c =
    let e = names-some _ _ _ (front1 _ _ c.in-len1-up.len_at_least c.first-item.is) (search rules) in
    carried c.names_from.result (λ h. e ∙ h) (λ r h. e ∙ h) c.names_from.ensures
