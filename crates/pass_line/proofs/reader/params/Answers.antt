use Rattle.std.proofs.Common.{rules, ◌≡◌, ◌∷◌, [], sym, ap, ◌∙◌}
use Rattle.pass_line.specs.PlainText.{binder, params_after, body}
use Rattle.pass_line.proofs.Carried.{carried}
use Rattle.pass_line.proofs.Fronts.{behind, front1}
use Rattle.pass_line.proofs.Reading.{params-close, params-variable, params-no_variable, params-short}
use Rattle.pass_line.proofs.reader.params.Goals as goal

pub returns-in_default-clause-value : goal.returns-in_default-clause-value
returns-in_default-clause-value c = λ ds f p. params-short ds f p _ c.in_default.len_below

pub returns-then-is_close_paren-clause-value : goal.returns-then-is_close_paren-clause-value
returns-then-is_close_paren-clause-value c = λ ds f p.
    params-close ds f p _ _ _ (front1 _ _ c.in-len1-up.len_at_least c.first-item.is) (search rules)
    ∙ ap (λ x. body ds f p x (behind 1 c.args.tokens.now)) (sym c.new-xs.ensures)

pub returns-in_default-2-clause-value : goal.returns-in_default-2-clause-value
returns-in_default-2-clause-value c = λ ds f p.
    params-no_variable ds f p _ _ _ (front1 _ _ c.in-len1-up.len_at_least c.first-item.is) (search rules) (search rules)

pub returns-clause-value : goal.returns-clause-value
returns-clause-value c =
    let q : c.push.new.self ≡ binder c.first-item.result ∷ [] = search rules in
    carried c.params_after.result
    (λ h ds f p. params-variable ds f p _ _ _ (front1 _ _ c.in-len1-up.len_at_least c.first-item.is)
    (search rules) (search rules)
    ∙ ap (λ x. params_after ds f p x (behind 1 c.args.tokens.now)) (sym q) ∙ h ds f p)
    (λ r h ds f p. params-variable ds f p _ _ _ (front1 _ _ c.in-len1-up.len_at_least c.first-item.is)
    (search rules) (search rules)
    ∙ ap (λ x. params_after ds f p x (behind 1 c.args.tokens.now)) (sym q) ∙ h ds f p)
    c.params_after.ensures.value
