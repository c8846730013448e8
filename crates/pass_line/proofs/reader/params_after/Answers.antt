use Rattle.std.proofs.Common.{rules, ◌≡◌, ◌++◌, ◌∷◌, [], sym, ap, ◌∙◌, arith}
use Rattle.pass_line.specs.PlainText.{binder, params_after}
use Rattle.pass_line.proofs.Fronts.{behind, front1, length-behind}
use Rattle.pass_line.proofs.Reading.{params_after-close, params_after-other, params_after-end, params_after-no_variable, params_after-variable, params_after-short}
use Rattle.pass_line.proofs.reader.params_after.Goals as goal

pub returns-then-is_close_paren-clause-value : goal.returns-then-is_close_paren-clause-value
returns-then-is_close_paren-clause-value c = λ ds f p.
    sym (c.loop-rest.invariant.same ds f p)
    ∙ params_after-close ds f p _ _ _ _ (front1 _ _ c.in-len1-up.len_at_least c.separator-item.is) (search rules)

pub returns-then-not-is_comma-clause-value : goal.returns-then-not-is_comma-clause-value
returns-then-not-is_comma-clause-value c = λ ds f p.
    sym (c.loop-rest.invariant.same ds f p)
    ∙ params_after-other ds f p _ _ _ _ (front1 _ _ c.in-len1-up.len_at_least c.separator-item.is)
    (search rules) (search rules)

pub returns-in_default-later-clause-value : goal.returns-in_default-later-clause-value
returns-in_default-later-clause-value c = λ ds f p.
    sym (c.loop-rest.invariant.same ds f p)
    ∙ params_after-end ds f p _ _ _ _ (front1 _ _ c.in-len1-up.len_at_least c.separator-item.is) (search rules)
    (search rules) c.in_default-later.len_below

pub returns-in_default-2-clause-value : goal.returns-in_default-2-clause-value
returns-in_default-2-clause-value c = λ ds f p.
    sym (c.loop-rest.invariant.same ds f p)
    ∙ params_after-no_variable ds f p _ _ _ _ (front1 _ _ c.in-len1-up.len_at_least c.separator-item.is)
    _ _ (front1 _ _ c.in-len1-up-later.len_at_least c.variable-item.is) (search rules) (search rules) (search rules)

pub loop-rest-preserved : goal.loop-rest-preserved
loop-rest-preserved c =
    let q : c.push.new.self ≡ c.loop-rest.xs ++ binder c.variable-item.result ∷ [] = search rules in
    record {
      same = λ ds f p.
          ap (λ x. params_after ds f p x (behind 1 (behind 1 c.loop-rest.rest.now))) q
          ∙ sym (params_after-variable ds f p _ _ _ _ (front1 _ _ c.in-len1-up.len_at_least c.separator-item.is)
          _ _ (front1 _ _ c.in-len1-up-later.len_at_least c.variable-item.is) (search rules) (search rules)
          (search rules))
          ∙ c.loop-rest.invariant.same ds f p;
      shorter = omega (arith, length-behind 1 c.loop-rest.rest.now, length-behind 1 (behind 1 c.loop-rest.rest.now));
    }

pub returns-clause-value : goal.returns-clause-value
returns-clause-value c =
    λ ds f p. sym (c.loop-rest.invariant.same ds f p) ∙ params_after-short ds f p _ _ c.in_default.len_below
