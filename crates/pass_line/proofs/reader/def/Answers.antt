use Rattle.std.proofs.Common.{rules, ◌≡◌, ◌++◌, ◌∷◌, [], List, sym, ap, ◌∙◌}
use Rattle.erl_base.specs.declared.ids.Place.{Place}
use Rattle.core_form.specs.declared.module.FunName.{FunName}
use Rattle.core_form.specs.Core as Plain
use Rattle.core_form.specs.View.{view, def_view}
use Rattle.pass_line.specs.PlainText.{params, body, defs, def_of, value_of}
use Rattle.pass_line.proofs.Fronts.{behind, front2}
use Rattle.pass_line.proofs.Reading.{body-short, body-no_arrow, body-no_value, body-value}
use Rattle.pass_line.proofs.reader.def.Goals as goal

pub returns-in_default-rest-clause-value : goal.returns-in_default-rest-clause-value
returns-in_default-rest-clause-value c =
    let h : (ds : List Plain.Def) (f : FunName) (p : Place)
    → params ds f p c.args.tokens.now ≡ body ds f p c.in-Some.xs c.in-Some.rest.now = λ ds f p. search rules in
    λ ds. h ds c.args.name c.args.place ∙ body-short ds _ _ _ _ c.in_default-rest.len_below

pub returns-then-not-is_arrow-clause-value : goal.returns-then-not-is_arrow-clause-value
returns-then-not-is_arrow-clause-value c =
    let h : (ds : List Plain.Def) (f : FunName) (p : Place)
    → params ds f p c.args.tokens.now ≡ body ds f p c.in-Some.xs c.in-Some.rest.now = λ ds f p. search rules in
    λ ds. h ds c.args.name c.args.place
    ∙ body-no_arrow ds _ _ _ _ _ _ _ (front2 _ _ _ c.in-len2-up.len_at_least c.arrow-item.is c.first-item.is)
    (search rules)

pub returns-in_default-2-clause-value : goal.returns-in_default-2-clause-value
returns-in_default-2-clause-value c =
    let h : (ds : List Plain.Def) (f : FunName) (p : Place)
    → params ds f p c.args.tokens.now ≡ body ds f p c.in-Some.xs c.in-Some.rest.now = λ ds f p. search rules in
    λ ds. h ds c.args.name c.args.place
    ∙ body-no_value ds _ _ _ _ _ _ _ (front2 _ _ _ c.in-len2-up.len_at_least c.arrow-item.is c.first-item.is)
    (search rules) (search rules)

pub returns-clause-value : goal.returns-clause-value
returns-clause-value c =
    let h : (ds : List Plain.Def) (f : FunName) (p : Place)
    → params ds f p c.args.tokens.now ≡ body ds f p c.in-Some.xs c.in-Some.rest.now = λ ds f p. search rules in
    let v : view c.in-Some-2.value ≡ value_of c.first-item.result.kind c.first-item.result.place = search rules in
    let q : def_view c.in_ok-def.def ≡ def_of c.args.name c.args.place c.in-Some.xs c.first-item.result =
    c.in_ok-def.ensures ∙ ap
    (λ e. Plain.def c.args.name.place c.args.name.key (Plain.fun c.args.place c.in-Some.xs e)) v in
    λ ds. h ds c.args.name c.args.place
    ∙ body-value ds _ _ _ _ _ _ _ (front2 _ _ _ c.in-len2-up.len_at_least c.arrow-item.is c.first-item.is)
    (search rules) (search rules)
    ∙ ap (λ d. defs (ds ++ d ∷ []) (behind 2 c.in-Some.rest.now)) (sym q)
