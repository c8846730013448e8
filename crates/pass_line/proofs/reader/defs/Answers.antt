use Rattle.std.proofs.Common.{rules, ◌≡◌, ◌++◌, ◌∷◌, [], None, List, map, sym, ap, ◌∙◌}
use Rattle.std.proofs.lemmas.List.{map-append}
use Rattle.core_form.specs.Core as Plain
use Rattle.core_form.specs.View.{def_view}
use Rattle.pass_line.specs.PlainText.{fun_name, defs, params}
use Rattle.pass_line.proofs.Fronts.{behind, front6}
use Rattle.pass_line.proofs.Reading.{defs-open, defs-no_name, defs-no_fun}
use Rattle.pass_line.proofs.reader.defs.Goals as goal

pub returns-in_default-2 : goal.returns-in_default-2
returns-in_default-2 c =
    sym c.loop-rest.invariant
    ∙ defs-no_name _ _ _ _ _ _ _ _ _
    (front6 _ _ _ _ _ _ _ c.in-len6-up.len_at_least c.name-item.is c.slash-item.is c.number-item.is c.equals-item.is
    c.word-item.is c.paren-item.is) (search rules)

pub returns-then-not-opens_fun : goal.returns-then-not-opens_fun
returns-then-not-opens_fun c =
    sym c.loop-rest.invariant
    ∙ defs-no_fun _ _ _ _ _ _ _ _ _
    (front6 _ _ _ _ _ _ _ c.in-len6-up.len_at_least c.name-item.is c.slash-item.is c.number-item.is c.equals-item.is
    c.word-item.is c.paren-item.is)
    (search rules) (search rules)

pub returns-in_default-3 : goal.returns-in_default-3
returns-in_default-3 c =
    let f : c.in-Some.named ≡ fun_name c.name-item.result c.number-item.result = search rules in
    let h : (ds : List Plain.Def) → params ds c.in-Some.named c.word-item.result.place (behind 6 c.loop-rest.rest.now)
    ≡ None = λ ds. search rules in
    sym c.loop-rest.invariant
    ∙ defs-open _ _ _ _ _ _ _ _ _
    (front6 _ _ _ _ _ _ _ c.in-len6-up.len_at_least c.name-item.is c.slash-item.is c.number-item.is c.equals-item.is
    c.word-item.is c.paren-item.is)
    (search rules) (search rules)
    ∙ ap (λ x. params (map def_view c.loop-rest.found) x c.word-item.result.place (behind 6 c.loop-rest.rest.now))
    (sym f)
    ∙ h (map def_view c.loop-rest.found)

pub loop-rest-preserved : goal.loop-rest-preserved
loop-rest-preserved c =
    let f : c.in-Some.named ≡ fun_name c.name-item.result c.number-item.result = search rules in
    let h : (ds : List Plain.Def) → params ds c.in-Some.named c.word-item.result.place (behind 6 c.loop-rest.rest.now)
    ≡ defs (ds ++ def_view c.in-Some-2.def ∷ []) c.in-Some-2.more.now = λ ds. search rules in
    let q : map def_view c.push.new.self ≡ map def_view c.loop-rest.found ++ def_view c.in-Some-2.def ∷ [] =
    ap (map def_view) (c.in_ok-push.ensures.ok) ∙ map-append def_view c.loop-rest.found (c.in-Some-2.def ∷ []) in
    ap (λ x. defs x c.in-Some-2.more.now) q
    ∙ sym (h (map def_view c.loop-rest.found))
    ∙ ap (λ x. params (map def_view c.loop-rest.found) x c.word-item.result.place (behind 6 c.loop-rest.rest.now)) f
    ∙ sym (defs-open _ _ _ _ _ _ _ _ _
    (front6 _ _ _ _ _ _ _ c.in-len6-up.len_at_least c.name-item.is c.slash-item.is c.number-item.is c.equals-item.is
    c.word-item.is c.paren-item.is)
    (search rules) (search rules))
    ∙ c.loop-rest.invariant
