use Rattle.std.proofs.Common.{rules, ◌≡◌, [], ◌∷◌, ◌++◌, Some, true, sym, ap, ◌∙◌, arith}
use Rattle.pass_line.specs.PlainText.{is_fun_name, fun_name, names_from}
use Rattle.pass_line.proofs.Fronts.{behind, front4}
use Rattle.pass_line.proofs.Reading.{names_from-short, names_from-no_name, names_from-close, names_from-comma, names_from-other}
use Rattle.pass_line.proofs.reader.names_from.Goals as goal

pub returns-in_default-2 : goal.returns-in_default-2
returns-in_default-2 c =
    sym c.loop-rest.invariant
    ∙ names_from-no_name _ _ _ _ _ _ _
    (front4 _ _ _ _ _ c.in-len4-up.len_at_least c.name-item.is c.slash-item.is c.number-item.is c.separator-item.is)
    (search rules)

pub returns-then-is_close_bracket : goal.returns-then-is_close_bracket
returns-then-is_close_bracket c =
    let h : is_fun_name c.name-item.result c.slash-item.result c.number-item.result ≡ true = search rules in
    let q : c.push.new.self ≡ c.loop-rest.found ++ fun_name c.name-item.result c.number-item.result ∷ [] =
    search rules in
    sym c.loop-rest.invariant
    ∙ names_from-close _ _ _ _ _ _ _
    (front4 _ _ _ _ _ c.in-len4-up.len_at_least c.name-item.is c.slash-item.is c.number-item.is c.separator-item.is) h
    (search rules)
    ∙ ap (λ x. Some (x, behind 4 c.loop-rest.rest.now)) (sym q)

pub returns-then-not-is_comma : goal.returns-then-not-is_comma
returns-then-not-is_comma c =
    let h : is_fun_name c.name-item.result c.slash-item.result c.number-item.result ≡ true = search rules in
    sym c.loop-rest.invariant
    ∙ names_from-other _ _ _ _ _ _ _
    (front4 _ _ _ _ _ c.in-len4-up.len_at_least c.name-item.is c.slash-item.is c.number-item.is c.separator-item.is) h
    (search rules) (search rules)

pub returns : goal.returns
returns c = sym c.loop-rest.invariant ∙ names_from-short _ _ (omega arith)

pub loop-rest-preserved : goal.loop-rest-preserved
loop-rest-preserved c =
    let h : is_fun_name c.name-item.result c.slash-item.result c.number-item.result ≡ true = search rules in
    let q : c.push.new.self ≡ c.loop-rest.found ++ fun_name c.name-item.result c.number-item.result ∷ [] =
    search rules in
    ap (λ x. names_from x (behind 4 c.loop-rest.rest.now)) q
    ∙ sym (names_from-comma _ _ _ _ _ _ _
    (front4 _ _ _ _ _ c.in-len4-up.len_at_least c.name-item.is c.slash-item.is c.number-item.is c.separator-item.is) h
    (search rules) (search rules))
    ∙ c.loop-rest.invariant
