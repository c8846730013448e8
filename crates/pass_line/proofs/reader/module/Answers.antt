use Rattle.std.proofs.Common.{rules, ◌≡◌, [], Some, None, map, option_map, true, ap, ◌∙◌}
use Rattle.core_form.specs.View.{def_view}
use Rattle.pass_line.specs.PlainText.{is_atom, name_of, names, with_defs, defs, module_of}
use Rattle.pass_line.proofs.Fronts.{behind, front3}
use Rattle.pass_line.proofs.Reading.{tree-short, tree-no_atom, tree-other, tree-open, with_defs-none, with_defs-short, with_defs-other, with_defs-attributes, module_made}
use Rattle.pass_line.proofs.reader.module.Goals as goal

pub returns-in_default : goal.returns-in_default
returns-in_default c = tree-short _ c.in_default.len_below

pub returns-in_default-kind : goal.returns-in_default-kind
returns-in_default-kind c = tree-no_atom _ _ _ _ _
    (front3 _ _ _ _ c.in-len3-up.len_at_least c.word-item.is c.name-item.is c.bracket-item.is) (search rules)

pub returns-then-not-opens_module : goal.returns-then-not-opens_module
returns-then-not-opens_module c =
    let a : is_atom c.name-item.result.kind ≡ true = search rules in
    tree-other _ _ _ _ _ (front3 _ _ _ _ c.in-len3-up.len_at_least c.word-item.is c.name-item.is c.bracket-item.is) a
    (search rules)

pub returns-in_default-2 : goal.returns-in_default-2
returns-in_default-2 c =
    let a : is_atom c.name-item.result.kind ≡ true = search rules in
    let h : names (behind 3 c.args.tokens.now) ≡ None = search rules in
    tree-open _ _ _ _ _ (front3 _ _ _ _ c.in-len3-up.len_at_least c.word-item.is c.name-item.is c.bracket-item.is) a
    (search rules)
    ∙ with_defs-none _ _ h

pub returns-in_default-rest : goal.returns-in_default-rest
returns-in_default-rest c =
    let a : is_atom c.name-item.result.kind ≡ true = search rules in
    let h : names (behind 3 c.args.tokens.now) ≡ Some (c.in-Some.exports, c.in-Some.rest.now) = search rules in
    tree-open _ _ _ _ _ (front3 _ _ _ _ c.in-len3-up.len_at_least c.word-item.is c.name-item.is c.bracket-item.is) a
    (search rules)
    ∙ ap (with_defs (name_of c.name-item.result.kind)) h
    ∙ with_defs-short _ _ _ c.in_default-rest.len_below

pub returns-then-not-are_attributes : goal.returns-then-not-are_attributes
returns-then-not-are_attributes c =
    let a : is_atom c.name-item.result.kind ≡ true = search rules in
    let h : names (behind 3 c.args.tokens.now) ≡ Some (c.in-Some.exports, c.in-Some.rest.now) = search rules in
    tree-open _ _ _ _ _ (front3 _ _ _ _ c.in-len3-up.len_at_least c.word-item.is c.name-item.is c.bracket-item.is) a
    (search rules)
    ∙ ap (with_defs (name_of c.name-item.result.kind)) h
    ∙ with_defs-other _ _ _ _ _ _ _
    (front3 _ _ _ _ c.in-len3-up-rest.len_at_least c.attributes-item.is c.left-item.is c.right-item.is) (search rules)

pub returns-in_default-3 : goal.returns-in_default-3
returns-in_default-3 c =
    let a : is_atom c.name-item.result.kind ≡ true = search rules in
    let h : names (behind 3 c.args.tokens.now) ≡ Some (c.in-Some.exports, c.in-Some.rest.now) = search rules in
    let d : defs [] (behind 3 c.in-Some.rest.now) ≡ None = search rules in
    tree-open _ _ _ _ _ (front3 _ _ _ _ c.in-len3-up.len_at_least c.word-item.is c.name-item.is c.bracket-item.is) a
    (search rules)
    ∙ ap (with_defs (name_of c.name-item.result.kind)) h
    ∙ with_defs-attributes _ _ _ _ _ _ _
    (front3 _ _ _ _ c.in-len3-up-rest.len_at_least c.attributes-item.is c.left-item.is c.right-item.is) (search rules)
    ∙ ap (option_map (module_of (name_of c.name-item.result.kind) c.in-Some.exports)) d

pub returns : goal.returns
returns c =
    let a : is_atom c.name-item.result.kind ≡ true = search rules in
    let h : names (behind 3 c.args.tokens.now) ≡ Some (c.in-Some.exports, c.in-Some.rest.now) = search rules in
    let d : defs [] (behind 3 c.in-Some.rest.now) ≡ Some (map def_view c.in-Some-2.defs) = search rules in
    tree-open _ _ _ _ _ (front3 _ _ _ _ c.in-len3-up.len_at_least c.word-item.is c.name-item.is c.bracket-item.is) a
    (search rules)
    ∙ ap (with_defs (name_of c.name-item.result.kind)) h
    ∙ with_defs-attributes _ _ _ _ _ _ _
    (front3 _ _ _ _ c.in-len3-up-rest.len_at_least c.attributes-item.is c.left-item.is c.right-item.is) (search rules)
    ∙ ap (option_map (module_of (name_of c.name-item.result.kind) c.in-Some.exports)) d
    ∙ module_made (name_of c.name-item.result.kind) c.in_ok-name.name c.new.result c.in-Some.exports
    (map def_view c.in-Some-2.defs) (search rules) c.new.ensures
