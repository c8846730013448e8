-- The reading of tokens, step by step.
use Rattle.std.proofs.Common.{◌≡◌, ◌<◌, ◌≤◌, List, [], ◌∷◌, ◌++◌, Bool, true, false, ◌&&◌, not, length, Option, Some, None, refl, sym, ap, ap₂, get_or, option_map, map, ◌∙◌, if◌then◌else◌, arith}
use Rattle.erl_base.specs.Names.{Name}
use Rattle.erl_base.specs.declared.ids.Place.{Place}
use Rattle.core_lex.specs.declared.token.Token.{Token}
use Rattle.core_form.specs.declared.tree.Binder.{Binder}
use Rattle.core_form.specs.declared.module.FunName.{FunName}
use Rattle.core_form.specs.Core.{Def}
use Rattle.core_form.specs.View as View
use Rattle.erl_term.specs.View.{attribute_view}
use Rattle.erl_term.specs.declared.term.Attribute.{Attribute}
use Rattle.pass_line.specs.PlainText.{is_close_paren, is_comma, is_arrow, is_close_bracket, is_variable, is_value, is_fun_name, fun_name, names_from, names, binder, opens_fun, ends, def_of, defs, params, params_after, params_more, body, opens_module, are_attributes, module_of, with_defs, tree, is_atom, name_of}

pub if_true : {A : Type 0} (b : Bool) (x y : A) → b ≡ true → (if b then x else y) ≡ x
if_true b x y e = ap (λ t. if t then x else y) e

pub if_false : {A : Type 0} (b : Bool) (x y : A) → b ≡ false → (if b then x else y) ≡ y
if_false b x y e = ap (λ t. if t then x else y) e

-- what the list of the functions and the list of the attributes make
pub module_made : (n n' : Name) (as' : List Attribute) (xs : List FunName) (ds : List Def) → n ≡ n' → as' ≡ [] →
    Some (module_of n xs ds)
    ≡ Some (record {
      name = n';
      exports = xs;
      attributes = map attribute_view as';
      defs = View.defs ds;
      floats = None;
      wide = None;
      long = None;
    })
module_made n n' as' xs ds e f =
    ap₂ (λ m as''. Some (record {
      name = m;
      exports = xs;
      attributes = as'';
      defs = View.defs ds;
      floats = None;
      wide = None;
      long = None;
    })) e
    (sym (ap (map attribute_view) f))

pub names_from-short : (found : List FunName) (ts : List Token) → length ts < 4 → names_from found ts ≡ None
unfolding names_from
names_from-short found [] h = refl
names_from-short found (a ∷ []) h = refl
names_from-short found (a ∷ s ∷ []) h = refl
names_from-short found (a ∷ s ∷ n ∷ []) h = refl
names_from-short found (a ∷ s ∷ n ∷ c ∷ ts) h = absurd (omega arith)

module _ (found : List FunName) (ts : List Token) where
  module _ (a s n c : Token) (later : List Token) (e : ts ≡ a ∷ s ∷ n ∷ c ∷ later) where
    pub names_from-no_name : is_fun_name a s n ≡ false → names_from found ts ≡ None
    unfolding names_from
    names_from-no_name h = ap (names_from found) e ∙ if_true (not (is_fun_name a s n)) _ _ (ap not h)

    pub names_from-close : is_fun_name a s n ≡ true → is_close_bracket c.kind ≡ true →
        names_from found ts ≡ Some (found ++ fun_name a n ∷ [], later)
    unfolding names_from
    names_from-close h k = ap (names_from found) e ∙ if_false (not (is_fun_name a s n)) _ _ (ap not h)
        ∙ if_true (is_close_bracket c.kind) _ _ k

    pub names_from-comma : is_fun_name a s n ≡ true → is_close_bracket c.kind ≡ false → is_comma c.kind ≡ true →
        names_from found ts ≡ names_from (found ++ fun_name a n ∷ []) later
    unfolding names_from
    names_from-comma h k l =
        ap (names_from found) e ∙ if_false (not (is_fun_name a s n)) _ _ (ap not h)
        ∙ if_false (is_close_bracket c.kind) _ _ k
        ∙ if_true (is_comma c.kind) _ _ l

    pub names_from-other : is_fun_name a s n ≡ true → is_close_bracket c.kind ≡ false → is_comma c.kind ≡ false →
        names_from found ts ≡ None
    unfolding names_from
    names_from-other h k l =
        ap (names_from found) e ∙ if_false (not (is_fun_name a s n)) _ _ (ap not h)
        ∙ if_false (is_close_bracket c.kind) _ _ k
        ∙ if_false (is_comma c.kind) _ _ l

module _ (ts : List Token) (t : Token) (later : List Token) (e : ts ≡ t ∷ later) where
  pub names-close : is_close_bracket t.kind ≡ true → names ts ≡ Some ([], later)
  unfolding names
  names-close h = ap names e ∙ if_true (is_close_bracket t.kind) _ _ h

  pub names-some : is_close_bracket t.kind ≡ false → names ts ≡ names_from [] ts
  unfolding names
  names-some h = ap names e ∙ if_false (is_close_bracket t.kind) _ _ h ∙ ap (names_from []) (sym e)

pub names-short : (ts : List Token) → length ts < 1 → names ts ≡ None
unfolding names
names-short [] h = refl
names-short (t ∷ ts) h = absurd (omega arith)

module _ (ds : List Def) (f : FunName) (p : Place) where
  module _ (xs : List Binder) (ts : List Token) (t : Token) (later : List Token) (e : ts ≡ t ∷ later) where
    pub params_after-close : is_close_paren t.kind ≡ true → params_after ds f p xs ts ≡ body ds f p xs later
    unfolding params_after
    params_after-close h = ap (params_after ds f p xs) e ∙ if_true (is_close_paren t.kind) _ _ h

    pub params_after-other : is_close_paren t.kind ≡ false → is_comma t.kind ≡ false → params_after ds f p xs ts ≡ None
    unfolding params_after
    params_after-other h k =
        ap (params_after ds f p xs) e ∙ if_false (is_close_paren t.kind) _ _ h ∙ if_false (is_comma t.kind) _ _ k

    params_after-comma : is_close_paren t.kind ≡ false → is_comma t.kind ≡ true
        → params_after ds f p xs ts ≡ params_more ds f p xs later
    unfolding params_after
    params_after-comma h k =
        ap (params_after ds f p xs) e ∙ if_false (is_close_paren t.kind) _ _ h ∙ if_true (is_comma t.kind) _ _ k

    more-none : (ts : List Token) → length ts < 1 → params_more ds f p xs ts ≡ None
    unfolding params_more
    more-none [] h = refl
    more-none (t ∷ ts) h = absurd (omega arith)

    pub params_after-end : is_close_paren t.kind ≡ false → is_comma t.kind ≡ true → length later < 1
        → params_after ds f p xs ts ≡ None
    params_after-end h k l = params_after-comma h k ∙ more-none later l

    module _ (v : Token) (more : List Token) (g : later ≡ v ∷ more) where
      pub params_after-no_variable : is_close_paren t.kind ≡ false → is_comma t.kind ≡ true
          → is_variable v.kind ≡ false →
          params_after ds f p xs ts ≡ None
      unfolding params_more
      params_after-no_variable h k l =
          params_after-comma h k ∙ ap (params_more ds f p xs) g ∙ if_false (is_variable v.kind) _ _ l

      pub params_after-variable : is_close_paren t.kind ≡ false → is_comma t.kind ≡ true → is_variable v.kind ≡ true →
          params_after ds f p xs ts ≡ params_after ds f p (xs ++ binder v ∷ []) more
      unfolding params_more
      params_after-variable h k l =
          params_after-comma h k ∙ ap (params_more ds f p xs) g ∙ if_true (is_variable v.kind) _ _ l

  pub params_after-short : (xs : List Binder) (ts : List Token) → length ts < 1 → params_after ds f p xs ts ≡ None
  unfolding params_after
  params_after-short xs [] h = refl
  params_after-short xs (t ∷ ts) h = absurd (omega arith)

  module _ (ts : List Token) (t : Token) (later : List Token) (e : ts ≡ t ∷ later) where
    pub params-close : is_close_paren t.kind ≡ true → params ds f p ts ≡ body ds f p [] later
    unfolding params
    params-close h = ap (params ds f p) e ∙ if_true (is_close_paren t.kind) _ _ h

    pub params-variable : is_close_paren t.kind ≡ false → is_variable t.kind ≡ true
        → params ds f p ts ≡ params_after ds f p (binder t ∷ []) later
    unfolding params
    params-variable h k = ap (params ds f p) e ∙ if_false (is_close_paren t.kind) _ _ h
        ∙ if_true (is_variable t.kind) _ _ k

    pub params-no_variable : is_close_paren t.kind ≡ false → is_variable t.kind ≡ false → params ds f p ts ≡ None
    unfolding params
    params-no_variable h k =
        ap (params ds f p) e ∙ if_false (is_close_paren t.kind) _ _ h ∙ if_false (is_variable t.kind) _ _ k

  pub params-short : (ts : List Token) → length ts < 1 → params ds f p ts ≡ None
  unfolding params
  params-short [] h = refl
  params-short (t ∷ ts) h = absurd (omega arith)

  module _ (xs : List Binder) where
    pub body-short : (ts : List Token) → length ts < 2 → body ds f p xs ts ≡ None
    unfolding body
    body-short [] h = refl
    body-short (w ∷ []) h = refl
    body-short (w ∷ e ∷ ts) h = absurd (omega arith)

    module _ (ts : List Token) (w v : Token) (later : List Token) (e : ts ≡ w ∷ v ∷ later) where
      pub body-value : is_arrow w.kind ≡ true → is_value v.kind ≡ true
          → body ds f p xs ts ≡ defs (ds ++ def_of f p xs v ∷ []) later
      unfolding body
      body-value h k = ap (body ds f p xs) e
          ∙ if_true (is_arrow w.kind && is_value v.kind) _ _ (ap (λ b. b && is_value v.kind) h ∙ k)

      pub body-no_arrow : is_arrow w.kind ≡ false → body ds f p xs ts ≡ None
      unfolding body
      body-no_arrow h = ap (body ds f p xs) e
          ∙ if_false (is_arrow w.kind && is_value v.kind) _ _ (ap (λ b. b && is_value v.kind) h)

      pub body-no_value : is_arrow w.kind ≡ true → is_value v.kind ≡ false → body ds f p xs ts ≡ None
      unfolding body
      body-no_value h k = ap (body ds f p xs) e
          ∙ if_false (is_arrow w.kind && is_value v.kind) _ _ (ap (λ b. b && is_value v.kind) h ∙ k)

module _ (ds : List Def) (ts : List Token) (a s n q f o : Token) (later : List Token)
    (e : ts ≡ a ∷ s ∷ n ∷ q ∷ f ∷ o ∷ later) where
  pub defs-open : is_fun_name a s n ≡ true → opens_fun q f o ≡ true
      → defs ds ts ≡ params ds (fun_name a n) f.place later
  unfolding defs
  defs-open h k = ap (defs ds) e
      ∙ if_true (is_fun_name a s n && opens_fun q f o) _ _ (ap (λ b. b && opens_fun q f o) h ∙ k)

  pub defs-no_name : is_fun_name a s n ≡ false → defs ds ts ≡ None
  unfolding defs
  defs-no_name h = ap (defs ds) e
      ∙ if_false (is_fun_name a s n && opens_fun q f o) _ _ (ap (λ b. b && opens_fun q f o) h)

  pub defs-no_fun : is_fun_name a s n ≡ true → opens_fun q f o ≡ false → defs ds ts ≡ None
  unfolding defs
  defs-no_fun h k = ap (defs ds) e
      ∙ if_false (is_fun_name a s n && opens_fun q f o) _ _ (ap (λ b. b && opens_fun q f o) h ∙ k)

pub defs-short : (ds : List Def) (ts : List Token) → length ts < 2 → defs ds ts ≡ None
unfolding defs
defs-short ds [] h = refl
defs-short ds (a ∷ []) h = refl
defs-short ds (a ∷ b ∷ ts) h = absurd (omega arith)

pub defs-long : (ds : List Def) (ts : List Token) → length ts < 6 → 3 ≤ length ts → defs ds ts ≡ None
unfolding defs
defs-long ds [] h k = absurd (omega arith)
defs-long ds (a ∷ []) h k = absurd (omega arith)
defs-long ds (a ∷ b ∷ []) h k = absurd (omega arith)
defs-long ds (a ∷ b ∷ c ∷ []) h k = refl
defs-long ds (a ∷ b ∷ c ∷ d ∷ []) h k = refl
defs-long ds (a ∷ b ∷ c ∷ d ∷ f ∷ []) h k = refl
defs-long ds (a ∷ b ∷ c ∷ d ∷ f ∷ g ∷ ts) h k = absurd (omega arith)

module _ (ds : List Def) where
  pub defs-two : (ts : List Token) (w t : Token) → 2 ≤ length ts → length ts < 3 → w ≡ get_or ts 0 w
      → t ≡ get_or ts 1 t →
      defs ds ts ≡ (if ends w t then Some ds else None)
  unfolding defs
  defs-two [] w t h k e f = absurd (omega arith)
  defs-two (x ∷ []) w t h k e f = absurd (omega arith)
  defs-two (x ∷ y ∷ []) w t h k e f = ap₂ (λ a b. if ends a b then Some ds else None) (sym e) (sym f)
  defs-two (x ∷ y ∷ z ∷ ts) w t h k e f = absurd (omega arith)

module _ (ts : List Token) (w a o : Token) (later : List Token) (e : ts ≡ w ∷ a ∷ o ∷ later) where
  pub tree-open : is_atom a.kind ≡ true → opens_module w o ≡ true → tree ts ≡ with_defs (name_of a.kind) (names later)
  unfolding tree
  tree-open h k = ap tree e ∙ if_true (is_atom a.kind && opens_module w o) _ _ (ap (λ b. b && opens_module w o) h ∙ k)

  pub tree-no_atom : is_atom a.kind ≡ false → tree ts ≡ None
  unfolding tree
  tree-no_atom h = ap tree e ∙ if_false (is_atom a.kind && opens_module w o) _ _ (ap (λ b. b && opens_module w o) h)

  pub tree-other : is_atom a.kind ≡ true → opens_module w o ≡ false → tree ts ≡ None
  unfolding tree
  tree-other h k = ap tree e ∙ if_false (is_atom a.kind && opens_module w o) _ _ (ap (λ b. b && opens_module w o) h ∙ k)

pub tree-short : (ts : List Token) → length ts < 3 → tree ts ≡ None
unfolding tree
tree-short [] h = refl
tree-short (a ∷ []) h = refl
tree-short (a ∷ b ∷ []) h = refl
tree-short (a ∷ b ∷ c ∷ ts) h = absurd (omega arith)

module _ (name : Name) where
  pub with_defs-none : (r : Option (List FunName × List Token)) → r ≡ None → with_defs name r ≡ None
  unfolding with_defs
  with_defs-none r e = ap (with_defs name) e

  module _ (xs : List FunName) where
    pub with_defs-short : (ts : List Token) → length ts < 3 → with_defs name (Some (xs, ts)) ≡ None
    unfolding with_defs
    with_defs-short [] h = refl
    with_defs-short (a ∷ []) h = refl
    with_defs-short (a ∷ b ∷ []) h = refl
    with_defs-short (a ∷ b ∷ c ∷ ts) h = absurd (omega arith)

    module _ (ts : List Token) (w o c : Token) (later : List Token) (e : ts ≡ w ∷ o ∷ c ∷ later) where
      pub with_defs-attributes : are_attributes w o c ≡ true
          → with_defs name (Some (xs, ts)) ≡ option_map (module_of name xs) (defs [] later)
      unfolding with_defs
      with_defs-attributes h = ap (λ l. with_defs name (Some (xs, l))) e ∙ if_true (are_attributes w o c) _ _ h

      pub with_defs-other : are_attributes w o c ≡ false → with_defs name (Some (xs, ts)) ≡ None
      unfolding with_defs
      with_defs-other h = ap (λ l. with_defs name (Some (xs, l))) e ∙ if_false (are_attributes w o c) _ _ h
