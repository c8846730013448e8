-- What makes a module plain.
use Rattle.std.proofs.Common.{◌≡◌, ◌<◌, ◌≤◌, suc, List, [], ◌∷◌, Bool, true, false, ℤ, pos, negsuc, FitsSigned, true≢false, IsTrue, ◌↔◌, ◌∙◌, map, length, nat_le, refl, sym, ap, subst, arith, rules}
use Rattle.erl_base.specs.declared.ids.FunKey.{FunKey}
use Rattle.core_form.specs.declared.tree.Def.{Def}
use Rattle.core_form.specs.declared.module.Module.{Module}
use Rattle.erl_term.specs.View.{attribute_view}
use Rattle.core_form.specs.View.{defs, def_view, module_view}
use Rattle.erl_term.specs.declared.term.Attribute.{Attribute}
use Rattle.erl_term.specs.Ranges.{is_within_128}
use Rattle.erl_base.specs.Names.{keys_distinct}
use mir.Syntax.{w128}
use Rattle.pass_line.proofs.EachOnce.{are_new-keys_distinct}
use Rattle.pass_line.specs.PlainModule.{keys_of, are_plain, is_plain_atom, are_new, are_known, IsPlain}

length-keys_of : (ds : List Def) → length (keys_of (defs (map def_view ds))) ≡ length ds
length-keys_of [] = refl
length-keys_of (d ∷ ds) = ap suc (length-keys_of ds)

pub too_many : (ds : List Def) → 20000 < length ds → IsTrue (nat_le (length (keys_of (defs (map def_view ds)))) 20000)
    → ⊥
too_many ds h t = let l : nat_le (length ds) 20000 ≡ true =
    subst (λ n. nat_le n 20000 ≡ true) (length-keys_of ds) t in grind (arith, l)

pub few : (ds : List Def) → length ds ≤ 20000 → IsTrue (nat_le (length (keys_of (defs (map def_view ds)))) 20000)
few ds h = subst (λ n. nat_le n 20000 ≡ true) (sym (length-keys_of ds)) (search (rules, h))

-- what is tested in turn
pub told : (m : Module) (known : List FunKey) (b : Bool) →
    length m.defs ≤ 20000 → is_plain_atom m.name ≡ true → are_plain (defs (map def_view m.defs)) ≡ true →
    are_new [] (keys_of (defs (map def_view m.defs))) ≡ true → known ≡ keys_of (defs (map def_view m.defs)) →
    m.attributes ≡ [] → b ≡ are_known known m.exports → IsTrue b ↔ IsPlain (module_view m)
told m known b size name functions new all none e = (
  λ t. record {
    name = name;
    few_functions = few m.defs size;
    functions = functions;
    distinct_functions = sym (are_new-keys_distinct (keys_of (defs (map def_view m.defs)))) ∙ new;
    known_exports = subst (λ ks. are_known ks m.exports ≡ true) all (sym e ∙ t);
    no_attributes = ap (map attribute_view) none;
  },
  λ p. e ∙ subst (λ ks. are_known ks m.exports ≡ true) (sym all) p.known_exports,
)

pub doubled : (ds : List Def) → are_new [] (keys_of (defs (map def_view ds))) ≡ false
    → IsTrue (keys_distinct (keys_of (defs (map def_view ds)))) → ⊥
doubled ds e t = true≢false (sym t ∙ sym (are_new-keys_distinct (keys_of (defs (map def_view ds)))) ∙ e)

pub small : (m : Module) → IsPlain (module_view m) → length m.defs ≤ 20000
small m p = let l : nat_le (length m.defs) 20000 ≡ true =
    subst (λ n. nat_le n 20000 ≡ true) (length-keys_of m.defs) p.few_functions in grind (arith, l)

-- an attribute is there
pub attributed : (m : Module) → (m.attributes ≡ [] → ⊥) → IsPlain (module_view m) → ⊥
attributed m h p = by m.attributes h p.no_attributes
  where
    by : (as' : List Attribute) → (as' ≡ [] → ⊥) → map attribute_view as' ≡ [] → ⊥
    by [] g e = g refl
    by (a ∷ as') g e = cc

pub is_within_128-fits : (z : ℤ) → FitsSigned w128 z → is_within_128 z ≡ true
is_within_128-fits (pos n) h = search (rules, h)
is_within_128-fits (negsuc n) h = search (rules, h)
