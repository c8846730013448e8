-- The walk for limits through a whole module meets its limits and no others.
use Rattle.std.proofs.Common.{◌≡◌, ℕ, suc, ◌+◌, List, [], ◌∷◌, ◌++◌, length, true, None, eqb, map, refl, sym, ap, ◌∙◌, subst, arith, length-append}
use Rattle.std.proofs.Math.Nat.{add-zero, zero-add}
use Rattle.std.proofs.lemmas.List.{append-nil}
use Rattle.std.proofs.lemmas.List.Sums.{sum_by-cons}
use Rattle.erl_base.specs.declared.ids.Place.{Place}
use Rattle.erl_base.specs.declared.refusal.Refusal.{Refusal}
use Rattle.erl_base.specs.declared.refusal.Kind.TheVariants.{Limit}
use Rattle.erl_base.specs.declared.refusal.LimitName.TheVariants.{Integer, Atom, Nodes, Definitions}
use Rattle.core_form.specs.declared.tree.Def as Code
use Rattle.core_form.specs.Core.{Module, Expr, fun, Defs, no_def, and_def, def}
use Rattle.core_form.specs.Scope.{Scope, names_of, with_names, params_of, body_of}
use Rattle.core_form.specs.Captures.{sites_in}
use Rattle.core_form.specs.Sites.{place_of, sites, own_sites, inner_sites, module_scope, module_sites, def_count}
use Rattle.core_form.specs.View.{def_view, defs}
use Rattle.core_form.specs.Walks.{all_in, all_defs}
use Rattle.core_form.specs.Nodes.{node, nodes}
use Rattle.core_profile.specs.declared.progress.Progress.{Progress}
use Rattle.core_profile.specs.LimitFaults.{limits_of, capped, over, over_arity, most_nodes, most_definitions, counted_in_text, export_limits, name_limits, site_limits, definition_limits, limit_faults, capture_counts}
use Rattle.core_profile.specs.LimitWalk.{meeting, nodes_from, walk, head_count, definition_end, walk_definition, walk_module}
use Rattle.core_profile.proofs.Same.{Same, itself, through, both, other_way, crossed, grouped, equal}
use Rattle.core_profile.proofs.Goes.{Placed, placed_front, placed_back, counts_both, counts_length, over_same, sites_both}
use Rattle.core_profile.proofs.Walked.{walked}
use Rattle.first_fault.specs.FirstFault.{first_with, fault_if}
use Rattle.first_fault.proofs.First.{first_with_both}

-- five lists, each of its front and its rest
in_five : (a b c d e u v w x y : List Refusal)
    → Same ((((a ++ b) ++ (c ++ d)) ++ e) ++ (((u ++ v) ++ (w ++ x)) ++ y))
    ((((a ++ u) ++ (b ++ v)) ++ ((c ++ w) ++ (d ++ x))) ++ (e ++ y))
in_five a b c d e u v w x y =
    through (crossed ((a ++ b) ++ (c ++ d)) e ((u ++ v) ++ (w ++ x)) y)
    (both (through (crossed (a ++ b) (c ++ d) (u ++ v) (w ++ x)) (both (crossed a b u v) (crossed c d w x)))
    (itself (e ++ y)))

-- what comes before all of them
pub before_all : (z n d s l : List Refusal) → Same (z ++ (((n ++ d) ++ s) ++ l)) ((((z ++ n) ++ d) ++ s) ++ l)
before_all z n d s l = other_way (through (both (both (grouped z n d) (itself s)) (itself l))
    (through (both (grouped z (n ++ d) s) (itself l)) (grouped z ((n ++ d) ++ s) l)))

-- a right side has the limits of its body, and the nodes of its body and of its head
limits_of_body : (e : Expr) → all_in limits_of (body_of e) ≡ all_in limits_of e
limits_of_body (fun p xs e) = refl
limits_of_body e = refl

nodes_of_body : (e : Expr) → head_count e + nodes (body_of e) ≡ nodes e
nodes_of_body (fun p xs e) = let h = sum_by-cons (λ n. n) (suc (length xs)) (all_in node e) in omega (arith, h)
nodes_of_body e = zero-add (nodes e)

own_length : (ds : Defs) (g : Scope) (k : ℕ) → length (own_sites ds g k) ≡ def_count ds
own_length no_def g k = refl
own_length (and_def (def p f e) ds) g k = ap suc (own_length ds g (k + sites_in (body_of e)))

pub def_count-defs : (ds : List Code.Def) → def_count (defs (map def_view ds)) ≡ length ds
def_count-defs [] = refl
def_count-defs (d ∷ ds) = ap suc (def_count-defs ds)

-- the limits of definitions, the functions of which have numbers from i and from j on
abbrev of_defs : (all k : ℕ) → Defs → Scope → (i j : ℕ) → List Refusal
of_defs all k ds g i j =
    ((name_limits ds ++ all_defs limits_of ds)
    ++ (site_limits (own_sites ds g i) ++ site_limits (inner_sites ds g j))) ++ definition_limits all k ds

-- from s to t these faults are met, and so many functions passed
pub record Covers (s t : Progress) (faults : List Refusal) (n : ℕ) : Type 0 where
  pub met : List Refusal
  pub first : t.first ≡ first_with s.first met
  pub same : Same met faults
  pub site : t.site ≡ s.site + n

module _ (counts : List ℕ) where
  one_definition : (all k : ℕ) (p : Place) (n : ℕ) (e : Expr) (g : Scope) (j : ℕ) (s : Progress)
      → Placed counts s.site (sites (body_of e) g j)
      → Covers s (definition_end all k p (walk counts true (body_of e) (nodes_from (head_count e)
      (meeting (over_arity (place_of p e) (length (params_of e))) (meeting (over_arity p n) s)))))
      (((over_arity p n ++ all_in limits_of e)
      ++ (over_arity (place_of p e) (length (params_of e) + 0) ++ site_limits (sites (body_of e) g j)))
      ++ (over Nodes most_nodes p (nodes e) ++ fault_if (eqb k most_definitions) p (Limit Definitions all)))
      (length (sites (body_of e) g j))
  one_definition all k p n e g j s h =
      let a = over_arity p n in
      let b = over_arity (place_of p e) (length (params_of e)) in
      let start = nodes_from (head_count e) (meeting b (meeting a s)) in
      let t = walk counts true (body_of e) start in
      let v = walked counts true (body_of e) g j start h in
      let f = fault_if (eqb k most_definitions) p (Limit Definitions all) in
      let told = over Nodes most_nodes p t.nodes in
      record {
        met = ((a ++ b) ++ v.met) ++ (told ++ f);
        first = ap (λ o. first_with (first_with o told) f) v.first
            ∙ ap (λ o. first_with (first_with (first_with o v.met) told) f) (sym (first_with_both s.first a b))
            ∙ ap (λ o. first_with (first_with o told) f) (sym (first_with_both s.first (a ++ b) v.met))
            ∙ sym (first_with_both (first_with s.first ((a ++ b) ++ v.met)) told f)
            ∙ sym (first_with_both s.first ((a ++ b) ++ v.met) (told ++ f));
        same = both
            (through (both (itself (a ++ b)) v.same)
            (through (crossed a b (all_in limits_of (body_of e)) (site_limits (sites (body_of e) g j)))
            (both (both (itself a) (equal _ _ (limits_of_body e)))
            (both (equal _ _ (ap (over_arity (place_of p e)) (sym (add-zero (length (params_of e))))))
            (itself (site_limits (sites (body_of e) g j)))))))
            (both (equal _ _ (over_same Nodes most_nodes p t.nodes (nodes e) (omega arith)
            (v.nodes ∙ ap capped (nodes_of_body e)))) (itself f));
        site = v.site;
      }

  pub walked_module : (all k : ℕ) (ds : Defs) (g : Scope) (i j : ℕ) (s : Progress)
      → Placed counts s.site (inner_sites ds g j)
      → Covers s (walk_module counts all k ds s) (of_defs all k ds g i j) (length (inner_sites ds g j))
  walked_module all k no_def g i j s h = record {
    met = [];
    first = refl;
    same = itself [];
    site = sym (add-zero s.site);
  }
  walked_module all k (and_def (def p f e) ds) g i j s h =
      let inner = with_names g (names_of (params_of e)) in
      let mine = sites (body_of e) inner j in
      let next = j + sites_in (body_of e) in
      let others = inner_sites ds g next in
      let t = walk_definition counts all k (def p f e) s in
      let v = one_definition all k p f.arity e inner j s (placed_front counts s.site mine others h) in
      let w = walked_module all (k + 1) ds g (i + sites_in (body_of e)) next t
      (subst (λ n. Placed counts n others) (sym v.site) (placed_back counts s.site mine others h)) in
      record {
        met = v.met ++ w.met;
        first = w.first ∙ ap (λ o. first_with o w.met) v.first ∙ sym (first_with_both s.first v.met w.met);
        same = through (both v.same w.same) (through (in_five
            (over_arity p f.arity) (all_in limits_of e)
            (over_arity (place_of p e) (length (params_of e) + 0)) (site_limits mine)
            (over Nodes most_nodes p (nodes e) ++ fault_if (eqb k most_definitions) p (Limit Definitions all))
            (name_limits ds) (all_defs limits_of ds)
            (site_limits (own_sites ds g (i + sites_in (body_of e)))) (site_limits others)
            (definition_limits all (k + 1) ds))
            (equal _ _ (ap (λ l. (((over_arity p f.arity ++ name_limits ds)
            ++ (all_in limits_of e ++ all_defs limits_of ds))
            ++ ((over_arity (place_of p e) (length (params_of e) + 0)
            ++ site_limits (own_sites ds g (i + sites_in (body_of e)))) ++ l))
            ++ ((over Nodes most_nodes p (nodes e) ++ fault_if (eqb k most_definitions) p (Limit Definitions all))
            ++ definition_limits all (k + 1) ds)) (sym (sites_both mine others)))));
        site = let a = v.site in let b = w.site in let c = length-append mine others in omega (arith, a, b, c);
      }

own_counts : (ds : Defs) (g : Scope) (i : ℕ) → length (capture_counts (own_sites ds g i)) ≡ def_count ds
own_counts ds g i = counts_length (own_sites ds g i) ∙ own_length ds g i

-- the walk through a whole module, behind what was read with its text
pub whole : (m : Module) (s : Progress)
    → s.first ≡ first_with (first_with (first_with None (counted_in_text Integer m.wide)) (counted_in_text Atom m.long))
    (export_limits m.exports)
    → s.site ≡ def_count m.defs
    → Covers (record { first = None; nodes = 0; site = s.site })
    (walk_module (capture_counts (module_sites m)) (def_count m.defs) 0 m.defs s) (limit_faults m)
    (length (inner_sites m.defs (module_scope m.defs 0 []) (def_count m.defs)))
whole m s e h =
    let g = module_scope m.defs 0 [] in
    let n = def_count m.defs in
    let own = own_sites m.defs g n in
    let inner = inner_sites m.defs g n in
    let placed : Placed (capture_counts (module_sites m)) s.site inner = record {
      before = capture_counts own;
      behind = [];
      is = counts_both own inner ∙ ap (λ l. capture_counts own ++ l) (sym (append-nil (capture_counts inner)));
      here = own_counts m.defs g n ∙ sym h;
    } in
    let v = walked_module (capture_counts (module_sites m)) n 0 m.defs g n n s placed in
    let w = counted_in_text Integer m.wide in
    let a = counted_in_text Atom m.long in
    let x = export_limits m.exports in
    record {
      met = ((w ++ a) ++ x) ++ v.met;
      first = v.first ∙ ap (λ o. first_with o v.met) (e
          ∙ ap (λ o. first_with o x) (sym (first_with_both None w a)) ∙ sym (first_with_both None (w ++ a) x))
          ∙ sym (first_with_both None ((w ++ a) ++ x) v.met);
      same = through (both (itself ((w ++ a) ++ x)) v.same)
          (through (both (itself ((w ++ a) ++ x)) (both (both (itself (name_limits m.defs ++ all_defs limits_of m.defs))
          (equal _ _ (sym (sites_both own inner)))) (itself (definition_limits n 0 m.defs))))
          (before_all ((w ++ a) ++ x) (name_limits m.defs) (all_defs limits_of m.defs) (site_limits (own ++ inner))
          (definition_limits n 0 m.defs)));
      site = v.site;
    }
