-- The walk through a module lists its sites.
use Rattle.std.proofs.Common.{◌≡◌, ℕ, suc, ◌+◌, List, [], ◌∷◌, ◌++◌, length, map, refl, sym, ap, ◌∙◌, subst, append_assoc, append-nil, arith}
use Rattle.std.proofs.lemmas.List.{map-append}
use Rattle.erl_base.specs.declared.ids.Place.{Place}
use Rattle.erl_base.specs.declared.ids.FunKey.{FunKey}
use Rattle.core_form.specs.declared.module.Site.{Site}
use Rattle.core_sites.specs.declared.told.Told.{Told}
use Rattle.core_sites.specs.declared.told.Told.TheVariants.{Sites, Counts}
use Rattle.core_sites.specs.declared.told.Telling.{Telling}
use Rattle.core_form.specs.Core.{Module, Expr, values, var, fun_name, literal, list, tuple, new_map, map_of, binary, fun, let_in, letrec, case, apply, call, primop, do_then, catch, try, receive, Exprs, no_expr, and_expr, MapParts, no_part, and_part, map_part, Segments, no_segment, and_segment, segment, Defs, no_def, and_def, def, Clauses, no_clause, and_clause, clause}
use Rattle.core_form.specs.Scope.{Use, Scope, names_of, body_of, bound_all}
use Rattle.core_form.specs.Captures.{sites_in, sites_in_all, sites_in_parts, sites_in_defs, sites_in_clauses, group_captures, in_group}
use Rattle.core_form.specs.Sites as Plain
use Rattle.core_form.specs.Sites.{fun_site, named_site, sites, sites_all, sites_parts, sites_segments, sites_defs, sites_clauses, module_scope, def_count, own_sites, inner_sites, module_sites}
use Rattle.core_sites.specs.Gathering.{named, module_texts, later_texts}
use Rattle.core_sites.specs.Listing.{Held, padded, with_group, shown, resolved, next_captures, text_taken, group_held, listing, own_listings, listed, listed_all, listed_parts, listed_segments, listed_inside, right_listed, listed_defs, listed_clauses, all_inside, listed_module}
use Rattle.core_sites.proofs.Alike.{below_once}
use Rattle.core_sites.proofs.Groups.{ready_named}
use Rattle.core_sites.proofs.Walks.{texts, texts_all, texts_parts, texts_segments, texts_defs, texts_clauses, walks_defs}
use Rattle.core_sites.proofs.Tied.{Tied, tied_names, tied_group, Level, level_module, ready, fun_captured, group_captured}

-- what is told with these sites behind the others
abbrev told : Told → List Plain.Site → Told
told (Sites out) xs = Sites (out ++ map shown xs)
told (Counts out) xs = Counts (out ++ map (λ x. length x.captures) xs)

told_none : (out : Told) → out ≡ told out []
told_none (Sites out) = ap Sites (sym (append-nil out))
told_none (Counts out) = ap Counts (sym (append-nil out))

told_both : (out : Told) (xs ys : List Plain.Site) → told (told out xs) ys ≡ told out (xs ++ ys)
told_both (Sites out) xs ys =
    ap Sites (append_assoc out (map shown xs) (map shown ys) ∙ ap (λ ts. out ++ ts) (sym (map-append shown xs ys)))
told_both (Counts out) xs ys =
    let count : Plain.Site → ℕ = λ x. length x.captures in
    ap Counts (append_assoc out (map (λ x. length x.captures) xs) (map (λ x. length x.captures) ys)
    ∙ ap (λ ts. out ++ ts) (sym (map-append count xs ys)))

told_one : (out : Told) (x : Plain.Site) → listing x.place x.key x.params x.captures out ≡ told out (x ∷ [])
told_one (Sites out) x = refl
told_one (Counts out) x = refl

-- from s to r these sites are told, when these texts come first; they are taken
record Lists (s r : Telling) (ts : List (List Use)) (xs : List Plain.Site) : Type 0 where
  pub tells : (rest : List (List Use)) → s.texts ≡ ts ++ rest → r.told ≡ told s.told xs
  pub leaves : (rest : List (List Use)) → s.texts ≡ ts ++ rest → r.texts ≡ rest

none : (s : Telling) → Lists s s [] []
none s = record { tells = λ rest e. told_none s.told; leaves = λ rest e. e }

onward : {s r q : Telling} {ts us : List (List Use)} {xs ys : List Plain.Site} → Lists s r ts xs → Lists r q us ys
    → Lists s q (ts ++ us) (xs ++ ys)
onward {s} {r} {q} {ts} {us} {xs} {ys} h k = record {
  tells = λ rest e.
      let split = e ∙ append_assoc ts us rest in
      k.tells rest (h.leaves (us ++ rest) split) ∙ ap (λ o. told o ys) (h.tells (us ++ rest) split)
      ∙ told_both s.told xs ys;
  leaves = λ rest e. k.leaves rest (h.leaves (us ++ rest) (e ∙ append_assoc ts us rest));
}

-- a function that has no text of its own
one : (s : Telling) (x : Plain.Site) (us : List Use) → us ≡ x.captures
    → Lists s (record { told = listing x.place x.key x.params us s.told; texts = s.texts }) [] (x ∷ [])
one s x us e = record {
  tells = λ rest h. ap (λ vs. listing x.place x.key x.params vs s.told) e ∙ told_one s.told x;
  leaves = λ rest h. h;
}

-- a function with the next text
taken : (s : Telling) (x : Plain.Site) (st : Held) (n : ℕ) (t : List Use) → resolved st n t ≡ x.captures
    → Lists s (record {
      told = listing x.place x.key x.params (next_captures st n s.texts) s.told;
      texts = later_texts s.texts;
    }) (t ∷ []) (x ∷ [])
taken s x st n t h = record {
  tells = λ rest e.
      ap (λ ts. listing x.place x.key x.params (next_captures st n ts) s.told) e
      ∙ ap (λ us. listing x.place x.key x.params us s.told) h ∙ told_one s.told x;
  leaves = λ rest e. ap later_texts e;
}

-- once the next text is known and taken
behind : (s r : Telling) (t : List Use) (ts : List (List Use)) (xs : List Plain.Site)
    → ((rest : List (List Use)) → s.texts ≡ t ∷ rest → Lists (text_taken s) r ts xs) → Lists s r (t ∷ ts) xs
behind s r t ts xs f = record {
  tells = λ rest e. (f (ts ++ rest) e).tells rest (ap later_texts e);
  leaves = λ rest e. (f (ts ++ rest) e).leaves rest (ap later_texts e);
}

tied_inside : {n g : Scope} {st : Held} {us : List Use} (ds : Defs) (k : ℕ) → us ≡ group_captures ds g → Tied n st g
    → Tied (named ds n) (group_held ds (length n) us st) (in_group ds k g)
tied_inside {n} {g} {st} ds k h w =
    subst (λ us. Tied (named ds n) (with_group ds us (padded (length n) st)) (in_group ds k g))
    (sym h) (tied_group ds k (group_captures ds g) (below_once (length g) [] _) w)

mutual
  lists : (e : Expr) {n g : Scope} {st : Held} (k : ℕ) (s : Telling) → Tied n st g
      → Lists s (listed e n st s) (texts e n) (sites e g k)
  lists (values p es) k s w = lists_all es k s w
  lists (var p x) k s w = none s
  lists (fun_name p f) k s w = none s
  lists (literal p t) k s w = none s
  lists (list p es e) k s w = onward (lists_all es k s w) (lists e (k + sites_in_all es) _ w)
  lists (tuple p es) k s w = lists_all es k s w
  lists (new_map p ps) k s w = lists_parts ps k s w
  lists (map_of p ps e) k s w = onward (lists_parts ps k s w) (lists e (k + sites_in_parts ps) _ w)
  lists (binary p ss) k s w = lists_segments ss k s w
  lists (fun p xs e) {n} {g} {st} k s w =
      onward (taken s (fun_site p xs e g (suc k)) st (length n) _ (fun_captured (fun p xs e) w))
      (lists e (suc k) _ (tied_names (names_of xs) w))
  lists (let_in p xs a b) k s w =
      onward (lists a k s w) (lists b (k + sites_in a) _ (tied_names (names_of xs) w))
  lists (letrec p ds b) {n} {g} {st} k s w =
      behind s _ _ (texts_defs ds (named ds n) ++ texts b (named ds n)) _ (λ rest e.
      let same = ap (λ ts. next_captures st (length n) ts) e ∙ group_captured ds w in
      onward (lists_defs ds k same (text_taken s) (tied_inside ds k same w))
      (lists b (k + sites_in_defs ds) _ (tied_inside ds k same w)))
  lists (case p e cs) k s w = onward (lists e k s w) (lists_clauses cs (k + sites_in e) _ w)
  lists (apply p e es) k s w = onward (lists e k s w) (lists_all es (k + sites_in e) _ w)
  lists (call p m f es) k s w =
      onward (onward (lists m k s w) (lists f (k + sites_in m) _ w))
      (lists_all es (k + sites_in m + sites_in f) _ w)
  lists (primop p n es) k s w = lists_all es k s w
  lists (do_then p a b) k s w = onward (lists a k s w) (lists b (k + sites_in a) _ w)
  lists (catch p e) k s w = lists e k s w
  lists (try p a xs b ys c) k s w =
      onward (onward (lists a k s w) (lists b (k + sites_in a) _ (tied_names (names_of xs) w)))
      (lists c (k + sites_in a + sites_in b) _ (tied_names (names_of ys) w))
  lists (receive p cs t b) k s w =
      onward (onward (lists_clauses cs k s w) (lists t (k + sites_in_clauses cs) _ w))
      (lists b (k + sites_in_clauses cs + sites_in t) _ w)

  lists_all : (es : Exprs) {n g : Scope} {st : Held} (k : ℕ) (s : Telling) → Tied n st g
      → Lists s (listed_all es n st s) (texts_all es n) (sites_all es g k)
  lists_all no_expr k s w = none s
  lists_all (and_expr e es) k s w = onward (lists e k s w) (lists_all es (k + sites_in e) _ w)

  lists_parts : (ps : MapParts) {n g : Scope} {st : Held} (k : ℕ) (s : Telling) → Tied n st g
      → Lists s (listed_parts ps n st s) (texts_parts ps n) (sites_parts ps g k)
  lists_parts no_part k s w = none s
  lists_parts (and_part (map_part a v x) ps) k s w =
      onward (onward (lists a k s w) (lists v (k + sites_in a) _ w))
      (lists_parts ps (k + sites_in a + sites_in v) _ w)

  lists_segments : (ss : Segments) {n g : Scope} {st : Held} (k : ℕ) (s : Telling) → Tied n st g
      → Lists s (listed_segments ss n st s) (texts_segments ss n) (sites_segments ss g k)
  lists_segments no_segment k s w = none s
  lists_segments (and_segment (segment p v z u t f) ss) k s w =
      onward (onward (lists v k s w) (lists z (k + sites_in v) _ w))
      (lists_segments ss (k + sites_in v + sites_in z) _ w)

  lists_defs : (ds : Defs) {n g : Scope} {st : Held} {us vs : List Use} (k : ℕ) → us ≡ vs → (s : Telling)
      → Tied n st g → Lists s (listed_defs ds n st us s) (texts_defs ds n) (sites_defs ds g vs k)
  lists_defs no_def k h s w = none s
  lists_defs (and_def (def p f (fun q xs e)) ds) {n} {g} {st} {us} {vs} k h s w =
      onward (onward (one s (named_site p f (fun q xs e) g vs (suc k)) us h)
      (lists e (suc k) _ (tied_names (names_of xs) w))) (lists_defs ds (k + suc (sites_in e)) h _ w)
  lists_defs (and_def (def p f e) ds) {n} {g} {st} {us} {vs} k h s w =
      onward (onward (one s (named_site p f e g vs (suc k)) us h) (lists e (suc k) _ w))
      (lists_defs ds (k + suc (sites_in e)) h _ w)

  lists_clauses : (cs : Clauses) {n g : Scope} {st : Held} (k : ℕ) (s : Telling) → Tied n st g
      → Lists s (listed_clauses cs n st s) (texts_clauses cs n) (sites_clauses cs g k)
  lists_clauses no_clause k s w = none s
  lists_clauses (and_clause (clause p qs e b) cs) k s w =
      let inner = tied_names (bound_all qs) w in
      onward (onward (lists e k s inner) (lists b (k + sites_in e) _ inner))
      (lists_clauses cs (k + sites_in e + sites_in b) _ w)

own_told : (ds : Defs) (g : Scope) (k : ℕ) (out : Told) → own_listings ds out ≡ told out (own_sites ds g k)
own_told no_def g k out = told_none out
own_told (and_def (def p f e) ds) g k out =
    own_told ds g (k + sites_in (body_of e)) _
    ∙ ap (λ o. told o (own_sites ds g (k + sites_in (body_of e)))) (told_one out (named_site p f e g [] k))
    ∙ told_both out (named_site p f e g [] k ∷ []) (own_sites ds g (k + sites_in (body_of e)))

lists_inside : (ds : Defs) {n g : Scope} {st : Held} (k : ℕ) (s : Telling) → Tied n st g
    → Lists s (all_inside ds n st s) (texts_defs ds n) (inner_sites ds g k)
lists_inside no_def k s w = none s
lists_inside (and_def (def p f (fun q xs e)) ds) k s w =
    onward (lists e k s (tied_names (names_of xs) w)) (lists_inside ds (k + sites_in e) _ w)
lists_inside (and_def (def p f e) ds) k s w =
    onward (lists e k s w) (lists_inside ds (k + sites_in e) _ w)

nothing : Level [] [] []
nothing = record {
  tied = record {
    same = λ x. refl;
    marks = λ f p. refl;
    long = refl;
    held = λ i. refl;
    numbered = tt;
    short = omega arith;
  };
  level = refl;
}

module_text : (ds : Defs) → module_texts ds (named ds []) ≡ texts_defs ds (named ds []) ++ []
module_text ds =
    (walks_defs ds (record { uses = []; texts = [] }) (ready_named ds (ready nothing.tied))).texts
    ∙ sym (append-nil (texts_defs ds (named ds [])))

module_told : (m : Module) (out : Told) → listed_module m.defs out ≡ told out (module_sites m)
module_told m out =
    (lists_inside m.defs (def_count m.defs) _ (level_module m.defs 0 nothing).tied).tells [] (module_text m.defs)
    ∙ ap (λ o. told o (inner_sites m.defs (module_scope m.defs 0 []) (def_count m.defs)))
    (own_told m.defs (module_scope m.defs 0 []) (def_count m.defs) out)
    ∙ told_both out (own_sites m.defs (module_scope m.defs 0 []) (def_count m.defs))
    (inner_sites m.defs (module_scope m.defs 0 []) (def_count m.defs))

sites_told : (m : Module) → listed_module m.defs (Sites []) ≡ Sites (map shown (module_sites m))
sites_told m = module_told m (Sites [])

counts_told : (m : Module)
    → listed_module m.defs (Counts []) ≡ Counts (map (λ x. length x.captures) (module_sites m))
counts_told m = module_told m (Counts [])

sites_of : Told → List Site
sites_of (Sites out) = out
sites_of (Counts out) = []

counts_of : Told → List ℕ
counts_of (Sites out) = []
counts_of (Counts out) = out

pub all_sites : (m : Module) (all : Told) (xs : List Site) → all ≡ listed_module m.defs (Sites []) → all ≡ Sites xs
    → xs ≡ map shown (module_sites m)
unfolding sites_of
all_sites m all xs h e = ap sites_of (sym e ∙ h ∙ sites_told m)

pub all_counts : (m : Module) (all : Told) (ns : List ℕ) → all ≡ listed_module m.defs (Counts []) → all ≡ Counts ns
    → ns ≡ map (λ x. length x.captures) (module_sites m)
unfolding counts_of
all_counts m all ns h e = ap counts_of (sym e ∙ h ∙ counts_told m)

-- sites stay sites, and counts counts

pub no_counts : (m : Module) (all : Told) (ns : List ℕ) → all ≡ listed_module m.defs (Sites []) → all ≡ Counts ns → ⊥
no_counts m all ns h e = let k = sym e ∙ h ∙ sites_told m in cc

pub no_sites : (m : Module) (all : Told) (xs : List Site) → all ≡ listed_module m.defs (Counts []) → all ≡ Sites xs → ⊥
no_sites m all xs h e = let k = sym e ∙ h ∙ counts_told m in cc

-- a definition's functions are those of its right side
pub inside_right : (p : Place) (f : FunKey) (e : Expr) (g : Scope) (st : Held) (s : Telling)
    → listed_inside (def p f e) g st s ≡ right_listed e g st s
inside_right p f (fun q xs e) g st s = refl
inside_right p f e g st s = refl
