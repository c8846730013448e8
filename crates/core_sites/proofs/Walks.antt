-- The walk through a text puts what the text uses, and what each function in it uses among the texts.
use Rattle.std.proofs.Common.{◌≡◌, ℕ, ◌≤◌, List, [], ◌∷◌, ◌++◌, length, Bool, true, false, if◌then◌else◌, Option, Some, refl, sym, ap, ◌∙◌, subst, append_assoc, append-nil, slice_set}
use Rattle.std.proofs.lemmas.List.{set_at}
use Rattle.erl_base.specs.Names.{Name, same_key}
use Rattle.erl_base.specs.declared.ids.Place.{Place}
use Rattle.erl_base.specs.declared.ids.FunKey.{FunKey}
use Rattle.core_form.specs.Core.{Expr, values, var, fun_name, literal, list, tuple, new_map, map_of, binary, fun, let_in, letrec, case, apply, call, primop, do_then, catch, try, receive, Exprs, no_expr, and_expr, MapParts, no_part, and_part, map_part, Segments, no_segment, and_segment, segment, Defs, no_def, and_def, def, Clauses, no_clause, and_clause, clause, Pattern, any, alias, known, list_like, tuple_like, map_like, bits_like, Patterns, no_pattern, and_pattern, KeyPatterns, no_key, and_key, key_pattern, SegPatterns, no_seg, and_seg, seg_pattern}
use Rattle.core_form.specs.Scope.{Use, Scope, variable, function, function_of, with_names, names_of, bound, bound_all}
use Rattle.core_form.specs.Captures.{found, captured, placed, occurring, occurring_all, occurring_parts, occurring_segments, occurring_defs, occurring_clauses, occurring_pattern, occurring_patterns, occurring_keys, occurring_segs}
use Rattle.core_names.specs.declared.table.Known.{Known}
use Rattle.core_names.specs.Table.{function_known}
use Rattle.core_sites.specs.declared.texts.Gathered.{Gathered}
use Rattle.core_sites.specs.Things.{use_at, unexpanded}
use Rattle.core_sites.specs.Gathering.{put_all, thing, named, with_uses, opened, with_text, back_in, walked_def, right_walked, walked, walked_all, walked_parts, walked_segments, walked_defs, walked_clauses, walked_pattern, walked_patterns, walked_keys, walked_segs}
use Rattle.core_sites.proofs.Captured.{length_unexpanded, binding_unexpanded}
use Rattle.core_sites.proofs.Puts.{put_all_append, put_twice}
use Rattle.core_sites.proofs.Groups.{Ready, ready_names, ready_named, ready_all, named_longer, letrec_put}

-- What the functions in a text use, outer ones before those inside.

abbrev mutual
  pub texts : Expr → Scope → List (List Use)
  texts (values p es) g = texts_all es g
  texts (var p x) g = []
  texts (fun_name p f) g = []
  texts (literal p t) g = []
  texts (list p es e) g = texts_all es g ++ texts e g
  texts (tuple p es) g = texts_all es g
  texts (new_map p ps) g = texts_parts ps g
  texts (map_of p ps e) g = texts_parts ps g ++ texts e g
  texts (binary p ss) g = texts_segments ss g
  texts (fun p xs e) g =
      put_all (length g) [] (occurring (fun p xs e) (unexpanded g)) ∷ texts e (with_names g (names_of xs))
  texts (let_in p xs a b) g = texts a g ++ texts b (with_names g (names_of xs))
  texts (letrec p ds b) g =
      let h = named ds g in
      put_all (length g) [] (occurring_defs ds (unexpanded h)) ∷ (texts_defs ds h ++ texts b h)
  texts (case p e cs) g = texts e g ++ texts_clauses cs g
  texts (apply p e es) g = texts e g ++ texts_all es g
  texts (call p m f es) g = (texts m g ++ texts f g) ++ texts_all es g
  texts (primop p n es) g = texts_all es g
  texts (do_then p a b) g = texts a g ++ texts b g
  texts (catch p e) g = texts e g
  texts (try p a xs b ys c) g =
      (texts a g ++ texts b (with_names g (names_of xs))) ++ texts c (with_names g (names_of ys))
  texts (receive p cs t b) g = (texts_clauses cs g ++ texts t g) ++ texts b g

  pub texts_all : Exprs → Scope → List (List Use)
  texts_all no_expr g = []
  texts_all (and_expr e es) g = texts e g ++ texts_all es g

  pub texts_parts : MapParts → Scope → List (List Use)
  texts_parts no_part g = []
  texts_parts (and_part (map_part k v x) ps) g = (texts k g ++ texts v g) ++ texts_parts ps g

  pub texts_segments : Segments → Scope → List (List Use)
  texts_segments no_segment g = []
  texts_segments (and_segment (segment p v s u k f) ss) g = (texts v g ++ texts s g) ++ texts_segments ss g

  pub texts_defs : Defs → Scope → List (List Use)
  texts_defs no_def g = []
  texts_defs (and_def (def p f (fun q xs e)) ds) g = texts e (with_names g (names_of xs)) ++ texts_defs ds g
  texts_defs (and_def (def p f e) ds) g = texts e g ++ texts_defs ds g

  pub texts_clauses : Clauses → Scope → List (List Use)
  texts_clauses no_clause g = []
  texts_clauses (and_clause (clause p qs e b) cs) g =
      let h = with_names g (bound_all qs) in
      (texts e h ++ texts b h) ++ texts_clauses cs g

-- from s to t these uses are put, and these texts
pub record Walks (l : ℕ) (s t : Gathered) (xs : List Use) (ts : List (List Use)) : Type 0 where
  pub uses : t.uses ≡ put_all l s.uses xs
  pub texts : t.texts ≡ s.texts ++ ts

-- from s to t these uses are put
record Puts (l : ℕ) (s t : Gathered) (xs : List Use) : Type 0 where
  pub is : t.uses ≡ put_all l s.uses xs

none : (l : ℕ) (s : Gathered) → Walks l s s [] []
none l s = record { uses = refl; texts = sym (append-nil s.texts) }

onward : {l : ℕ} {s t r : Gathered} {xs ys : List Use} {ts us : List (List Use)} → Walks l s t xs ts
    → Walks l t r ys us → Walks l s r (xs ++ ys) (ts ++ us)
onward {l} {s} {t} {r} {xs} {ys} {ts} {us} h k = record {
  uses = k.uses ∙ ap (λ vs. put_all l vs ys) h.uses ∙ sym (put_all_append l s.uses xs ys);
  texts = k.texts ∙ ap (λ vs. vs ++ us) h.texts ∙ append_assoc s.texts ts us;
}

-- the uses alone
put_only : {l : ℕ} {s t : Gathered} {xs : List Use} {ts : List (List Use)} → Walks l s t xs ts → Puts l s t xs
put_only h = record { is = h.uses }

nothing : (l : ℕ) (s : Gathered) → Puts l s s []
nothing l s = record { is = refl }

then_put : {l : ℕ} {s t r : Gathered} {xs ys : List Use} → Puts l s t xs → Puts l t r ys → Puts l s r (xs ++ ys)
then_put {l} {s} {t} {r} {xs} {ys} h k = record {
  is = k.is ∙ ap (λ vs. put_all l vs ys) h.is ∙ sym (put_all_append l s.uses xs ys);
}

-- patterns, which have no texts, before a text
row_before : {l : ℕ} {s t r : Gathered} {xs ys : List Use} {us : List (List Use)}
    → Puts l (record { uses = s.uses; texts = [] }) t xs → Walks l (with_uses t.uses s) r ys us
    → Walks l s r (xs ++ ys) us
row_before {l} {s} {t} {r} {xs} {ys} {us} h k = record {
  uses = k.uses ∙ ap (λ vs. put_all l vs ys) h.is ∙ sym (put_all_append l s.uses xs ys);
  texts = k.texts;
}

-- a text of its own, whose uses are put around it too
own_text : {l n : ℕ} (s t : Gathered) (xs : List Use) (ts : List (List Use)) → l ≤ n → Walks n (opened s) t xs ts
    → Walks l s (back_in l s.uses (with_text (length s.texts) t.uses t)) xs (put_all n [] xs ∷ ts)
own_text {l} {n} s t xs ts h w = record {
  uses = ap (λ vs. put_all l s.uses vs) w.uses ∙ put_twice l n s.uses xs h;
  texts = (λ i. slice_set (w.texts i) (length s.texts) (w.uses i))
      ∙ ap (λ vs. slice_set vs (length s.texts) (put_all n [] xs)) (append_assoc s.texts ([] ∷ []) ts)
      ∙ set_at s.texts [] ts (put_all n [] xs) (length s.texts) refl;
}

-- the texts of a group and of its body
group_texts : {n m : ℕ} (s t r : Gathered) (xs ys : List Use) (ts us : List (List Use)) → n ≤ m
    → Walks m (opened s) t xs ts → Walks m (with_text (length s.texts) (put_all n [] t.uses) t) r ys us
    → r.texts ≡ s.texts ++ (put_all n [] xs ∷ (ts ++ us))
group_texts {n} {m} s t r xs ys ts us h w k =
    let i = length s.texts in
    let own : put_all n [] t.uses ≡ put_all n [] xs = ap (λ vs. put_all n [] vs) w.uses ∙ put_twice n m [] xs h in
    k.texts
    ∙ ap (λ vs. vs ++ us) ((λ j. slice_set (w.texts j) (length s.texts) (own j))
    ∙ ap (λ vs. slice_set vs (length s.texts) (put_all n [] xs)) (append_assoc s.texts ([] ∷ []) ts)
    ∙ set_at s.texts [] ts (put_all n [] xs) (length s.texts) refl)
    ∙ append_assoc s.texts (put_all n [] xs ∷ ts) us

pub unexpanded_names : (g : Scope) (xs : List Name) → unexpanded (with_names g xs) ≡ with_names (unexpanded g) xs
unexpanded_names g [] = refl
unexpanded_names g (x ∷ xs) =
    unexpanded_names (variable x (length g) ∷ g) xs
    ∙ ap (λ n. with_names (variable x n ∷ unexpanded g) xs) (sym (length_unexpanded g))

under : {l : ℕ} {s t : Gathered} {ts : List (List Use)} (at : Scope → List Use) (g : Scope) (xs : List Name)
    → Walks l s t (at (unexpanded (with_names g xs))) ts → Walks l s t (at (with_names (unexpanded g) xs)) ts
under {l} {s} {t} {ts} at g xs w = subst (λ h. Walks l s t (at h) ts) (unexpanded_names g xs) w

under_row : {l : ℕ} {s t : Gathered} (at : Scope → List Use) (g : Scope) (xs : List Name)
    → Puts l s t (at (unexpanded (with_names g xs))) → Puts l s t (at (with_names (unexpanded g) xs))
under_row {l} {s} {t} at g xs w = subst (λ h. Puts l s t (at h)) (unexpanded_names g xs) w

thing_if : (b : Bool) (s m : ℕ) (p q : Place) (k : Option Known) (o : Option (ℕ × List Use))
    → thing p k ≡ placed p (captured o)
    → thing p (if b then Some (record { site = s; position = m }) else k)
    ≡ placed p (captured (if b then Some (s, use_at [] m q ∷ []) else o))
thing_if true s m p q k o h = refl
thing_if false s m p q k o h = h

thing_placed : (g : Scope) (p : Place) (f : FunKey)
    → thing p (function_known g f) ≡ placed p (captured (function_of (unexpanded g) f))
thing_placed [] p f = refl
thing_placed (variable y n ∷ g) p f = thing_placed g p f
thing_placed (function q s us ∷ g) p f =
    thing_if (same_key f q) s (length g) p (record { line = 0; column = 0 }) (function_known g f)
    (function_of (unexpanded g) f) (thing_placed g p f)

mutual
  pub walks : (e : Expr) {l : ℕ} {g : Scope} (s : Gathered) → Ready l g
      → Walks l s (walked e g l s) (occurring e (unexpanded g)) (texts e g)
  walks (values p es) s w = walks_all es s w
  walks (var p x) {l} {g} s w = record {
    uses = ap (λ o. put_all l s.uses (found x p o)) (sym (binding_unexpanded g x));
    texts = sym (append-nil s.texts);
  }
  walks (fun_name p f) {l} {g} s w = record {
    uses = ap (λ ts. put_all l s.uses ts) (thing_placed g p f);
    texts = sym (append-nil s.texts);
  }
  walks (literal p t) {l} s w = none l s
  walks (list p es e) s w = onward (walks_all es s w) (walks e _ w)
  walks (tuple p es) s w = walks_all es s w
  walks (new_map p ps) s w = walks_parts ps s w
  walks (map_of p ps e) s w = onward (walks_parts ps s w) (walks e _ w)
  walks (binary p ss) s w = walks_segments ss s w
  walks (fun p xs e) {l} {g} s w =
      own_text s _ _ _ w.room
      (under (λ h. occurring e h) g (names_of xs) (walks e (opened s) (ready_names (names_of xs) (ready_all w))))
  walks (let_in p xs a b) {l} {g} s w =
      onward (walks a s w)
      (under (λ h. occurring b h) g (names_of xs) (walks b _ (ready_names (names_of xs) w)))
  walks (letrec p ds b) {l} {g} s w =
      let inner = ready_all (ready_named ds w) in
      let defined = walks_defs ds (opened s) inner in
      let rest = walks b _ inner in
      record {
        uses = letrec_put p ds b g s.uses w defined.uses rest.uses;
        texts = group_texts s _ _ _ _ _ _ (named_longer ds g) defined rest;
      }
  walks (case p e cs) s w = onward (walks e s w) (walks_clauses cs _ w)
  walks (apply p e es) s w = onward (walks e s w) (walks_all es _ w)
  walks (call p m f es) s w = onward (onward (walks m s w) (walks f _ w)) (walks_all es _ w)
  walks (primop p n es) s w = walks_all es s w
  walks (do_then p a b) s w = onward (walks a s w) (walks b _ w)
  walks (catch p e) s w = walks e s w
  walks (try p a xs b ys c) {l} {g} s w =
      onward (onward (walks a s w)
      (under (λ h. occurring b h) g (names_of xs) (walks b _ (ready_names (names_of xs) w))))
      (under (λ h. occurring c h) g (names_of ys) (walks c _ (ready_names (names_of ys) w)))
  walks (receive p cs t b) s w = onward (onward (walks_clauses cs s w) (walks t _ w)) (walks b _ w)

  walks_all : (es : Exprs) {l : ℕ} {g : Scope} (s : Gathered) → Ready l g
      → Walks l s (walked_all es g l s) (occurring_all es (unexpanded g)) (texts_all es g)
  walks_all no_expr {l} s w = none l s
  walks_all (and_expr e es) s w = onward (walks e s w) (walks_all es _ w)

  walks_parts : (ps : MapParts) {l : ℕ} {g : Scope} (s : Gathered) → Ready l g
      → Walks l s (walked_parts ps g l s) (occurring_parts ps (unexpanded g)) (texts_parts ps g)
  walks_parts no_part {l} s w = none l s
  walks_parts (and_part (map_part k v x) ps) s w =
      onward (onward (walks k s w) (walks v _ w)) (walks_parts ps _ w)

  walks_segments : (ss : Segments) {l : ℕ} {g : Scope} (s : Gathered) → Ready l g
      → Walks l s (walked_segments ss g l s) (occurring_segments ss (unexpanded g)) (texts_segments ss g)
  walks_segments no_segment {l} s w = none l s
  walks_segments (and_segment (segment p v z u k f) ss) s w =
      onward (onward (walks v s w) (walks z _ w)) (walks_segments ss _ w)

  pub walks_defs : (ds : Defs) {l : ℕ} {g : Scope} (s : Gathered) → Ready l g
      → Walks l s (walked_defs ds g l s) (occurring_defs ds (unexpanded g)) (texts_defs ds g)
  walks_defs no_def {l} s w = none l s
  walks_defs (and_def (def p f (fun q xs e)) ds) {l} {g} s w =
      onward (under (λ h. occurring e h) g (names_of xs) (walks e s (ready_names (names_of xs) w)))
      (walks_defs ds _ w)
  walks_defs (and_def (def p f e) ds) s w = onward (walks e s w) (walks_defs ds _ w)

  walks_clauses : (cs : Clauses) {l : ℕ} {g : Scope} (s : Gathered) → Ready l g
      → Walks l s (walked_clauses cs g l s) (occurring_clauses cs (unexpanded g)) (texts_clauses cs g)
  walks_clauses no_clause {l} s w = none l s
  walks_clauses (and_clause (clause p qs e b) cs) {l} {g} s w =
      onward (onward (row_before (walks_patterns qs _ w)
      (under (λ h. occurring e h) g (bound_all qs) (walks e _ (ready_names (bound_all qs) w))))
      (under (λ h. occurring b h) g (bound_all qs) (walks b _ (ready_names (bound_all qs) w))))
      (walks_clauses cs _ w)

  walks_pattern : (q : Pattern) {l : ℕ} {g : Scope} (s : Gathered) → Ready l g
      → Puts l s (walked_pattern q g l s) (occurring_pattern q (unexpanded g))
  walks_pattern (any p x) {l} s w = nothing l s
  walks_pattern (alias p x q) s w = walks_pattern q s w
  walks_pattern (known p t) {l} s w = nothing l s
  walks_pattern (list_like p qs q) s w = then_put (walks_patterns qs s w) (walks_pattern q _ w)
  walks_pattern (tuple_like p qs) s w = walks_patterns qs s w
  walks_pattern (map_like p ks) s w = walks_keys ks s w
  walks_pattern (bits_like p ss) s w = walks_segs ss s w

  walks_patterns : (qs : Patterns) {l : ℕ} {g : Scope} (s : Gathered) → Ready l g
      → Puts l s (walked_patterns qs g l s) (occurring_patterns qs (unexpanded g))
  walks_patterns no_pattern {l} s w = nothing l s
  walks_patterns (and_pattern q qs) s w = then_put (walks_pattern q s w) (walks_patterns qs _ w)

  walks_keys : (ks : KeyPatterns) {l : ℕ} {g : Scope} (s : Gathered) → Ready l g
      → Puts l s (walked_keys ks g l s) (occurring_keys ks (unexpanded g))
  walks_keys no_key {l} s w = nothing l s
  walks_keys (and_key (key_pattern e q) ks) s w =
      then_put (then_put (put_only (walks e s w)) (walks_pattern q _ w)) (walks_keys ks _ w)

  walks_segs : (ss : SegPatterns) {l : ℕ} {g : Scope} (s : Gathered) → Ready l g
      → Puts l s (walked_segs ss g l s) (occurring_segs ss (unexpanded g))
  walks_segs no_seg {l} s w = nothing l s
  walks_segs (and_seg (seg_pattern p q e u k f) ss) {l} {g} s w =
      then_put (put_only (walks e s w))
      (under_row (λ h. occurring_segs ss h) g (bound q) (walks_segs ss _ (ready_names (bound q) w)))

-- a definition's text is that of its right side
pub def_right : (p : Place) (f : FunKey) (e : Expr) (g : Scope) (l : ℕ) (s : Gathered)
    → walked_def (def p f e) g l s ≡ right_walked e g l s
def_right p f (fun q xs e) g l s = refl
def_right p f e g l s = refl
