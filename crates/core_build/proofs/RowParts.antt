-- How rows of parts are read, of readings of their parts.
use Rattle.std.proofs.Common.{◌≡◌, refl, ap, ap₂, ◌∙◌, ℕ, List, [], ◌∷◌, Bool, true, false, Option, Some}
use Rattle.erl_base.specs.Names.{Name}
use Rattle.erl_base.specs.declared.ids.Place.{Place}
use Rattle.erl_term.specs.Term as T
use Rattle.erl_term.specs.Segments.{joined}
use Rattle.term_read.specs.Lexemes.{◌>>=◌}
use Rattle.core_lex.specs.declared.token.Token.{Token}
use Rattle.core_lex.specs.declared.token.Symbol.TheVariants as S
use Rattle.core_form.specs.declared.tree.Binder.{Binder}
use Rattle.core_form.specs.declared.module.FunName.{FunName}
use Rattle.core_form.specs.Core as C
use Rattle.core_grammar.specs.Signs.{Sign, symbol, pair_symbol, FitWhole}
use Rattle.core_actions.specs.Read.{ReadExpr}
use Rattle.core_actions.specs.Binaries.{constant_in}
use Rattle.core_build.specs.declared.item.Item.{Item}
use Rattle.core_build.specs.declared.item.Item.TheVariants as I
use Rattle.core_build.specs.declared.item.Row.{Row}
use Rattle.core_build.specs.declared.item.Row.TheVariants as R
use Rattle.core_build.specs.Values.{Value, expr, binder, name, atom, segment, seg, clause, exprs, patterns, binders, names, pairs, keys, segments, segs, clauses, defs, attributes, no_parts}
use Rattle.core_build.specs.Making.{with}
use Rattle.core_build.specs.Steps.{part_turn, next_part, on_pass, take, closes}
use Rattle.core_build.specs.Building.{run}
use Rattle.core_build.proofs.Outside.{front, kind_seen, kind_fits}
use Rattle.core_build.proofs.Fronts.{never, opens, any_kind, no_comma, no_equals, quiet, open_quiet, open_stays, closing_quiet, closing_no_comma, no_comma_passed, quiet_no_equals, front_so}
use Rattle.core_build.proofs.Leads.{Leads, seen, made, passes, Reaches, Before, Reads, ReadsRow, Begins, Expression, Pattern}

same_part : (k : Row) (t : Token) (is : List Item) (vs : List Value)
    → part_turn k t.place t.kind is vs ≡ take t (next_part k is) vs
same_part R.Exprs t is vs = refl
same_part R.Patterns t is vs = refl
same_part R.Binders t is vs = refl
same_part R.Names t is vs = refl
same_part R.Pairs t is vs = refl
same_part R.Keys t is vs = refl
same_part R.Segments t is vs = refl
same_part R.Segs t is vs = refl
same_part R.Clauses t is vs = refl
same_part R.Defs t is vs = refl
same_part R.Attributes t is vs = refl

-- a part of a row where no row ends
take_part : (k : Row) (t : Token) (is : List Item) (vs : List Value) → closes t.kind ≡ false
    → take t (I.Row k ∷ is) vs ≡ take t (next_part k is) vs
take_part k t is vs e =
    ap (λ b. on_pass b (take t is vs) (part_turn k t.place t.kind is vs)) e ∙ same_part k t is vs

run_part : (k : Row) (gs : List Sign) (is : List Item) (vs x : List Value) → front opens gs ≡ true
    → Leads gs (next_part k is) vs x → (ts : List Token) → FitWhole gs ts → run ts (I.Row k ∷ is) vs ≡ Some x
run_part k [] is vs x e l ts f = never e
run_part k (g ∷ gs) is vs x e l [] f = absurd f
run_part k (g ∷ gs) is vs x e l (t ∷ ts) f =
    ap (λ o. o >>= λ s. run ts s.0 s.1)
    (take_part k t is vs (ap closes (kind_fits g.sight t f.0) ∙ open_stays (kind_seen g.sight) e))
    ∙ l.leads (t ∷ ts) f

-- the first part of a row
pub enters : (k : Row) {gs : List Sign} {is : List Item} {vs x : List Value} → front opens gs ≡ true
    → Leads gs (next_part k is) vs x → Leads gs (I.Row k ∷ is) vs x
enters k e l = record { leads = run_part k _ _ _ _ e l }

-- a part of a row, which is u before it and v behind it; then this is to be read
pub record Part (f : List Sign → List Sign) (k : Row) (j : Item) (u v : Value) : Type 0 where
  pub on : (r : List Sign) (is : List Item) (vs x : List Value) → Before quiet r → Reaches r (j ∷ is) (v ∷ vs) x
      → Reaches (f r) (next_part k is) (u ∷ vs) x

-- the rest of a row
pub record Rest (f : List Sign → List Sign) (j : Item) (u v : Value) : Type 0 where
  pub on : (r : List Sign) (is : List Item) (vs x : List Value) → Before closes r → Reaches r is (v ∷ vs) x
      → Reaches (f r) (j ∷ is) (u ∷ vs) x
  pub quiet_it : (r : List Sign) → Before closes r → Before quiet (f r)

pub no_rest : (k : Row) (v : Value) → Rest (λ r. r) (I.More k) v v
no_rest k v = record {
  on = λ r is vs x h l.
      passes no_comma (no_comma_passed k) (front_so closes no_comma closing_no_comma _ h) refl l;
  quiet_it = λ r h. front_so closes quiet closing_quiet _ h;
}

pub no_more : (k : Row) (v : Value) → Rest (λ r. r) (I.Row k) v v
no_more k v = record {
  on = λ r is vs x h l. passes closes (λ k h. h) h refl l;
  quiet_it = λ r h. front_so closes quiet closing_quiet _ h;
}

-- behind a comma
pub rest_on : (d : ℕ) (k : Row) {f g : List Sign → List Sign} {u v w : Value} → Part f k (I.More k) u v
    → Rest g (I.More k) v w → Rest (λ r. symbol d S.Comma (f (g r))) (I.More k) u w
rest_on d k P Q = record {
  on = λ r is vs x h l. seen λ q. P.on _ is vs x (Q.quiet_it r h) (Q.on r is vs x h l);
  quiet_it = λ r h. refl;
}

-- without commas
pub more_on : (k : Row) {f g : List Sign → List Sign} {u v w : Value} → Begins f → Part f k (I.Row k) u v
    → Rest g (I.Row k) v w → Rest (λ r. f (g r)) (I.Row k) u w
more_on k B P Q = record {
  on = λ r is vs x h l. enters k (B.opens_it _) (P.on _ is vs x (Q.quiet_it r h) (Q.on r is vs x h l));
  quiet_it = λ r h. front_so opens quiet open_quiet _ (B.opens_it _);
}

pub row_of_none : (k : Row) → ReadsRow (λ r. r) k (no_parts k)
row_of_none k = record { on = λ r is vs x h l. made closes h refl (passes closes (λ k h. h) h refl l) }

pub row_of_some : (k : Row) (j : Item) {f g : List Sign → List Sign} {v w : Value} → Begins f
    → Part f k j (no_parts k) v → Rest g j v w → ReadsRow (λ r. f (g r)) k w
row_of_some k j B P Q = record {
  on = λ r is vs x h l.
      made opens (B.opens_it _) refl
      (enters k (B.opens_it _) (P.on _ is vs x (Q.quiet_it r h) (Q.on r is vs x h l)));
}

-- Parts of each row.

pub expr_part : {f : List Sign → List Sign} {e : C.Expr} (es : List C.Expr) → Expression f e
    → Part f R.Exprs (I.More R.Exprs) (exprs es) (exprs (with es e))
expr_part es F = record {
  on = λ r is vs x h l. F.reads.on _ _ _ _ h (made quiet h (ap (λ e. Some (exprs (with es e) ∷ vs)) F.is) l);
}

pub pattern_part : {f : List Sign → List Sign} {q : C.Pattern} (qs : List C.Pattern) → Pattern f q
    → Part f R.Patterns (I.More R.Patterns) (patterns qs) (patterns (with qs q))
pattern_part qs F = record {
  on = λ r is vs x h l.
      F.reads.on _ _ _ _ (front_so quiet no_equals quiet_no_equals _ h)
      (made quiet h (ap (λ q. Some (patterns (with qs q) ∷ vs)) F.is) l);
}

pub binder_part : {f : List Sign → List Sign} {b : Binder} (bs : List Binder) → Reads any_kind f I.Variable (binder b)
    → Part f R.Binders (I.More R.Binders) (binders bs) (binders (with bs b))
binder_part bs F = record {
  on = λ r is vs x h l. F.on _ _ _ _ (front_so quiet any_kind (λ k h. refl) _ h) (made quiet h refl l);
}

pub name_part : {f : List Sign → List Sign} {n : FunName} (ns : List FunName) → Reads any_kind f I.Name (name n)
    → Part f R.Names (I.More R.Names) (names ns) (names (with ns n))
name_part ns F = record {
  on = λ r is vs x h l. F.on _ _ _ _ (front_so quiet any_kind (λ k h. refl) _ h) (made quiet h refl l);
}

pub pair_part : (d : ℕ) (x : Bool) {f g : List Sign → List Sign} {a b : C.Expr} (ps : List C.MapPart)
    → Expression f a → Expression g b
    → Part (λ r. f (symbol d (pair_symbol x) (g r))) R.Pairs (I.More R.Pairs) (pairs ps)
    (pairs (with ps (C.map_part a b x)))
pair_part d true ps F G = record {
  on = λ r is vs x h l.
      F.reads.on _ _ _ _ refl (seen λ q. G.reads.on _ _ _ _ h
      (made quiet h (ap₂ (λ a b. Some (pairs (with ps (C.map_part a b true)) ∷ vs)) F.is G.is) l));
}
pair_part d false ps F G = record {
  on = λ r is vs x h l.
      F.reads.on _ _ _ _ refl (seen λ q. G.reads.on _ _ _ _ h
      (made quiet h (ap₂ (λ a b. Some (pairs (with ps (C.map_part a b false)) ∷ vs)) F.is G.is) l));
}

pub key_part : (d : ℕ) (x : Bool) {f g : List Sign → List Sign} {a : C.Expr} {b : C.Pattern}
    (ks : List C.KeyPattern) → Expression f a → Pattern g b
    → Part (λ r. f (symbol d (pair_symbol x) (g r))) R.Keys (I.More R.Keys) (keys ks)
    (keys (with ks (C.key_pattern a b)))
key_part d true ks F G = record {
  on = λ r is vs x h l.
      F.reads.on _ _ _ _ refl (seen λ q. G.reads.on _ _ _ _ (front_so quiet no_equals quiet_no_equals _ h)
      (made quiet h (ap₂ (λ a b. Some (keys (with ks (C.key_pattern a b)) ∷ vs)) F.is G.is) l));
}
key_part d false ks F G = record {
  on = λ r is vs x h l.
      F.reads.on _ _ _ _ refl (seen λ q. G.reads.on _ _ _ _ (front_so quiet no_equals quiet_no_equals _ h)
      (made quiet h (ap₂ (λ a b. Some (keys (with ks (C.key_pattern a b)) ∷ vs)) F.is G.is) l));
}

pub segment_part : {f : List Sign → List Sign} {g : C.Segment} {o : Option (List Bool)} (gs : List C.Segment)
    (os : Option (List Bool)) → Reads any_kind f I.Segment (segment g o)
    → Part f R.Segments (I.More R.Segments) (segments gs os) (segments (with gs g) (joined os o))
segment_part gs os F = record {
  on = λ r is vs x h l. F.on _ _ _ _ (front_so quiet any_kind (λ k h. refl) _ h) (made quiet h refl l);
}

pub seg_part : {f : List Sign → List Sign} {g : C.SegPattern} (gs : List C.SegPattern)
    → Reads any_kind f I.Seg (seg g) → Part f R.Segs (I.More R.Segs) (segs gs) (segs (with gs g))
seg_part gs F = record {
  on = λ r is vs x h l. F.on _ _ _ _ (front_so quiet any_kind (λ k h. refl) _ h) (made quiet h refl l);
}

pub clause_part : {f : List Sign → List Sign} {c : C.Clause} (cs : List C.Clause)
    → Reads quiet f I.Clause (clause c) → Part f R.Clauses (I.Row R.Clauses) (clauses cs) (clauses (with cs c))
clause_part cs F = record { on = λ r is vs x h l. F.on _ _ _ _ h (made quiet h refl l) }

pub def_part : (d : ℕ) {f g : List Sign → List Sign} {n : FunName} {a : C.Expr} (ds : List C.Def)
    → Reads any_kind f I.Name (name n) → Expression g a
    → Part (λ r. f (symbol d S.Equals (g r))) R.Defs (I.Row R.Defs) (defs ds)
    (defs (with ds (C.def n.place n.key a)))
def_part d {n = n} ds F G = record {
  on = λ r is vs x h l.
      F.on _ _ _ _ refl (seen λ q. G.reads.on _ _ _ _ h
      (made quiet h (ap (λ a. Some (defs (with ds (C.def n.place n.key a)) ∷ vs)) G.is) l));
}

pub attribute_part : (d : ℕ) {f g : List Sign → List Sign} {p : Place} {a : Name} {e : ReadExpr} {t : T.Term}
    (bs : List (Name × T.Term)) → Reads any_kind f I.Atom (atom p a) → Reads quiet g I.Expr (expr e)
    → constant_in e ≡ t
    → Part (λ r. f (symbol d S.Equals (g r))) R.Attributes (I.More R.Attributes) (attributes bs)
    (attributes (with bs (a, t)))
attribute_part d {a = a} bs F G e = record {
  on = λ r is vs x h l.
      F.on _ _ _ _ refl (seen λ q. G.on _ _ _ _ h
      (made quiet h (ap (λ t. Some (attributes (with bs (a, t)) ∷ vs)) e) l));
}
