-- How patterns, segments and clauses are read, of readings of their parts.
use Rattle.std.proofs.Common.{◌≡◌, refl, ap, ap₂, ◌∙◌, ℕ, List, ◌∷◌, true, Some, None}
use Rattle.erl_base.specs.Names.{Name}
use Rattle.erl_base.specs.declared.ids.Place.{Place}
use Rattle.erl_term.specs.Term as T
use Rattle.core_lex.specs.declared.token.TokenKind.TheVariants.{Word, Symbol, Variable}
use Rattle.core_lex.specs.declared.token.Word.TheVariants as W
use Rattle.core_lex.specs.declared.token.Symbol.TheVariants as S
use Rattle.core_form.specs.SourceTree.{is_arity}
use Rattle.core_form.specs.Core as C
use Rattle.core_form.specs.View as Rows
use Rattle.core_grammar.specs.WrittenTree.{Spelled}
use Rattle.core_grammar.specs.Signs.{of_kind, at_place, Sign, symbol, kept_word, token_at, spelled, arity, annotated}
use Rattle.core_actions.specs.Read.{ReadExpr, ReadPattern, pattern_items}
use Rattle.core_actions.specs.Joining.{closed, tuple_of_patterns, joined_patterns}
use Rattle.core_actions.specs.Binaries.{segment_of, bits_in, seg_of}
use Rattle.core_build.specs.declared.item.Item.{Item}
use Rattle.core_build.specs.declared.item.Item.TheVariants as I
use Rattle.core_build.specs.declared.item.Make.TheVariants as M
use Rattle.core_build.specs.declared.item.Row.TheVariants as R
use Rattle.core_build.specs.Values.{Value, expr, pattern, atom, segment, seg, clause, patterns, keys, segs}
use Rattle.core_build.specs.Making.{pattern_node, segment_parts, make}
use Rattle.core_build.proofs.Fronts.{any_kind, no_equals, quiet, no_alias, quiet_no_alias, quiet_no_guard}
use Rattle.core_build.proofs.Leads.{at, seen, arity_seen, made, passes, Reaches, Before, Reads, Expression, Gathers, Skipped, annotated_reads}
use Rattle.core_build.proofs.ExprForms.{arity_goes}

pub any_read : (d : ℕ) (p : Place) (x : Name)
    → Reads no_equals (λ r. token_at d p (Variable x) r) I.Pattern (pattern_node (C.any p x))
any_read d p x = record { on = λ r is vs y h k. at (passes no_equals no_alias h refl k) }

pub external_known : (d : ℕ) (p : Place) (m f : Spelled) (n : ℕ) → is_arity n ≡ true
    → Reads no_equals
    (λ r. token_at d p (Word W.Fun) (spelled d m (symbol d S.Colon (spelled d f (arity d n r))))) I.Pattern
    (pattern_node (C.known p (T.extern m.name f.name n)))
external_known d p m f n e = record {
  on = λ r is vs x h k. at (at (seen λ q. at (seen λ q. arity_seen λ q. arity_goes n _ e refl k)));
}

pub noted_pattern : (d e : ℕ) (p : Place) {f g : List Sign → List Sign} {v : Value} → Reads no_equals f I.Pattern v
    → Skipped g → Reads no_equals (annotated true d (at_place p (Symbol S.OpenParen)) f g) I.Pattern v
noted_pattern d e p F G = record {
  on = λ r is vs x h k.
      at (annotated_reads no_equals d refl F G r _ _ _ (seen λ q. passes no_equals no_alias h refl k));
}

pub list_pattern : (d : ℕ) (p : Place) {f : List Sign → List Sign} {qs : C.Patterns}
    → Gathers R.Patterns patterns Rows.patterns f qs
    → Reads no_equals (λ r. token_at d p (Symbol S.OpenBracket) (f (symbol d S.CloseBracket r))) I.Pattern
    (pattern (pattern_items p qs None))
list_pattern d p F = record {
  on = λ r is vs x h k.
      at (F.reads.on _ _ _ _ refl (seen λ q.
      made no_equals h (ap (λ qs. Some (pattern (pattern_items p qs None) ∷ vs)) F.is) k));
}

pub list_on_pattern : (d : ℕ) (p : Place) {f g : List Sign → List Sign} {qs : C.Patterns} {u : ReadPattern}
    → Gathers R.Patterns patterns Rows.patterns f qs → Reads no_equals g I.Pattern (pattern u)
    → Reads no_equals
    (λ r. token_at d p (Symbol S.OpenBracket) (f (symbol d S.Bar (g (symbol d S.CloseBracket r))))) I.Pattern
    (pattern (joined_patterns p qs u))
list_on_pattern d p {u = u} F G = record {
  on = λ r is vs x h k.
      at (F.reads.on _ _ _ _ refl (seen λ q. G.on _ _ _ _ refl (seen λ q.
      made no_equals h (ap (λ qs. Some (pattern (joined_patterns p qs u) ∷ vs)) F.is) k)));
}

pub tuple_pattern : (d : ℕ) (p : Place) {f : List Sign → List Sign} {qs : C.Patterns}
    → Gathers R.Patterns patterns Rows.patterns f qs
    → Reads no_equals (λ r. token_at d p (Symbol S.OpenBrace) (f (symbol d S.CloseBrace r))) I.Pattern
    (pattern_node (tuple_of_patterns p qs))
tuple_pattern d p F = record {
  on = λ r is vs x h k.
      at (F.reads.on _ _ _ _ refl (seen λ q.
      made no_equals h (ap (λ qs. Some (pattern_node (tuple_of_patterns p qs) ∷ vs)) F.is) k));
}

pub map_pattern : (d : ℕ) (p : Place) {f : List Sign → List Sign} {ks : C.KeyPatterns}
    → Gathers R.Keys keys Rows.keys f ks
    → Reads no_equals (λ r. token_at d p (Symbol S.OpenMap) (f (symbol d S.CloseMap r))) I.Pattern
    (pattern_node (C.map_like p ks))
map_pattern d p F = record {
  on = λ r is vs x h k.
      at (F.reads.on _ _ _ _ refl (seen λ q.
      made no_equals h (ap (λ ks. Some (pattern_node (C.map_like p ks) ∷ vs)) F.is) k));
}

pub binary_pattern : (d : ℕ) (p : Place) {f : List Sign → List Sign} {gs : C.SegPatterns}
    → Gathers R.Segs segs Rows.segs f gs
    → Reads no_equals (λ r. token_at d p (Symbol S.OpenBinary) (f (symbol d S.CloseBinary r))) I.Pattern
    (pattern_node (C.bits_like p gs))
binary_pattern d p F = record {
  on = λ r is vs x h k.
      at (F.reads.on _ _ _ _ refl (seen λ q.
      made no_equals h (ap (λ gs. Some (pattern_node (C.bits_like p gs) ∷ vs)) F.is) k));
}

-- Segments.

pub segment_read : (d : ℕ) (p q : Place) {f g h i j : List Sign → List Sign} {v u n w : ReadExpr} {a : Name}
    → Reads quiet f I.Expr (expr v) → Reads quiet g I.Expr (expr u) → Reads quiet h I.Expr (expr n)
    → Reads any_kind i I.Atom (atom q a) → Reads quiet j I.Expr (expr w)
    → Reads any_kind
    (λ r. token_at d p (Symbol S.OpenSegment) (f (symbol d S.CloseAngle (symbol d S.OpenParen
    (g (symbol d S.Comma (h (symbol d S.Comma (i (symbol d S.Comma (j (symbol d S.CloseParen r))))))))))))
    I.Segment (segment (segment_of p v (segment_parts u n a w)) (bits_in v (segment_parts u n a w)))
segment_read d p q F G H K J = record {
  on = λ r is vs x h k.
      at (F.on _ _ _ _ refl (seen λ q. seen λ q. G.on _ _ _ _ refl (seen λ q. H.on _ _ _ _ refl (seen λ q.
      K.on _ _ _ _ refl (seen λ q. J.on _ _ _ _ refl (seen λ q. made any_kind h refl k))))));
}

pub seg_read : (d : ℕ) (p q : Place) {f g h i j : List Sign → List Sign} {v : ReadPattern} {u n w : ReadExpr} {a : Name}
    → Reads no_equals f I.Pattern (pattern v) → Reads quiet g I.Expr (expr u) → Reads quiet h I.Expr (expr n)
    → Reads any_kind i I.Atom (atom q a) → Reads quiet j I.Expr (expr w)
    → Reads any_kind
    (λ r. token_at d p (Symbol S.OpenSegment) (f (symbol d S.CloseAngle (symbol d S.OpenParen
    (g (symbol d S.Comma (h (symbol d S.Comma (i (symbol d S.Comma (j (symbol d S.CloseParen r))))))))))))
    I.Seg (seg (seg_of p v (segment_parts u n a w)))
seg_read d p q F G H K J = record {
  on = λ r is vs x h k.
      at (F.on _ _ _ _ refl (seen λ q. seen λ q. G.on _ _ _ _ refl (seen λ q. H.on _ _ _ _ refl (seen λ q.
      K.on _ _ _ _ refl (seen λ q. J.on _ _ _ _ refl (seen λ q. made any_kind h refl k))))));
}

pub noted_segment_read : (d : ℕ) {f g : List Sign → List Sign} {v : Value} → Reads any_kind f I.Segment v
    → Skipped g → Reads any_kind (annotated true d (of_kind (Symbol S.OpenParen)) f g) I.Segment v
noted_segment_read d F G = record {
  on = λ r is vs x h k. seen λ q. annotated_reads any_kind d refl F G r _ _ _ (seen λ q. k);
}

pub noted_seg_read : (d : ℕ) {f g : List Sign → List Sign} {v : Value} → Reads any_kind f I.Seg v
    → Skipped g → Reads any_kind (annotated true d (of_kind (Symbol S.OpenParen)) f g) I.Seg v
noted_seg_read d F G = record {
  on = λ r is vs x h k. seen λ q. annotated_reads any_kind d refl F G r _ _ _ (seen λ q. k);
}

-- Clauses.

-- the patterns of a clause at a place, behind which its guard is read
pub record Head (f : List Sign → List Sign) (p : Place) (qs : C.Patterns) : Type 0 where
  pub value : Value
  pub on : (r : List Sign) (is : List Item) (vs x : List Value) → Before no_equals r
      → Reaches r (I.When p ∷ is) (value ∷ vs) x → Reaches (f r) (I.Clause ∷ is) vs x
  pub puts : (g b : ReadExpr) (vs : List Value) → make (M.Clause p) (expr b ∷ expr g ∷ value ∷ vs)
      ≡ Some (clause (C.clause p qs (closed g) (closed b)) ∷ vs)

pub clause_read : (d : ℕ) (p : Place) {f g h : List Sign → List Sign} {qs : C.Patterns} {a b : C.Expr}
    → Head f p qs → Expression g a → Expression h b
    → Reads quiet (λ r. f (kept_word d W.When (g (symbol d S.Arrow (h r))))) I.Clause (clause (C.clause p qs a b))
clause_read d p {qs = qs} H F G = record {
  on = λ r is vs x h k.
      H.on _ _ _ _ refl (seen λ q. F.reads.on _ _ _ _ refl (seen λ q. G.reads.on _ _ _ _ h
      (made quiet h
      (H.puts F.kept G.kept vs ∙ ap₂ (λ a b. Some (clause (C.clause p qs a b) ∷ vs)) F.is G.is) k)));
}

pub noted_clause_read : (d : ℕ) {f g : List Sign → List Sign} {v : Value} → Reads quiet f I.Clause v → Skipped g
    → Reads quiet (annotated true d (of_kind (Symbol S.OpenParen)) f g) I.Clause v
noted_clause_read d F G = record {
  on = λ r is vs x h k.
      seen λ q. annotated_reads quiet d refl F G r _ _ _
      (seen λ p. passes quiet quiet_no_alias h refl (passes quiet (quiet_no_guard q) h refl k));
}

-- patterns in angle brackets
pub angled_head : (d : ℕ) (p : Place) {f : List Sign → List Sign} {qs : C.Patterns}
    → Gathers R.Patterns patterns Rows.patterns f qs
    → Head (λ r. token_at d p (Symbol S.OpenAngle) (f (symbol d S.CloseAngle r))) p qs
angled_head d p F = record {
  value = patterns F.kept;
  on = λ r is vs x h k. at (F.reads.on _ _ _ _ refl (seen λ q. k));
  puts = λ g b vs. ap (λ qs. Some (clause (C.clause p qs (closed g) (closed b)) ∷ vs)) F.is;
}
