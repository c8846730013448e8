-- How expressions are read, of readings of their parts.
use Rattle.std.proofs.Common.{◌≡◌, refl, sym, ap, ap₂, subst, ℕ, List, ◌∷◌, Bool, true, false, pos, Option, Some, None, if◌then◌else◌}
use Rattle.erl_base.specs.declared.ids.Place.{Place}
use Rattle.erl_base.specs.Names.{Name}
use Rattle.erl_term.specs.Term as T
use Rattle.term_read.specs.Lexemes.{◌>>=◌}
use Rattle.core_lex.specs.declared.token.TokenKind.TheVariants.{Word, Symbol, Atom, Number}
use Rattle.core_lex.specs.declared.token.Word.TheVariants as W
use Rattle.core_lex.specs.declared.token.Symbol.TheVariants as S
use Rattle.core_form.specs.declared.tree.Binder.{Binder}
use Rattle.core_form.specs.SourceTree.{is_arity}
use Rattle.core_form.specs.Core as C
use Rattle.core_form.specs.View as Rows
use Rattle.core_grammar.specs.WrittenTree.{Spelled}
use Rattle.core_grammar.specs.Signs.{at_place, Sign, symbol, kept_word, token_at, spelled, arity, in_parens, annotated, catch_arrow}
use Rattle.core_grammar.specs.ModuleOf.{function_key}
use Rattle.core_actions.specs.Read.{ReadExpr, items}
use Rattle.core_actions.specs.Joining.{tuple_of_items, map_of_parts, joined}
use Rattle.core_actions.specs.Binaries.{binary_of}
use Rattle.core_build.specs.declared.item.Item.{Item}
use Rattle.core_build.specs.declared.item.Item.TheVariants as I
use Rattle.core_build.specs.declared.item.Row.TheVariants as R
use Rattle.core_build.specs.Values.{Value, expr, binders, exprs, pairs, segments, clauses, defs}
use Rattle.core_build.specs.Making.{node}
use Rattle.core_build.specs.Steps.{on_arity}
use Rattle.core_build.proofs.Fronts.{any_kind, quiet, open_quiet, opens, quiet_no_slash, front_so}
use Rattle.core_build.proofs.Leads.{Leads, After, at, seen, arity_seen, made, passes, Reads, ReadsRow, Begins, Expression, Gathers, Skipped, annotated_reads}

-- an arity
pub arity_goes : (n : ℕ) (f : ℕ → Option (List Value)) {is : List Item} {ws x : List Value} {gs : List Sign}
    → is_arity n ≡ true → f n ≡ Some ws → Leads gs is ws x → After (on_arity (Number false (pos n)) f is) gs x
arity_goes n f {is = is} {ws = ws} {x = x} {gs = gs} e h k =
    subst (λ b. After ((if b then Some n else None) >>= f >>= λ vs. Some (is, vs)) gs x) (sym e)
    (subst (λ o. After (o >>= λ vs. Some (is, vs)) gs x) (sym h) k)

pub atom_read : (d : ℕ) (p : Place) (a : Name)
    → Reads quiet (λ r. token_at d p (Atom a) r) I.Expr (node (C.literal p (T.atom a)))
atom_read d p a = record { on = λ r is vs x h k. at (passes quiet quiet_no_slash h refl k) }

pub function_name_read : (d : ℕ) (p : Place) (a : Name) (n : ℕ) → is_arity n ≡ true
    → Reads any_kind (λ r. token_at d p (Atom a) (arity d n r)) I.Expr (node (C.fun_name p (function_key a n)))
function_name_read d p a n e = record {
  on = λ r is vs x h k. at (seen λ q. arity_seen λ q. arity_goes n _ e refl k);
}

pub external_read : (d : ℕ) (p : Place) (m f : Spelled) (n : ℕ) → is_arity n ≡ true
    → Reads any_kind
    (λ r. token_at d p (Word W.Fun) (spelled d m (symbol d S.Colon (spelled d f (arity d n r))))) I.Expr
    (node (C.literal p (T.extern m.name f.name n)))
external_read d p m f n e = record {
  on = λ r is vs x h k. at (at (seen λ q. at (seen λ q. arity_seen λ q. arity_goes n _ e refl k)));
}

pub noted_read : (d e : ℕ) (p : Place) {f g : List Sign → List Sign} {v : Value} → Reads quiet f I.Expr v → Skipped g
    → Reads any_kind (annotated true d (at_place p (Symbol S.OpenParen)) f g) I.Expr v
noted_read d e p F G = record {
  on = λ r is vs x h k. at (annotated_reads quiet d refl F G r _ _ _ (seen λ q. k));
}

pub list_read : (d : ℕ) (p : Place) {f : List Sign → List Sign} {es : C.Exprs}
    → Gathers R.Exprs exprs Rows.exprs f es
    → Reads quiet (λ r. token_at d p (Symbol S.OpenBracket) (f (symbol d S.CloseBracket r))) I.Expr
    (expr (items p es None))
list_read d p F = record {
  on = λ r is vs x h k.
      at (F.reads.on _ _ _ _ refl (seen λ q. made quiet h (ap (λ es. Some (expr (items p es None) ∷ vs)) F.is) k));
}

pub list_on_read : (d : ℕ) (p : Place) {f g : List Sign → List Sign} {es : C.Exprs} {u : ReadExpr}
    → Gathers R.Exprs exprs Rows.exprs f es → Reads quiet g I.Expr (expr u)
    → Reads quiet
    (λ r. token_at d p (Symbol S.OpenBracket) (f (symbol d S.Bar (g (symbol d S.CloseBracket r))))) I.Expr
    (expr (joined p es u))
list_on_read d p {u = u} F G = record {
  on = λ r is vs x h k.
      at (F.reads.on _ _ _ _ refl (seen λ q. G.on _ _ _ _ refl (seen λ q.
      made quiet h (ap (λ es. Some (expr (joined p es u) ∷ vs)) F.is) k)));
}

pub tuple_read : (d : ℕ) (p : Place) {f : List Sign → List Sign} {es : C.Exprs}
    → Gathers R.Exprs exprs Rows.exprs f es
    → Reads quiet (λ r. token_at d p (Symbol S.OpenBrace) (f (symbol d S.CloseBrace r))) I.Expr
    (node (tuple_of_items p es))
tuple_read d p F = record {
  on = λ r is vs x h k.
      at (F.reads.on _ _ _ _ refl (seen λ q.
      made quiet h (ap (λ es. Some (node (tuple_of_items p es) ∷ vs)) F.is) k));
}

pub values_read : (d : ℕ) (p : Place) {f : List Sign → List Sign} {es : C.Exprs}
    → Gathers R.Exprs exprs Rows.exprs f es
    → Reads quiet (λ r. token_at d p (Symbol S.OpenAngle) (f (symbol d S.CloseAngle r))) I.Expr
    (node (C.values p es))
values_read d p F = record {
  on = λ r is vs x h k.
      at (F.reads.on _ _ _ _ refl (seen λ q. made quiet h (ap (λ es. Some (node (C.values p es) ∷ vs)) F.is) k));
}

pub map_read : (d : ℕ) (p : Place) {f : List Sign → List Sign} {ps : C.MapParts}
    → Gathers R.Pairs pairs Rows.parts f ps
    → Reads quiet (λ r. token_at d p (Symbol S.OpenMap) (f (symbol d S.CloseMap r))) I.Expr
    (node (map_of_parts p ps))
map_read d p F = record {
  on = λ r is vs x h k.
      at (F.reads.on _ _ _ _ refl (seen λ q.
      made quiet h (ap (λ ps. Some (node (map_of_parts p ps) ∷ vs)) F.is) k));
}

pub map_on_read : (d : ℕ) (p : Place) {f g : List Sign → List Sign} {ps : C.MapParts} {b : C.Expr}
    → Gathers R.Pairs pairs Rows.parts f ps → Expression g b
    → Reads quiet (λ r. token_at d p (Symbol S.OpenMap) (f (symbol d S.Bar (g (symbol d S.CloseMap r))))) I.Expr
    (node (C.map_of p ps b))
map_on_read d p F G = record {
  on = λ r is vs x h k.
      at (F.reads.on _ _ _ _ refl (seen λ q. G.reads.on _ _ _ _ refl (seen λ q.
      made quiet h (ap₂ (λ ps b. Some (node (C.map_of p ps b) ∷ vs)) F.is G.is) k)));
}

pub binary_read : (d : ℕ) (p : Place) {f : List Sign → List Sign} {gs : C.Segments} {bs : Option (List Bool)}
    → Gathers R.Segments (λ gs. segments gs bs) Rows.segments f gs
    → Reads quiet (λ r. token_at d p (Symbol S.OpenBinary) (f (symbol d S.CloseBinary r))) I.Expr
    (node (binary_of p gs bs))
binary_read d p {bs = bs} F = record {
  on = λ r is vs x h k.
      at (F.reads.on _ _ _ _ refl (seen λ q.
      made quiet h (ap (λ gs. Some (node (binary_of p gs bs) ∷ vs)) F.is) k));
}

pub fun_read : (d : ℕ) (p : Place) {f g : List Sign → List Sign} {xs : List Binder} {b : C.Expr}
    → ReadsRow f R.Binders (binders xs) → Expression g b
    → Reads quiet
    (λ r. token_at d p (Word W.Fun) (symbol d S.OpenParen (f (symbol d S.CloseParen (symbol d S.Arrow (g r))))))
    I.Expr (node (C.fun p xs b))
fun_read d p {xs = xs} F G = record {
  on = λ r is vs x h k.
      at (seen λ q. F.on _ _ _ _ refl (seen λ q. seen λ q. G.reads.on _ _ _ _ h
      (made quiet h (ap (λ b. Some (node (C.fun p xs b) ∷ vs)) G.is) k)));
}

pub let_read : (d : ℕ) (p : Place) {f g h : List Sign → List Sign} {xs : List Binder} {a b : C.Expr}
    → Reads any_kind f I.Group (binders xs) → Expression g a → Expression h b
    → Reads quiet
    (λ r. token_at d p (Word W.Let) (f (symbol d S.Equals (g (kept_word d W.In (h r)))))) I.Expr
    (node (C.let_in p xs a b))
let_read d p {xs = xs} F G H = record {
  on = λ r is vs x h k.
      at (F.on _ _ _ _ refl (seen λ q. G.reads.on _ _ _ _ refl (seen λ q. H.reads.on _ _ _ _ h
      (made quiet h (ap₂ (λ a b. Some (node (C.let_in p xs a b) ∷ vs)) G.is H.is) k))));
}

pub letrec_read : (d : ℕ) (p : Place) {f g : List Sign → List Sign} {ds : C.Defs} {b : C.Expr}
    → Gathers R.Defs defs Rows.defs f ds → Expression g b
    → Reads quiet (λ r. token_at d p (Word W.Letrec) (f (kept_word d W.In (g r)))) I.Expr (node (C.letrec p ds b))
letrec_read d p F G = record {
  on = λ r is vs x h k.
      at (F.reads.on _ _ _ _ refl (seen λ q. G.reads.on _ _ _ _ h
      (made quiet h (ap₂ (λ ds b. Some (node (C.letrec p ds b) ∷ vs)) F.is G.is) k)));
}

pub case_read : (d : ℕ) (p : Place) {f g : List Sign → List Sign} {a : C.Expr} {cs : C.Clauses}
    → Expression f a → Gathers R.Clauses clauses Rows.clauses g cs
    → Reads quiet (λ r. token_at d p (Word W.Case) (f (kept_word d W.Of (g (kept_word d W.End r))))) I.Expr
    (node (C.case p a cs))
case_read d p F G = record {
  on = λ r is vs x h k.
      at (F.reads.on _ _ _ _ refl (seen λ q. G.reads.on _ _ _ _ refl (seen λ q.
      made quiet h (ap₂ (λ a cs. Some (node (C.case p a cs) ∷ vs)) F.is G.is) k)));
}

pub apply_read : (d : ℕ) (p : Place) {f g : List Sign → List Sign} {a : C.Expr} {es : C.Exprs}
    → Expression f a → Gathers R.Exprs exprs Rows.exprs g es
    → Reads quiet (λ r. token_at d p (Word W.Apply) (f (in_parens d g r))) I.Expr (node (C.apply p a es))
apply_read d p F G = record {
  on = λ r is vs x h k.
      at (F.reads.on _ _ _ _ refl (seen λ q. G.reads.on _ _ _ _ refl (seen λ q.
      made quiet h (ap₂ (λ a es. Some (node (C.apply p a es) ∷ vs)) F.is G.is) k)));
}

called_as : (p : Place) {m n f g : C.Expr} {es fs : C.Exprs} (vs : List Value) → m ≡ n → f ≡ g → es ≡ fs
    → Some (node (C.call p m f es) ∷ vs) ≡ Some (node (C.call p n g fs) ∷ vs)
called_as p vs e h i = cc

pub call_read : (d : ℕ) (p : Place) {f g h : List Sign → List Sign} {m n : C.Expr} {es : C.Exprs}
    → Expression f m → Expression g n → Gathers R.Exprs exprs Rows.exprs h es
    → Reads quiet (λ r. token_at d p (Word W.Call) (f (symbol d S.Colon (g (in_parens d h r))))) I.Expr
    (node (C.call p m n es))
call_read d p F G H = record {
  on = λ r is vs x h k.
      at (F.reads.on _ _ _ _ refl (seen λ q. G.reads.on _ _ _ _ refl (seen λ q. H.reads.on _ _ _ _ refl (seen λ q.
      made quiet h (called_as p vs F.is G.is H.is) k))));
}

pub primop_read : (d : ℕ) (p : Place) (a : Spelled) {f : List Sign → List Sign} {es : C.Exprs}
    → Gathers R.Exprs exprs Rows.exprs f es
    → Reads quiet (λ r. token_at d p (Word W.Primop) (spelled d a (in_parens d f r))) I.Expr
    (node (C.primop p a.name es))
primop_read d p a F = record {
  on = λ r is vs x h k.
      at (at (seen λ q. F.reads.on _ _ _ _ refl (seen λ q.
      made quiet h (ap (λ es. Some (node (C.primop p a.name es) ∷ vs)) F.is) k)));
}

pub do_read : (d : ℕ) (p : Place) {f g : List Sign → List Sign} {a b : C.Expr} → Expression f a → Expression g b
    → Begins g → Reads quiet (λ r. token_at d p (Word W.Do) (f (g r))) I.Expr (node (C.do_then p a b))
do_read d p F G B = record {
  on = λ r is vs x h k.
      at (F.reads.on _ _ _ _ (front_so opens quiet open_quiet _ (B.opens_it r)) (G.reads.on _ _ _ _ h
      (made quiet h (ap₂ (λ a b. Some (node (C.do_then p a b) ∷ vs)) F.is G.is) k)));
}

pub catch_read : (d : ℕ) (p : Place) {f : List Sign → List Sign} {a : C.Expr} → Expression f a
    → Reads quiet (λ r. token_at d p (Word W.Catch) (f r)) I.Expr (node (C.catch p a))
catch_read d p F = record {
  on = λ r is vs x h k.
      at (F.reads.on _ _ _ _ h (made quiet h (ap (λ a. Some (node (C.catch p a) ∷ vs)) F.is) k));
}

tried_as : (p : Place) (xs ys : List Binder) {a i b j c k : C.Expr} (vs : List Value) → a ≡ i → b ≡ j → c ≡ k
    → Some (node (C.try p a xs b ys c) ∷ vs) ≡ Some (node (C.try p i xs j ys k) ∷ vs)
tried_as p xs ys vs e h i = cc

pub try_read : (d n : ℕ) (p : Place) {f g h i j : List Sign → List Sign} {a b c : C.Expr} {xs ys : List Binder}
    → Expression f a → Reads any_kind g I.Group (binders xs) → Expression h b
    → Reads any_kind i I.Group (binders ys) → Expression j c
    → Reads quiet
    (λ r. token_at d p (Word W.Try) (f (kept_word d W.Of (g (symbol d S.Arrow (h (kept_word d W.Catch
    (i (catch_arrow d n (j r))))))))))
    I.Expr (node (C.try p a xs b ys c))
try_read d n p {xs = xs} {ys = ys} F G H K J = record {
  on = λ r is vs x h k.
      at (F.reads.on _ _ _ _ refl (seen λ q. G.on _ _ _ _ refl (seen λ q. H.reads.on _ _ _ _ refl (seen λ q.
      K.on _ _ _ _ refl (seen λ q. J.reads.on _ _ _ _ h
      (made quiet h (tried_as p xs ys vs F.is H.is J.is) k))))));
}

received_as : (p : Place) {cs ds : C.Clauses} {a b e f : C.Expr} (vs : List Value) → cs ≡ ds → a ≡ e → b ≡ f
    → Some (node (C.receive p cs a b) ∷ vs) ≡ Some (node (C.receive p ds e f) ∷ vs)
received_as p vs e h i = cc

pub receive_read : (d : ℕ) (p : Place) {f g h : List Sign → List Sign} {cs : C.Clauses} {a b : C.Expr}
    → Gathers R.Clauses clauses Rows.clauses f cs → Expression g a → Expression h b
    → Reads quiet
    (λ r. token_at d p (Word W.Receive) (f (kept_word d W.After (g (symbol d S.Arrow (h r)))))) I.Expr
    (node (C.receive p cs a b))
receive_read d p F G H = record {
  on = λ r is vs x h k.
      at (F.reads.on _ _ _ _ refl (seen λ q. G.reads.on _ _ _ _ refl (seen λ q. H.reads.on _ _ _ _ h
      (made quiet h (received_as p vs F.is G.is H.is) k))));
}
