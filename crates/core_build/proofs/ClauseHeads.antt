-- Patterns that stand alone before a clause's guard: they are read as patterns are.
use Rattle.std.proofs.Common.{◌≡◌, refl, sym, ap, ◌∙◌, subst, ℕ, List, [], ◌∷◌, Bool, true, false, Some}
use Rattle.erl_base.specs.declared.ids.Place.{Place}
use Rattle.term_read.specs.Lexemes.{◌>>=◌}
use Rattle.core_lex.specs.declared.token.Token.{Token}
use Rattle.core_lex.specs.declared.token.TokenKind.{TokenKind}
use Rattle.core_lex.specs.declared.token.TokenKind.TheVariants.{Symbol}
use Rattle.core_lex.specs.declared.token.Symbol.TheVariants as S
use Rattle.core_form.specs.Core as C
use Rattle.core_grammar.specs.Signs.{at_place, Sign, plain_sign, token_at, annotated, FitWhole}
use Rattle.core_actions.specs.Read.{ReadPattern}
use Rattle.core_actions.specs.Joining.{closed, closed_pattern}
use Rattle.core_build.specs.declared.item.Item.{Item}
use Rattle.core_build.specs.declared.item.Item.TheVariants as I
use Rattle.core_build.specs.Values.{Value, pattern, clause}
use Rattle.core_build.specs.Steps.{take, clause_turn, pattern_turn}
use Rattle.core_build.specs.Building.{outside, notes_behind, run}
use Rattle.core_build.proofs.Outside.{bare_signs, sign_outside}
use Rattle.core_build.proofs.Fronts.{never, no_equals, quiet, no_alias, quiet_no_equals, quiet_no_guard, front_so}
use Rattle.core_build.proofs.Leads.{Leads, at, seen, passes, Reaches, Before, Reads, Skipped, annotated_reads}
use Rattle.core_build.proofs.PatternForms.{Head, noted_pattern}

-- with these a clause begins as a pattern does
abbrev pub begins_pattern : TokenKind → Bool
begins_pattern (Symbol S.OpenParen) = false
begins_pattern (Symbol S.OpenAngle) = false
begins_pattern (Symbol S.AnnotationBar) = false
begins_pattern _ = true

still_outside : (k : TokenKind) → begins_pattern k ≡ true → notes_behind k outside ≡ outside
still_outside (Symbol S.AnnotationBar) h = never h
still_outside _ h = refl

same_turn : (k : TokenKind) → begins_pattern k ≡ true → (p : Place) (is : List Item) (vs : List Value)
    → clause_turn p k is vs ≡ pattern_turn p k (I.When p ∷ is) vs
same_turn (Symbol S.OpenParen) h = never h
same_turn (Symbol S.OpenAngle) h = never h
same_turn (Symbol S.AnnotationBar) h = never h
same_turn _ h = λ p is vs. refl

take_clause : (p : Place) (k : TokenKind) (t : Token) (is : List Item) (vs : List Value) → begins_pattern k ≡ true
    → t.kind ≡ k → t.place ≡ p → take t (I.Clause ∷ is) vs ≡ take t (I.Pattern ∷ I.When p ∷ is) vs
take_clause p k t is vs e h l =
    same_turn t.kind (ap begins_pattern h ∙ e) t.place is vs
    ∙ ap (λ q. pattern_turn t.place t.kind (I.When q ∷ is) vs) l

run_clause : (d : ℕ) (p : Place) (k : TokenKind) (gs : List Sign) (is : List Item) (vs x : List Value)
    → begins_pattern k ≡ true → Leads (plain_sign d (at_place p k) ∷ gs) (I.Pattern ∷ I.When p ∷ is) vs x
    → (ts : List Token) → FitWhole (plain_sign d (at_place p k) ∷ gs) ts → run ts (I.Clause ∷ is) vs ≡ Some x
run_clause d p k gs is vs x e l [] f = absurd f
run_clause d p k gs is vs x e l (t ∷ ts) f =
    ap (λ o. o >>= λ s. run ts s.0 s.1) (take_clause p k t is vs e f.0.0 f.0.1) ∙ l.leads (t ∷ ts) f

-- a pattern with such a token in front, as a clause's
as_clause : {d : ℕ} {p : Place} {k : TokenKind} {gs : List Sign} {is : List Item} {vs x : List Value}
    → begins_pattern k ≡ true → Leads (plain_sign d (at_place p k) ∷ gs) (I.Pattern ∷ I.When p ∷ is) vs x
    → Leads (plain_sign d (at_place p k) ∷ gs) (I.Clause ∷ is) vs x
as_clause e l = record { leads = run_clause _ _ _ _ _ _ _ e l }

-- a pattern is read, also where a clause at a place begins with it
pub record PatternRead (f : List Sign → List Sign) (p : Place) (q : ReadPattern) : Type 0 where
  pub reads : Reads no_equals f I.Pattern (pattern q)
  pub heads : (r : List Sign) (is : List Item) (vs x : List Value) → Before no_equals r
      → Reaches r (I.When p ∷ is) (pattern q ∷ vs) x → Reaches (f r) (I.Clause ∷ is) vs x

-- of a pattern that begins with such a token
pub also_heads : (d : ℕ) (p : Place) (k : TokenKind) {f : List Sign → List Sign} {q : ReadPattern}
    → begins_pattern k ≡ true → Reads no_equals (λ r. token_at d p k (f r)) I.Pattern (pattern q)
    → PatternRead (λ r. token_at d p k (f r)) p q
also_heads d p k {f = f} e F = record {
  reads = F;
  heads = λ r is vs x h l.
      let out = still_outside k e in
      let g = plain_sign d (at_place p k) in
      subst (λ n. Leads (sign_outside n g (bare_signs n (f r))) (I.Clause ∷ is) vs x) (sym out)
      (as_clause e
      (subst (λ n. Leads (sign_outside n g (bare_signs n (f r))) (I.Pattern ∷ I.When p ∷ is) vs x) out
      (F.on r (I.When p ∷ is) vs x h l)));
}

-- the same, with nothing behind it
alone : {f : List Sign → List Sign} {q : Place} {v : ReadPattern} → PatternRead f q v
    → Reads quiet f I.Clause (pattern v)
alone {q = q} F = record {
  on = λ r is vs x h l.
      F.heads r is vs x (front_so quiet no_equals quiet_no_equals _ h) (passes quiet (quiet_no_guard q) h refl l);
}

-- in an annotation
pub noted_both : (d : ℕ) (p : Place) {f g : List Sign → List Sign} {q : Place} {v : ReadPattern} → PatternRead f q v
    → Skipped g → PatternRead (annotated true d (at_place p (Symbol S.OpenParen)) f g) p v
noted_both d p F G = record {
  reads = noted_pattern d d p F.reads G;
  heads = λ r is vs x h l.
      at (annotated_reads quiet d refl (alone F) G r _ _ _ (seen λ o. passes no_equals no_alias h refl l));
}

-- a clause with such a pattern alone
pub single_head : {f : List Sign → List Sign} {p : Place} {v : ReadPattern} {q : C.Pattern} → PatternRead f p v
    → closed_pattern v ≡ q → Head f p (C.and_pattern q C.no_pattern)
single_head {p = p} {v = v} F e = record {
  value = pattern v;
  on = F.heads;
  puts = λ g b vs.
      ap (λ q. Some (clause (C.clause p (C.and_pattern q C.no_pattern) (closed g) (closed b)) ∷ vs)) e;
}
