-- What signs lead to: whatever tokens fit them, the same values are left.
use Rattle.std.proofs.Common.{◌≡◌, refl, sym, ap, ◌∙◌, subst, ℕ, List, [], ◌∷◌, Bool, true, false, pos, Option, None, Some}
use Rattle.erl_base.specs.declared.ids.Place.{Place}
use Rattle.term_read.specs.Lexemes.{◌>>=◌}
use Rattle.core_lex.specs.declared.token.Token.{Token}
use Rattle.core_lex.specs.declared.token.TokenKind.{TokenKind}
use Rattle.core_lex.specs.declared.token.TokenKind.TheVariants.{Number, Symbol}
use Rattle.core_lex.specs.declared.token.Symbol.TheVariants as S
use Rattle.core_form.specs.Core as C
use Rattle.core_grammar.specs.Signs.{of_kind, at_place, an_arity, Sign, symbol, FitWhole}
use Rattle.core_actions.specs.Read.{ReadExpr, ReadPattern}
use Rattle.core_actions.specs.Joining.{closed, closed_pattern}
use Rattle.core_build.specs.declared.item.Item.{Item}
use Rattle.core_build.specs.declared.item.Item.TheVariants as I
use Rattle.core_build.specs.declared.item.Make.{Make}
use Rattle.core_build.specs.declared.item.Row as Rows
use Rattle.core_build.specs.Values.{Value, expr, pattern}
use Rattle.core_build.specs.Making.{make}
use Rattle.core_build.specs.Steps.{State, is_passed, passing, turn, on_pass, take, closes, whole_row}
use Rattle.core_build.specs.Building.{outside, inside, run}
use Rattle.core_build.proofs.Outside.{front, kind_seen, kind_fits, bare_signs}
use Rattle.core_build.proofs.Fronts.{never, opens, quiet, no_equals}

-- tokens that fit the signs leave these values
pub record Leads (gs : List Sign) (is : List Item) (vs left : List Value) : Type 0 where
  pub leads : (ts : List Token) → FitWhole gs ts → run ts is vs ≡ Some left

-- the same, behind a token
abbrev pub After : Option State → List Sign → (left : List Value) → Type 0
After None gs x = ⊥
After (Some s) gs x = Leads gs s.0 s.1 x

-- what a token of a kind does at a place
abbrev pub taken : Place → TokenKind → List Item → List Value → Option State
taken p k [] vs = None
taken p k (i ∷ is) vs = on_pass (is_passed i k) (passing i vs >>= λ ws. taken p k is ws) (turn i p k is vs)

next_same : (o : Option (List Value)) (f g : List Value → Option State) → ((ws : List Value) → f ws ≡ g ws)
    → (o >>= f) ≡ (o >>= g)
next_same None f g h = refl
next_same (Some ws) f g h = h ws

take_is : (t : Token) (is : List Item) (vs : List Value) → take t is vs ≡ taken t.place t.kind is vs
take_is t [] vs = refl
take_is t (i ∷ is) vs =
    ap (λ o. on_pass (is_passed i t.kind) o (turn i t.place t.kind is vs))
    (next_same (passing i vs) (λ ws. take t is ws) (λ ws. taken t.place t.kind is ws) (λ ws. take_is t is ws))

after_run : (o : Option State) (gs : List Sign) (x : List Value) → After o gs x → (ts : List Token) → FitWhole gs ts
    → (o >>= λ s. run ts s.0 s.1) ≡ Some x
after_run None gs x a ts f = absurd a
after_run (Some s) gs x a ts f = a.leads ts f

after_token : (t : Token) (p : Place) (k : TokenKind) (is : List Item) (vs : List Value) (gs : List Sign)
    (x : List Value) → t.place ≡ p → t.kind ≡ k → After (taken p k is vs) gs x → (ts : List Token) → FitWhole gs ts
    → run (t ∷ ts) is vs ≡ Some x
after_token t p k is vs gs x e h a ts f =
    after_run (take t is vs) gs x
    (subst (λ o. After o gs x)
    (sym (take_is t is vs ∙ ap (λ q. taken q t.kind is vs) e ∙ ap (λ l. taken p l is vs) h)) a)
    ts f

run_at : (d : ℕ) (m : Bool) (p : Place) (k : TokenKind) (gs : List Sign) (is : List Item) (vs x : List Value)
    → After (taken p k is vs) gs x → (ts : List Token)
    → FitWhole (record { sight = at_place p k; depth = d; marked = m } ∷ gs) ts → run ts is vs ≡ Some x
run_at d m p k gs is vs x a [] f = absurd f
run_at d m p k gs is vs x a (t ∷ ts) f = after_token t p k is vs gs x f.0.1 f.0.0 a ts f.2

-- a token of a kind at a place
pub at : {d : ℕ} {m : Bool} {p : Place} {k : TokenKind} {gs : List Sign} {is : List Item} {vs x : List Value}
    → After (taken p k is vs) gs x → Leads (record { sight = at_place p k; depth = d; marked = m } ∷ gs) is vs x
at {d = d} {m = m} a = record { leads = run_at d m _ _ _ _ _ _ a }

run_seen : (d : ℕ) (m : Bool) (k : TokenKind) (gs : List Sign) (is : List Item) (vs x : List Value)
    → ((p : Place) → After (taken p k is vs) gs x) → (ts : List Token)
    → FitWhole (record { sight = of_kind k; depth = d; marked = m } ∷ gs) ts → run ts is vs ≡ Some x
run_seen d m k gs is vs x a [] f = absurd f
run_seen d m k gs is vs x a (t ∷ ts) f = after_token t t.place k is vs gs x refl f.0 (a t.place) ts f.2

-- of a kind
pub seen : {d : ℕ} {m : Bool} {k : TokenKind} {gs : List Sign} {is : List Item} {vs x : List Value}
    → ((p : Place) → After (taken p k is vs) gs x)
    → Leads (record { sight = of_kind k; depth = d; marked = m } ∷ gs) is vs x
seen {d = d} {m = m} a = record { leads = run_seen d m _ _ _ _ _ a }

run_arity : (d : ℕ) (m : Bool) (n : ℕ) (gs : List Sign) (is : List Item) (vs x : List Value)
    → ((p : Place) → After (taken p (Number false (pos n)) is vs) gs x) → (ts : List Token)
    → FitWhole (record { sight = an_arity n; depth = d; marked = m } ∷ gs) ts → run ts is vs ≡ Some x
run_arity d m n gs is vs x a [] f = absurd f
run_arity d m n gs is vs x a (t ∷ ts) f =
    after_token t t.place (Number false (pos n)) is vs gs x refl f.0.kind (a t.place) ts f.2

-- an arity
pub arity_seen : {d : ℕ} {m : Bool} {n : ℕ} {gs : List Sign} {is : List Item} {vs x : List Value}
    → ((p : Place) → After (taken p (Number false (pos n)) is vs) gs x)
    → Leads (record { sight = an_arity n; depth = d; marked = m } ∷ gs) is vs x
arity_seen {d = d} {m = m} a = record { leads = run_arity d m _ _ _ _ _ a }

take_passes : (t : Token) (i : Item) (is : List Item) (vs ws : List Value) → is_passed i t.kind ≡ true
    → passing i vs ≡ Some ws → take t (i ∷ is) vs ≡ take t is ws
take_passes t i is vs ws e h =
    ap (λ b. on_pass b (passing i vs >>= λ us. take t is us) (turn i t.place t.kind is vs)) e
    ∙ ap (λ o. o >>= λ us. take t is us) h

run_passes : (c : TokenKind → Bool) (i : Item) → ((k : TokenKind) → c k ≡ true → is_passed i k ≡ true)
    → (gs : List Sign) (is : List Item) (vs ws x : List Value) → front c gs ≡ true → passing i vs ≡ Some ws
    → Leads gs is ws x → (ts : List Token) → FitWhole gs ts → run ts (i ∷ is) vs ≡ Some x
run_passes c i h [] is vs ws x e p l ts f = never e
run_passes c i h (g ∷ gs) is vs ws x e p l [] f = absurd f
run_passes c i h (g ∷ gs) is vs ws x e p l (t ∷ ts) f =
    ap (λ o. o >>= λ s. run ts s.0 s.1)
    (take_passes t i is vs ws (ap (is_passed i) (kind_fits g.sight t f.0) ∙ h (kind_seen g.sight) e) p)
    ∙ l.leads (t ∷ ts) f

-- an item that is passed at such tokens
pub passes : (c : TokenKind → Bool) → {i : Item} → ((k : TokenKind) → c k ≡ true → is_passed i k ≡ true)
    → {gs : List Sign} {is : List Item} {vs ws x : List Value} → front c gs ≡ true → passing i vs ≡ Some ws
    → Leads gs is ws x → Leads gs (i ∷ is) vs x
passes c h e p l = record { leads = run_passes c _ h _ _ _ _ _ e p l }

-- what is put together
pub made : (c : TokenKind → Bool) {m : Make} {gs : List Sign} {is : List Item} {vs ws x : List Value}
    → front c gs ≡ true → make m vs ≡ Some ws → Leads gs is ws x → Leads gs (I.Make m ∷ is) vs x
made c e p l = passes c (λ k h. refl) e p l

-- from signs in a text
abbrev pub Reaches : List Sign → List Item → List Value → (left : List Value) → Type 0
Reaches r is vs x = Leads (bare_signs outside r) is vs x

-- what the first token outside of annotations is
abbrev pub Before : (TokenKind → Bool) → List Sign → Type 0
Before c r = front c (bare_signs outside r) ≡ true

-- A part is read as an item and gives a value, where such a token is behind it.
pub record Reads (c : TokenKind → Bool) (f : List Sign → List Sign) (i : Item) (v : Value) : Type 0 where
  pub on : (r : List Sign) (is : List Item) (vs x : List Value) → Before c r → Reaches r is (v ∷ vs) x
      → Reaches (f r) (i ∷ is) vs x

-- A row of parts is read where what ends rows is behind it.
pub record ReadsRow (f : List Sign → List Sign) (k : Rows.Row) (v : Value) : Type 0 where
  pub on : (r : List Sign) (is : List Item) (vs x : List Value) → Before closes r → Reaches r is (v ∷ vs) x
      → Reaches (f r) (whole_row k is) vs x

-- something begins with it
pub record Begins (f : List Sign → List Sign) : Type 0 where
  pub opens_it : (r : List Sign) → Before opens (f r)

-- an expression is read
pub record Expression (f : List Sign → List Sign) (e : C.Expr) : Type 0 where
  pub kept : ReadExpr
  pub reads : Reads quiet f I.Expr (expr kept)
  pub is : closed kept ≡ e

-- a pattern
pub record Pattern (f : List Sign → List Sign) (q : C.Pattern) : Type 0 where
  pub kept : ReadPattern
  pub reads : Reads no_equals f I.Pattern (pattern kept)
  pub is : closed_pattern kept ≡ q

-- a row is read, whose parts put together are b
pub record Gathers {A B : Type 0} (k : Rows.Row) (value : List A → Value) (together : List A → B)
    (f : List Sign → List Sign) (b : B) : Type 0 where
  pub kept : List A
  pub reads : ReadsRow f k (value kept)
  pub is : together kept ≡ b

-- what annotations hold is nothing
pub record Skipped (f : List Sign → List Sign) : Type 0 where
  pub skips : (n : ℕ) (r : List Sign) → bare_signs (inside n) (f r) ≡ bare_signs (inside n) r

-- what is annotated, read as it is in brackets
pub annotated_reads : (c : TokenKind → Bool) (d : ℕ) {f g : List Sign → List Sign} {i : Item} {v : Value}
    → c (Symbol S.CloseParen) ≡ true → Reads c f i v → Skipped g → (r : List Sign) (is : List Item)
    (vs x : List Value) → Reaches (symbol d S.CloseParen r) is (v ∷ vs) x
    → Reaches (f (symbol d S.AnnotationBar (g (symbol d S.CloseParen r)))) (i ∷ is) vs x
annotated_reads c d {v = v} e F G r is vs x k =
    let w = sym (G.skips 0 (symbol d S.CloseParen r)) in
    F.on _ is vs x (subst (λ gs. front c gs ≡ true) w e) (subst (λ gs. Leads gs is (v ∷ vs) x) w k)
