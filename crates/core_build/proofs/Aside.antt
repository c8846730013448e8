-- What annotations hold is passed by, and what is seen outside of them is what the written tree has there.
use Rattle.std.proofs.Common.{◌≡◌, refl, sym, ap, ap₂, ◌∙◌, subst, ℕ, suc, List, [], ◌∷◌, Bool, true, false, pos, Option, None, Some}
use Rattle.erl_base.specs.declared.ids.Place.{Place}
use Rattle.core_lex.specs.declared.token.Token.{Token}
use Rattle.core_lex.specs.declared.token.TokenKind.{TokenKind}
use Rattle.core_lex.specs.declared.token.TokenKind.TheVariants.{Word, Symbol, Number, End}
use Rattle.core_lex.specs.declared.token.Word as Words
use Rattle.core_lex.specs.declared.token.Symbol as Symbols
use Rattle.core_lex.specs.declared.token.Symbol.TheVariants as S
use Rattle.core_grammar.specs.Signs.{Sight, of_kind, at_place, an_arity, Sign, plain_sign, Fits, FitWhole, symbol, kept_word, token_at, arity, comma_before, catch_arrow, annotated}
use Rattle.core_grammar.specs.ModuleOf.{first_seen}
use Rattle.core_build.specs.Building.{outside, inside, notes_behind, first_in}
use Rattle.core_build.proofs.Outside.{kind_seen, bare_signs, sign_outside}
use Rattle.core_build.proofs.Fronts.{never}
use Rattle.core_build.proofs.Leads.{Skipped}

-- no bracket of an annotation
abbrev pub neutral : TokenKind → Bool
neutral (Symbol S.AnnotationBar) = false
neutral (Symbol S.OpenParen) = false
neutral (Symbol S.CloseParen) = false
neutral _ = true

pub neutral_inside : (k : TokenKind) (n : ℕ) → neutral k ≡ true → notes_behind k (inside n) ≡ inside n
neutral_inside (Symbol S.AnnotationBar) n h = refl
neutral_inside (Symbol S.OpenParen) n h = never h
neutral_inside (Symbol S.CloseParen) n h = never h
neutral_inside _ n h = refl

pub neutral_outside : (k : TokenKind) → neutral k ≡ true → notes_behind k outside ≡ outside
neutral_outside (Symbol S.AnnotationBar) h = never h
neutral_outside _ h = refl

-- what never shows anything
pub record Blind {A : Type 0} (see : Sight → Option A) : Type 0 where
  pub symbols : (p : Place) (s : Symbols.Symbol) → see (at_place p (Symbol s)) ≡ None
  pub words : (p : Place) (w : Words.Word) → see (at_place p (Word w)) ≡ None
  pub numbers : (p : Place) (n : ℕ) → see (at_place p (Number false (pos n))) ≡ None
  pub ends : (p : Place) → see (at_place p End) ≡ None
  pub kinds : (k : TokenKind) → see (of_kind k) ≡ None
  pub arities : (n : ℕ) → see (an_arity n) ≡ None

module _ {A : Type 0} (see : Sight → Option A) (b : Blind see) where
  -- tokens that fit the first signs show what the second signs show
  pub record Sees (gs hs : List Sign) : Type 0 where
    pub sees : (ts : List Token) → FitWhole gs ts → first_in see ts ≡ first_seen see hs

  abbrev or_later : Option A → Option A → Option A
  or_later o later = elim o [ None ↦ later | Some x ↦ Some x ]

  same_run : (g : Sign) (gs hs : List Sign)
      → ((t : Token) → Fits g.sight t → see (at_place t.place t.kind) ≡ see g.sight) → Sees gs hs
      → (ts : List Token) → FitWhole (g ∷ gs) ts → first_in see ts ≡ first_seen see (g ∷ hs)
  same_run g gs hs e k [] f = absurd f
  same_run g gs hs e k (t ∷ ts) f = ap₂ or_later (e t f.0) (k.sees ts f.2)

  pub same_sees : (g : Sign) {gs hs : List Sign}
      → ((t : Token) → Fits g.sight t → see (at_place t.place t.kind) ≡ see g.sight) → Sees gs hs
      → Sees (g ∷ gs) (g ∷ hs)
  same_sees g e k = record { sees = same_run g _ _ e k }

  blind_run : (g : Sign) (gs hs : List Sign) → ((t : Token) → Fits g.sight t → see (at_place t.place t.kind) ≡ None)
      → Sees gs hs → (ts : List Token) → FitWhole (g ∷ gs) ts → first_in see ts ≡ first_seen see hs
  blind_run g gs hs e k [] f = absurd f
  blind_run g gs hs e k (t ∷ ts) f = ap (λ o. or_later o (first_in see ts)) (e t f.0) ∙ k.sees ts f.2

  pub blind_sees : (g : Sign) {gs hs : List Sign}
      → ((t : Token) → Fits g.sight t → see (at_place t.place t.kind) ≡ None) → Sees gs hs → Sees (g ∷ gs) hs
  blind_sees g e k = record { sees = blind_run g _ _ e k }

  -- the first is written with annotations, the second without them
  pub record SeenAs (f h : List Sign → List Sign) : Type 0 where
    pub skipped : Skipped f
    pub seen : (r q : List Sign) → Sees (bare_signs outside r) q → Sees (bare_signs outside (f r)) (h q)

  pub nothing : SeenAs (λ r. r) (λ r. r)
  nothing = record { skipped = record { skips = λ n r. refl }; seen = λ r q k. k }

  pub behind : {f g h i : List Sign → List Sign} → SeenAs f h → SeenAs g i → SeenAs (λ r. f (g r)) (λ r. h (i r))
  behind F G = record {
    skipped = record { skips = λ n r. F.skipped.skips n _ ∙ G.skipped.skips n r };
    seen = λ r q k. F.seen _ _ (G.seen r q k);
  }

  sign_seen : (g : Sign) {f h : List Sign → List Sign} → neutral (kind_seen g.sight) ≡ true
      → ((t : Token) → Fits g.sight t → see (at_place t.place t.kind) ≡ see g.sight) → SeenAs f h
      → SeenAs (λ r. g ∷ f r) (λ r. g ∷ h r)
  sign_seen g {f = f} {h = h} e w F = record {
    skipped = record {
      skips = λ n r.
          subst (λ m. sign_outside m g (bare_signs m (f r)) ≡ bare_signs (inside n) r)
          (sym (neutral_inside (kind_seen g.sight) n e)) (F.skipped.skips n r);
    };
    seen = λ r q k.
        subst (λ m. Sees (sign_outside m g (bare_signs m (f r))) (g ∷ h q))
        (sym (neutral_outside (kind_seen g.sight) e)) (same_sees g w (F.seen r q k));
  }

  at_seen : (p : Place) (k : TokenKind) (t : Token) → Fits (at_place p k) t
      → see (at_place t.place t.kind) ≡ see (at_place p k)
  at_seen p k t f = ap₂ (λ q l. see (at_place q l)) f.1 f.0

  symbol_blind : (s : Symbols.Symbol) (t : Token) → Fits (of_kind (Symbol s)) t → see (at_place t.place t.kind) ≡ None
  symbol_blind s t f = ap (λ l. see (at_place t.place l)) f ∙ b.symbols t.place s

  word_blind : (w : Words.Word) (t : Token) → Fits (of_kind (Word w)) t → see (at_place t.place t.kind) ≡ None
  word_blind w t f = ap (λ l. see (at_place t.place l)) f ∙ b.words t.place w

  -- a token at a place, and what is behind it
  pub token : (d : ℕ) (p : Place) (k : TokenKind) {f h : List Sign → List Sign} → neutral k ≡ true → SeenAs f h
      → SeenAs (λ r. token_at d p k (f r)) (λ r. token_at d p k (h r))
  token d p k e F = sign_seen (plain_sign d (at_place p k)) e (at_seen p k) F

  -- a symbol
  pub mark : (d : ℕ) (s : Symbols.Symbol) {f h : List Sign → List Sign} → neutral (Symbol s) ≡ true → SeenAs f h
      → SeenAs (λ r. symbol d s (f r)) (λ r. symbol d s (h r))
  mark d s e F =
      sign_seen (plain_sign d (of_kind (Symbol s))) e (λ t f. symbol_blind s t f ∙ sym (b.kinds (Symbol s))) F

  -- a word
  pub word : (d : ℕ) (w : Words.Word) {f h : List Sign → List Sign} → SeenAs f h
      → SeenAs (λ r. kept_word d w (f r)) (λ r. kept_word d w (h r))
  word d w F =
      sign_seen (plain_sign d (of_kind (Word w))) refl (λ t f. word_blind w t f ∙ sym (b.kinds (Word w))) F

  -- an arrow that may be marked
  pub arrow : (d n : ℕ) {f h : List Sign → List Sign} → SeenAs f h
      → SeenAs (λ r. catch_arrow d n (f r)) (λ r. catch_arrow d n (h r))
  arrow d n F = sign_seen _ refl (λ t f. symbol_blind S.Arrow t f ∙ sym (b.kinds (Symbol S.Arrow))) F

  -- a slash and an arity
  pub count : (d n : ℕ) → SeenAs (λ r. arity d n r) (λ r. arity d n r)
  count d n =
      mark d S.Slash refl (sign_seen (plain_sign d (an_arity n)) refl
      (λ t f. ap (λ l. see (at_place t.place l)) f.kind ∙ b.numbers t.place n ∙ sym (b.arities n)) nothing)

  -- a comma, but before a first item
  pub comma : (first : Bool) (d : ℕ) {f h : List Sign → List Sign} → SeenAs f h
      → SeenAs (λ r. comma_before first d (f r)) (λ r. comma_before first d (h r))
  comma true d F = F
  comma false d F = mark d S.Comma refl F

  -- in brackets, and what is behind them
  pub brackets : (d : ℕ) {f g h i : List Sign → List Sign} → SeenAs f h → SeenAs g i
      → SeenAs (λ r. symbol d S.OpenParen (f (symbol d S.CloseParen (g r))))
      (λ r. symbol d S.OpenParen (h (symbol d S.CloseParen (i r))))
  brackets d F G = record {
    skipped = record { skips = λ n r. F.skipped.skips (suc n) _ ∙ G.skipped.skips n r };
    seen = λ r q k.
        same_sees _ (λ t f. symbol_blind S.OpenParen t f ∙ sym (b.kinds (Symbol S.OpenParen)))
        (F.seen _ _ (same_sees _ (λ t f. symbol_blind S.CloseParen t f ∙ sym (b.kinds (Symbol S.CloseParen)))
        (G.seen r q k)));
  }

  noted_skips : (d : ℕ) {f g h i : List Sign → List Sign} → SeenAs f h → SeenAs g i → (n : ℕ) (r : List Sign)
      → bare_signs (inside (suc n)) (f (symbol d S.AnnotationBar (g (symbol d S.CloseParen r))))
      ≡ bare_signs (inside n) r
  noted_skips d F G n r = F.skipped.skips (suc n) _ ∙ G.skipped.skips (suc n) _

  noted_sees : (d : ℕ) {f g h i : List Sign → List Sign} → SeenAs f h → SeenAs g i → (r q : List Sign)
      → Sees (bare_signs outside r) q
      → Sees (bare_signs outside (f (symbol d S.AnnotationBar (g (symbol d S.CloseParen r))))) (h q)
  noted_sees d F G r q k =
      F.seen _ _ (subst (λ gs. Sees gs q) (sym (G.skipped.skips 0 (symbol d S.CloseParen r)))
      (blind_sees _ (symbol_blind S.CloseParen) k))

  -- an annotated part
  pub noted_at : (d : ℕ) (p : Place) {f g h i : List Sign → List Sign} → SeenAs f h → SeenAs g i
      → SeenAs (annotated true d (at_place p (Symbol S.OpenParen)) f g)
      (annotated false d (at_place p (Symbol S.OpenParen)) h i)
  noted_at d p F G = record {
    skipped = record { skips = noted_skips d F G };
    seen = λ r q k.
        blind_sees _ (λ t f. at_seen p (Symbol S.OpenParen) t f ∙ b.symbols p S.OpenParen) (noted_sees d F G r q k);
  }

  -- the same of a segment, a clause or a module, whose bracket has no place
  pub noted_so : (d : ℕ) {f g h i : List Sign → List Sign} → SeenAs f h → SeenAs g i
      → SeenAs (annotated true d (of_kind (Symbol S.OpenParen)) f g)
      (annotated false d (of_kind (Symbol S.OpenParen)) h i)
  noted_so d F G = record {
    skipped = record { skips = noted_skips d F G };
    seen = λ r q k. blind_sees _ (symbol_blind S.OpenParen) (noted_sees d F G r q k);
  }
