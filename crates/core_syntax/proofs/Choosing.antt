-- What the next token is tells what is done.
use Rattle.std.proofs.Common.{◌≡◌, refl, sym, ap, ℕ, List, ◌∷◌, Bool, true, false}
use Rattle.core_lex.specs.declared.token.Token.{Token}
use Rattle.core_lex.specs.declared.token.TokenKind.{TokenKind}
use Rattle.core_lex.specs.declared.token.TokenKind.TheVariants.{Symbol, Word, Atom}
use Rattle.core_lex.specs.declared.token.Word.TheVariants as W
use Rattle.core_lex.specs.declared.token.Symbol.TheVariants as S
use Rattle.core_texts.proofs.Truths.{never}
use Rattle.core_texts.proofs.Fronts as F
use Rattle.core_texts.proofs.Steps.{is_atom_kind, is_segment}
use Rattle.core_texts.proofs.Bodies.{is_exact}
use Rattle.core_syntax.specs.declared.item.Count.TheVariants as C
use Rattle.core_syntax.specs.declared.item.Shape.{Shape}
use Rattle.core_syntax.specs.declared.item.Shape.TheVariants.{Other, Counted, Size}
use Rattle.core_syntax.specs.declared.item.Part as Parts
use Rattle.core_syntax.specs.declared.item.Part.TheVariants as P
use Rattle.core_syntax.specs.declared.item.Item.TheVariants as I
use Rattle.core_syntax.specs.declared.item.Entry.{Entry}
use Rattle.core_syntax.specs.TokenKinds as T
use Rattle.core_syntax.specs.TokenKinds.{is_symbol, is_word, opens}
use Rattle.core_syntax.specs.Beginnings.{Reaction, taken, on_test, choose, at, begin}
use Rattle.core_syntax.specs.Reactions.{react, on_pass, unless, unit_wanted}

pub is_comma : (k : TokenKind) → F.is_comma k ≡ is_symbol S.Comma k
is_comma (Symbol S.Comma) = refl
is_comma _ = refl

pub is_slash : (k : TokenKind) → F.is_slash k ≡ is_symbol S.Slash k
is_slash (Symbol S.Slash) = refl
is_slash _ = refl

pub is_bar : (k : TokenKind) → F.is_bar k ≡ is_symbol S.Bar k
is_bar (Symbol S.Bar) = refl
is_bar _ = refl

pub is_angle : (k : TokenKind) → F.is_angle k ≡ is_symbol S.OpenAngle k
is_angle (Symbol S.OpenAngle) = refl
is_angle _ = refl

pub is_paren : (k : TokenKind) → F.is_paren k ≡ is_symbol S.OpenParen k
is_paren (Symbol S.OpenParen) = refl
is_paren _ = refl

pub is_when : (k : TokenKind) → F.is_when k ≡ is_word W.When k
is_when (Word W.When) = refl
is_when _ = refl

pub is_equals : (k : TokenKind) → F.equals_in true k ≡ is_symbol S.Equals k
is_equals (Symbol S.Equals) = refl
is_equals _ = refl

pub is_exactly : (k : TokenKind) → is_exact k ≡ is_symbol S.ExactAssociation k
is_exactly (Symbol S.ExactAssociation) = refl
is_exactly _ = refl

pub is_opening : (k : TokenKind) → is_segment k ≡ is_symbol S.OpenSegment k
is_opening (Symbol S.OpenSegment) = refl
is_opening _ = refl

pub is_atom : (k : TokenKind) → is_atom_kind k ≡ T.is_atom k
is_atom (Atom a) = refl
is_atom _ = refl

-- the first of two
pub chosen : {A : Type 0} (b : Bool) (x y : A) → b ≡ true → choose b x y ≡ x
chosen true x y h = refl
chosen false x y h = never h

-- the second
pub not_chosen : {A : Type 0} (b : Bool) (x y : A) → b ≡ false → choose b x y ≡ y
not_chosen true x y h = never (sym h)
not_chosen false x y h = refl

-- a token that is taken where a test holds
pub chosen_take : (b : Bool) (d : ℕ) (es : List Entry) (sh : Shape) (r : Reaction) → b ≡ true
    → choose b (taken d es sh) r ≡ on_test b d es sh
chosen_take true d es sh r h = refl
chosen_take false d es sh r h = never h

-- an item that is not passed
pub kept : (b : Bool) (sh : Shape) (r : Reaction) (f : Shape → Reaction) → b ≡ true → on_pass (unless b sh) r f ≡ r
kept true sh r f h = refl
kept false sh r f h = never h

-- one that is
pub left_out : (b : Bool) (sh : Shape) (r : Reaction) (f : Shape → Reaction) → b ≡ false
    → on_pass (unless b sh) r f ≡ f sh
left_out true sh r f h = never (sym h)
left_out false sh r f h = refl

-- a part that begins
pub begun : (t : Token) (p : Parts.Part) (d : ℕ) (es : List Entry) (sh : Shape) → opens t.kind ≡ true
    → react t (at d (I.Maybe p) ∷ es) sh ≡ react t (at d (I.Part p) ∷ es) sh
begun t p d es sh h = kept (opens t.kind) (Counted C.Zero) (begin p d t.kind es) (λ now. react t es now) h

-- one that does not
pub not_begun : (t : Token) (p : Parts.Part) (d : ℕ) (es : List Entry) (sh : Shape) → opens t.kind ≡ false
    → react t (at d (I.Maybe p) ∷ es) sh ≡ react t es (Counted C.Zero)
not_begun t p d es sh h = left_out (opens t.kind) (Counted C.Zero) (begin p d t.kind es) (λ now. react t es now) h

-- the same test
pub retest : (b c : Bool) (d : ℕ) (es : List Entry) (sh : Shape) → b ≡ c → on_test b d es sh ≡ on_test c d es sh
retest b c d es sh h = ap (λ x. on_test x d es sh) h

-- the unit for a size
pub unit_is : (b : Bool) (d : ℕ) (es : List Entry) (n : ℕ) (sh : Shape) → sh ≡ Size n
    → on_test b d (at d (unit_wanted sh) ∷ es) Other ≡ on_test b d (at d (I.Part (P.Unit n)) ∷ es) Other
unit_is b d es n sh h = ap (λ x. on_test b d (at d (unit_wanted x) ∷ es) Other) h
