-- The signs outside of annotations, and what tokens that fit signs leave of them.
use Rattle.std.proofs.Common.{◌≡◌, sym, subst, List, [], ◌∷◌, Bool, false, pos}
use Rattle.core_lex.specs.declared.token.Token.{Token}
use Rattle.core_lex.specs.declared.token.TokenKind.{TokenKind}
use Rattle.core_lex.specs.declared.token.TokenKind.TheVariants.{Number}
use Rattle.core_grammar.specs.Signs.{Sight, of_kind, at_place, an_arity, Sign, Fits, FitWhole}
use Rattle.core_build.specs.Building.{Notes, outside, inside, notes_behind, if_outside, bare}

-- the kind of the tokens that fit
abbrev pub kind_seen : Sight → TokenKind
kind_seen (of_kind k) = k
kind_seen (at_place p k) = k
kind_seen (an_arity n) = Number false (pos n)

pub kind_fits : (w : Sight) (t : Token) → Fits w t → t.kind ≡ kind_seen w
kind_fits (of_kind k) t h = h
kind_fits (at_place p k) t h = h.0
kind_fits (an_arity n) t h = h.kind

-- whether there is a first sign, of such a kind
abbrev pub front : (TokenKind → Bool) → List Sign → Bool
front f [] = false
front f (g ∷ gs) = f (kind_seen g.sight)

-- a sign that is outside
abbrev pub sign_outside : Notes → Sign → List Sign → List Sign
sign_outside outside g gs = g ∷ gs
sign_outside (inside n) g gs = gs

-- the signs but for annotations
abbrev pub bare_signs : Notes → List Sign → List Sign
bare_signs n [] = []
bare_signs n (g ∷ gs) =
    sign_outside (notes_behind (kind_seen g.sight) n) g (bare_signs (notes_behind (kind_seen g.sight) n) gs)

fit_outside : (n : Notes) (g : Sign) (gs : List Sign) (t : Token) (ts : List Token) → Fits g.sight t
    → g.marked ≡ false → FitWhole gs ts → FitWhole (sign_outside n g gs) (if_outside n t ts)
fit_outside outside g gs t ts h m k = (h, m, k)
fit_outside (inside n) g gs t ts h m k = k

-- tokens that fit, but for annotations
pub bare_fit : (n : Notes) (gs : List Sign) (ts : List Token) → FitWhole gs ts → FitWhole (bare_signs n gs) (bare n ts)
bare_fit n [] [] h = tt
bare_fit n [] (t ∷ ts) h = absurd h
bare_fit n (g ∷ gs) [] h = absurd h
bare_fit n (g ∷ gs) (t ∷ ts) h =
    subst (λ k. FitWhole (bare_signs n (g ∷ gs)) (if_outside (notes_behind k n) t (bare (notes_behind k n) ts)))
    (sym (kind_fits g.sight t h.0))
    (fit_outside (notes_behind (kind_seen g.sight) n) g _ t _ h.0 h.1
    (bare_fit (notes_behind (kind_seen g.sight) n) gs ts h.2))
