-- Tokens over the first of some signs.
use Rattle.std.proofs.Common.{◌≡◌, refl, sym, ap, ◌∙◌, subst, List, [], ◌∷◌, ◌++◌, false}
use Rattle.core_lex.specs.declared.token.Token.{Token}
use Rattle.core_grammar.specs.Signs.{Sign, Fits, FitFront, FitWhole}
use Rattle.core_grammar.specs.Texts.{last_depth}

-- the tokens fit the first of the signs, none of which is marked, and these are left
abbrev pub Over : List Token → List Sign → List Sign → Type 0
Over [] gs x = gs ≡ x
Over (t ∷ ts) gs x =
    (g : Sign) × (hs : List Sign) × (gs ≡ g ∷ hs) × Fits g.sight t × (g.marked ≡ false) × Over ts hs x

pub over_more : (ts : List Token) (t : Token) (gs : List Sign) (g : Sign) (x : List Sign) → Over ts gs (g ∷ x)
    → Fits g.sight t → g.marked ≡ false → Over (ts ++ t ∷ []) gs x
over_more [] t gs g x o f m = (g, x, o, f, m, refl)
over_more (u ∷ us) t gs g x o f m = (o.0, o.1, o.2, o.3, o.4, over_more us t o.1 g x o.5 f m)

pub last_is : (ts : List Token) (t : Token) (gs : List Sign) (g : Sign) (x : List Sign) → Over ts gs (g ∷ x)
    → last_depth gs (ts ++ t ∷ []) ≡ g.depth
last_is [] t gs g x o = ap (λ l. last_depth l (t ∷ [])) o
last_is (u ∷ []) t gs g x o = ap (λ l. last_depth l (u ∷ t ∷ [])) o.2 ∙ last_is [] t o.1 g x o.5
last_is (u ∷ v ∷ us) t gs g x o =
    ap (λ l. last_depth l (u ∷ v ∷ (us ++ t ∷ []))) o.2 ∙ last_is (v ∷ us) t o.1 g x o.5

pub over_front : (ts : List Token) (gs x : List Sign) → Over ts gs x → FitFront gs ts
over_front [] gs x o = tt
over_front (t ∷ ts) gs x o =
    subst (λ l. FitFront l (t ∷ ts)) (sym o.2) (o.3, o.4, over_front ts o.1 x o.5)

pub over_whole : (ts : List Token) (gs : List Sign) → Over ts gs [] → FitWhole gs ts
over_whole [] gs o = subst (λ l. FitWhole l []) (sym o) tt
over_whole (t ∷ ts) gs o = subst (λ l. FitWhole l (t ∷ ts)) (sym o.2) (o.3, o.4, over_whole ts o.1 o.5)

abbrev pub rest_of : List Sign → List Sign
rest_of [] = []
rest_of (g ∷ gs) = gs

over_rest : (u : Token) (us : List Token) (g : Sign) (gs x : List Sign) → Over (u ∷ us) (g ∷ gs) x → Over us gs x
over_rest u us g gs x o = subst (λ l. Over us l x) (sym (ap rest_of o.2)) o.5

-- what fits one token more
pub record Next (ts : List Token) (t : Token) (gs : List Sign) : Type 0 where
  pub sign : Sign
  pub rest : List Sign
  pub over : Over ts gs (sign ∷ rest)
  pub fits : Fits sign.sight t
  pub clear : sign.marked ≡ false

pub next_sign : (ts : List Token) (t : Token) (gs x : List Sign) → Over ts gs x → FitFront gs (ts ++ t ∷ [])
    → Next ts t gs
next_sign [] t [] x o h = absurd h
next_sign [] t (g ∷ gs) x o h = record { sign = g; rest = gs; over = refl; fits = h.0; clear = h.1 }
next_sign (u ∷ us) t [] x o h = absurd h
next_sign (u ∷ us) t (g ∷ gs) x o h =
    let n = next_sign us t gs x (over_rest u us g gs x o) h.2 in
    record { sign = n.sign; rest = n.rest; over = (g, gs, refl, h.0, h.1, n.over); fits = n.fits; clear = n.clear }

-- the same rest
pub over_once : (ts : List Token) (gs x y : List Sign) → Over ts gs x → Over ts gs y → x ≡ y
over_once [] gs x y o p = sym o ∙ p
over_once (t ∷ ts) gs x y o p =
    over_once ts o.1 x y o.5 (subst (λ l. Over ts l y) (sym (ap rest_of (sym o.2 ∙ p.2))) p.5)

pub all_over : (ts : List Token) (gs x : List Sign) → Over ts gs x → FitWhole gs ts → x ≡ []
all_over [] [] x o h = sym o
all_over [] (g ∷ gs) x o h = absurd h
all_over (t ∷ ts) [] x o h = absurd h
all_over (t ∷ ts) (g ∷ gs) x o h = all_over ts gs x (over_rest t ts g gs x o) h.2
