-- Two places where the same tokens are cut, and beginnings of beginnings.
use Rattle.std.proofs.Common.{◌≡◌, refl, sym, ap, ◌∙◌, subst, List, [], ◌∷◌, ◌++◌}
use Rattle.core_lex.specs.declared.token.Token.{Token}
use Rattle.core_grammar.specs.Signs.{Sign, FitFront, FitWhole}
use Rattle.core_grammar.specs.Texts.{BeginsModule}

-- one cut is the other, or stands before it, or after it
pub data Cut (b : List Token) (t : Token) (c : List Token) (u : Token) : Type 0 where
  here : b ≡ c → t ≡ u → Cut b t c u
  sooner : (m : List Token) → c ≡ b ++ t ∷ m → Cut b t c u
  later : (m : List Token) → b ≡ c ++ u ∷ m → Cut b t c u

-- the first token, and those behind it
abbrev first_of_all : Token → List Token → Token
first_of_all t [] = t
first_of_all t (u ∷ us) = u

abbrev all_but_first : List Token → List Token
all_but_first [] = []
all_but_first (u ∷ us) = us

one_more : (x : Token) (b : List Token) (t : Token) (c : List Token) (u : Token) → Cut b t c u
    → Cut (x ∷ b) t (x ∷ c) u
one_more x b t c u (here e f) = here (ap (λ l. x ∷ l) e) f
one_more x b t c u (sooner m e) = sooner m (ap (λ l. x ∷ l) e)
one_more x b t c u (later m e) = later m (ap (λ l. x ∷ l) e)

pub compare : (b c : List Token) (t u : Token) (l k : List Token) → b ++ t ∷ l ≡ c ++ u ∷ k → Cut b t c u
compare [] [] t u l k e = here refl (ap (first_of_all t) e)
compare [] (y ∷ c) t u l k e = sooner c (ap (λ x. x ∷ c) (sym (ap (first_of_all t) e)))
compare (x ∷ b) [] t u l k e = later b (ap (λ y. y ∷ b) (ap (first_of_all x) e))
compare (x ∷ b) (y ∷ c) t u l k e =
    subst (λ z. Cut (x ∷ b) t (z ∷ c) u) (ap (first_of_all x) e)
    (one_more x b t c u (compare b c t u l k (ap all_but_first e)))

pub assoc : (xs ys zs : List Token) → (xs ++ ys) ++ zs ≡ xs ++ (ys ++ zs)
assoc [] ys zs = refl
assoc (x ∷ xs) ys zs = ap (λ l. x ∷ l) (assoc xs ys zs)

pub front_of : (gs : List Sign) (xs ys : List Token) → FitFront gs (xs ++ ys) → FitFront gs xs
front_of gs [] ys h = tt
front_of [] (x ∷ xs) ys h = absurd h
front_of (g ∷ gs) (x ∷ xs) ys h = (h.0, h.1, front_of gs xs ys h.2)

pub front_of_whole : (gs : List Sign) (ts : List Token) → FitWhole gs ts → FitFront gs ts
front_of_whole [] [] h = tt
front_of_whole [] (t ∷ ts) h = absurd h
front_of_whole (g ∷ gs) [] h = absurd h
front_of_whole (g ∷ gs) (t ∷ ts) h = (h.0, h.1, front_of_whole gs ts h.2)

pub begins_front : (xs ys : List Token) → BeginsModule (xs ++ ys) → BeginsModule xs
begins_front xs ys h = record {
  written = h.written;
  stands = h.stands;
  fits = front_of _ xs ys h.fits;
}

-- up to a token, where more tokens begin a text
pub begins_up_to : (b : List Token) (t : Token) (m ts : List Token) → ts ≡ b ++ t ∷ m → BeginsModule ts
    → BeginsModule (b ++ t ∷ [])
begins_up_to b t m ts e h =
    begins_front (b ++ t ∷ []) m (subst BeginsModule (e ∙ sym (assoc b (t ∷ []) m)) h)
