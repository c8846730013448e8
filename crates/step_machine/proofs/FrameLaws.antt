-- Registers in a list and registers by number are one, and so are slots.
use Rattle.std.proofs.Common.{◌≡◌, ◌<◌, ℕ, zero, suc, List, [], ◌∷◌, Bool, true, false, eqb, length, get_or, set, refl, sym, ap, ◌∙◌, subst, if◌then◌else◌, arith}
use borrow.Author.Tests.{eqb-true, eq-eqb}
use Rattle.step_machine.specs.Frames.{with_cell, with_register}

never : false ≡ true → ⊥
never e = cc

module _ {Cell : Type 0} (nothing c : Cell) where
  written : (n : ℕ) (cs : List Cell) → get_or (with_cell nothing n c cs) n nothing ≡ c
  written zero [] = refl
  written zero (d ∷ ds) = refl
  written (suc n) [] = written n []
  written (suc n) (d ∷ ds) = written n ds

  others : (n k : ℕ) (cs : List Cell) → (k ≡ n → ⊥) → get_or (with_cell nothing n c cs) k nothing ≡ get_or cs k nothing
  others zero zero cs h = absurd (h refl)
  others zero (suc k) [] h = refl
  others zero (suc k) (d ∷ ds) h = refl
  others (suc n) zero [] h = refl
  others (suc n) zero (d ∷ ds) h = refl
  others (suc n) (suc k) [] h = others n k [] (λ e. h (ap suc e))
  others (suc n) (suc k) (d ∷ ds) h = others n k ds (λ e. h (ap suc e))

  pub listed : (n k : ℕ) (cs : List Cell) →
      get_or (with_cell nothing n c cs) k nothing ≡ with_register n c (λ j. get_or cs j nothing) k
  listed n k cs = by (eqb k n) refl
    where
      by : (b : Bool) → eqb k n ≡ b
          → get_or (with_cell nothing n c cs) k nothing ≡ (if b then c else get_or cs k nothing)
      by true e =
          subst (λ j. get_or (with_cell nothing n c cs) j nothing ≡ c) (sym (eqb-true k n e)) (written n cs)
      by false e = others n k cs (λ h. never (sym e ∙ eq-eqb k n h))

  pub slots : (n : ℕ) (cs : List Cell) → n < length cs → set cs n c ≡ with_cell nothing n c cs
  slots n [] l = absurd (omega (arith, l))
  slots zero (d ∷ ds) l = refl
  slots (suc n) (d ∷ ds) l = ap (λ z. d ∷ z) (slots n ds (omega (arith, l)))
