-- Modules go on behind the tokens that were read.
use Rattle.std.proofs.Common.{◌≡◌, refl, sym, ap, ◌∙◌, subst, ℕ, List, [], ◌∷◌, ◌++◌, None, Some}
use Rattle.core_lex.specs.declared.token.Token.{Token}
use Rattle.core_lex.specs.declared.token.TokenKind.TheVariants.{End}
use Rattle.core_grammar.specs.WrittenTree.{Written}
use Rattle.core_grammar.specs.Standing.{IsModule}
use Rattle.core_grammar.specs.Signs.{of_kind, Sign, plain_sign, signs, FitFront}
use Rattle.core_texts.proofs.Cuts.{front_of}
use Rattle.core_texts.proofs.Overs.{Over, over_more, next_sign, over_once}
use Rattle.core_texts.proofs.Parts.{module_part}
use Rattle.core_texts.proofs.Stacks.{bottom, State, state, Result, step}
use Rattle.core_texts.proofs.Complete.{Goes, Went, complete_step}
use Rattle.core_texts.proofs.Bodies.{body}
use Rattle.core_texts.proofs.Quick.{quick}
use Rattle.core_texts.proofs.PartWays.{part_way}

-- what goes on behind the tokens
pub record Track (before : List Token) (s : State) (m : Written) : Type 0 where
  pub rest : List Sign
  pub over : Over before (signs m) rest
  pub goes : Goes s rest m

-- all of them go on
abbrev pub Tracked : List Token → State → Type 0
Tracked before s = (m : Written) → IsModule m → FitFront (signs m) before → Track before s m

-- at the start of a module
abbrev pub start : State
start = state (body (module_part 0)) bottom

pub tracked_start : Tracked [] start
tracked_start m h f = record {
  rest = signs m;
  over = refl;
  goes = (
    m,
    plain_sign 0 (of_kind End) ∷ [],
    part_way (module_part 0) m h (plain_sign 0 (of_kind End) ∷ []) tt,
    (refl, refl),
  );
}

-- one token more of a module
pub record Stepped (before : List Token) (t : Token) (o : Result) (m : Written) : Type 0 where
  pub sign : Sign
  pub rest : List Sign
  pub over : Over before (signs m) (sign ∷ rest)
  pub more : Over (before ++ t ∷ []) (signs m) rest
  pub went : Went o sign rest m

pub stepped : (before : List Token) (t : Token) (s : State) → Tracked before s → (m : Written) → IsModule m
    → FitFront (signs m) (before ++ t ∷ []) → Stepped before t (step body t s) m
stepped before t s l m h f =
    let k = l m h (front_of (signs m) before (t ∷ []) f) in
    let n = next_sign before t (signs m) k.rest k.over f in
    let e = over_once before (signs m) k.rest (n.sign ∷ n.rest) k.over n.over in
    record {
      sign = n.sign;
      rest = n.rest;
      over = n.over;
      more = over_more before t (signs m) n.sign n.rest n.over n.fits n.clear;
      went = complete_step body part_way t n.sign n.rest m n.fits n.clear quick s
          (subst (λ z. Goes s z m) e k.goes);
    }

abbrev state_or : State → Result → State
state_or s None = s
state_or s (Some x) = x.0

-- the next state
pub tracked_on : (before : List Token) (t : Token) (s u : State) (d : ℕ) → Tracked before s
    → step body t s ≡ Some (u, d) → Tracked (before ++ t ∷ []) u
tracked_on before t s u d l e m i f =
    let x = stepped before t s l m i f in
    record {
      rest = x.rest;
      over = x.more;
      goes = subst (λ z. Goes z x.rest m) (sym (ap (state_or u) (sym e ∙ x.went.is))) x.went.goes;
    }

abbrev pub depth_or : ℕ → Result → ℕ
depth_or d None = d
depth_or d (Some x) = x.1
