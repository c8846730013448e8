-- A stack of plans that wait, and one step a token.
use Rattle.std.proofs.Common.{◌≡◌, refl, ◌+◌, ℕ, zero, suc, leb, List, ◌∷◌, Bool, true, false, ◌&&◌, pos, Option, None, Some}
use Rattle.core_lex.specs.declared.token.Token.{Token}
use Rattle.core_lex.specs.declared.token.TokenKind.{TokenKind}
use Rattle.core_lex.specs.declared.token.TokenKind.TheVariants.{Number}
use Rattle.core_lex.specs.declared.token.Symbol.TheVariants as S
use Rattle.core_form.specs.SourceTree.{is_arity}
use Rattle.core_grammar.specs.WrittenTree.{Written}
use Rattle.core_grammar.specs.Signs.{Sign, plain_sign, IsArityToken}
use Rattle.std.proofs.lemmas.Bool.{leb-true}
use Rattle.core_texts.proofs.Truths.{and_left, and_right}
use Rattle.core_texts.proofs.TokenTests.{is_symbol, is_word, is_end}
use Rattle.core_texts.proofs.Parts.{Part, module_part, Value, signs_of, Right, least}
use Rattle.core_texts.proofs.Plans.{Plan, done, symbol_next, word_next, arity_next, look, call, bracket, if_next}

-- a module is read at the bottom, and then the end
pub data Stack : Part → Type 0 where
  bottom : Stack (module_part 0)
  frame : {v w : Part} (pre : Value v → List Sign → List Sign) → ((b : Value v) → Right v b → Plan w (pre b)) → Stack w
      → Stack v

pub data State : Type 0 where
  state : {w : Part} {k : List Sign → List Sign} → Plan w k → Stack w → State
  finished : Written → State

-- a state, and how deep the token is that led to it
abbrev pub Result : Type 0
Result = Option (State × ℕ)

-- where a test holds
abbrev pub where_true : {A : Type 0} (b : Bool) → (b ≡ true → A) → Option A
where_true true f = Some (f refl)
where_true false f = None

-- an arity that a token is
pub record Arity (t : Token) : Type 0 where
  pub number : ℕ
  pub right : is_arity number ≡ true
  pub token : IsArityToken number t

unfoldable pub arity_bytes : (n : ℕ) (t : Token) → t.kind ≡ Number false (pos n) → (leb t.to
    (t.from + 9) && is_arity n) ≡ true
    → Arity t
arity_bytes n t e h = record {
  number = n;
  right = and_right (leb t.to (t.from + 9)) (is_arity n) h;
  token = record { kind = e; bytes = leb-true t.to (t.from + 9) (and_left (leb t.to (t.from + 9)) (is_arity n) h) };
}

abbrev pub arity_from : (t : Token) (k : TokenKind) → t.kind ≡ k → Option (Arity t)
arity_from t (Number false (pos n)) e =
    where_true (leb t.to (t.from + 9) && is_arity n) (λ h. arity_bytes n t e h)
arity_from t _ e = None

abbrev pub arity_of : (t : Token) → Option (Arity t)
arity_of t = arity_from t t.kind refl

abbrev pub arity_step : {A : Type 0} {t : Token} → ((n : ℕ) → is_arity n ≡ true → A) → Option (Arity t) → Option A
arity_step f None = None
arity_step f (Some a) = Some (f a.number a.right)

abbrev pub either : {A : Type 0} → Bool → A → A → A
either true x y = x
either false x y = y

module _ (body : (v : Part) → Plan v (λ r. r)) (t : Token) where
  abbrev pub step_plan : (enter : (v : Part) → Stack v → Result) {w : Part} (st : Stack w)
      (fin : (a : Value w) → Right w a → Result) {k : List Sign → List Sign} → Plan w k → Result
  step_plan enter st fin (done a h e) = fin a h
  step_plan enter st fin (symbol_next c d s P) = where_true (c && is_symbol s t.kind) (λ h. (state P st, d))
  step_plan enter st fin (word_next d x P) = where_true (is_word x t.kind) (λ h. (state P st, d))
  step_plan enter st fin (arity_next d f) = arity_step (λ n h. (state (f n h) st, d)) (arity_of t)
  step_plan enter st fin (look l f) =
      where_true (l.takes t.kind) (λ h. (state (f t.place t.kind h) st, l.depth t.place t.kind))
  step_plan enter st fin (call {k = k} v f) = enter v (frame (λ b r. k (signs_of v b r)) f st)
  step_plan enter st fin (bracket {k = k} v s f) =
      where_true (is_symbol S.OpenParen t.kind)
      (λ h. (
        state (body v)
            (frame (λ b r. k (plain_sign (s.deep b) (s.sight t.place b) ∷ signs_of v b r)) (f t.place) st),
        s.deep (least v),
      ))
  step_plan enter st fin (if_next c P Q) =
      either (c t.kind) (step_plan enter st fin P) (step_plan enter st fin Q)

  -- into a part, through at most so many parts that begin with a part
  abbrev pub enter : ℕ → (v : Part) → Stack v → Result
  enter zero v st = None
  enter (suc n) v st = step_plan (enter n) st (λ a h. None) (body v)

  -- where a part is read
  abbrev pub finish : {v : Part} → Stack v → (a : Value v) → Right v a → Result
  finish bottom a h = where_true (is_end t.kind) (λ e. (finished a, 0))
  finish (frame pre f st) a h = step_plan (enter 4) st (finish st) (f a h)

  abbrev pub step : State → Result
  step (state P st) = step_plan (enter 4) st (finish st) P
  step (finished w) = None
