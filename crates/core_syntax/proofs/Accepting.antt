-- What the tokens so far lead to.
use Rattle.std.proofs.Common.{arith, ◌≡◌, refl, sym, ap, ◌∙◌, subst, ℕ, ◌+◌, ◌<◌, ◌≤◌, List, [], ◌∷◌, ◌++◌, Bool, true, false, None, Some, length, take, drop, get_or}
use Rattle.std.proofs.lemmas.List.{take-append-drop, take_more, drop_more}
use Rattle.std.proofs.Math.Seq.{take-length}
use Rattle.erl_base.specs.declared.refusal.Fault.{Fault}
use Rattle.erl_base.specs.declared.refusal.Fault.TheVariants as F
use Rattle.erl_base.specs.declared.refusal.Kind.TheVariants.{Syntax, Limit}
use Rattle.erl_base.specs.declared.refusal.LimitName.TheVariants.{Nesting}
use Rattle.core_lex.specs.declared.token.Token.{Token}
use Rattle.core_lex.specs.Tokens.{is_last, IsClosed}
use Rattle.core_grammar.specs.Signs.{signs}
use Rattle.core_grammar.specs.ModuleOf.{module_of}
use Rattle.core_grammar.specs.Texts.{FirstSyntaxFault, NestingFault, IsParseFault, first_too_deep}
use Rattle.core_texts.proofs.Truths.{never}
use Rattle.core_texts.proofs.Overs.{over_whole}
use Rattle.core_texts.proofs.Parts.{module_part}
use Rattle.core_texts.proofs.Stacks.{State, state, finished, Result, step}
use Rattle.core_texts.proofs.Sound.{Sound, Held, IsFinished, sound_step}
use Rattle.core_texts.proofs.Bodies.{body}
use Rattle.core_texts.proofs.Quick.{quick}
use Rattle.core_texts.proofs.Tracks.{start}
use Rattle.core_texts.proofs.Answering.{Led, led_start, led_on, first_fault, too_deep}
use Rattle.core_syntax.specs.declared.item.Shape.{Shape}
use Rattle.core_syntax.specs.declared.item.Shape.TheVariants.{Other}
use Rattle.core_syntax.specs.declared.item.Part.TheVariants as P
use Rattle.core_syntax.specs.declared.item.Item.TheVariants as I
use Rattle.core_syntax.specs.declared.item.Entry.{Entry}
use Rattle.core_syntax.specs.declared.outcome.Outcome.{Outcome}
use Rattle.core_syntax.specs.declared.outcome.Outcome.TheVariants.{Refused, TooDeep, Taken}
use Rattle.core_syntax.specs.Beginnings.{Reaction, refused, taken, at}
use Rattle.core_syntax.specs.Reactions.{react, Tells}
use Rattle.core_syntax.specs.Judged.{IsText}
use Rattle.core_syntax.proofs.Following.{Stands, Alike, alike_step, a_module}
use Rattle.core_syntax.proofs.TreeForms.{bodies}

-- whether the last token ends a text
abbrev ends : List Token → Bool
ends [] = false
ends (t ∷ []) = is_last t.kind
ends (t ∷ u ∷ us) = ends (u ∷ us)

ends_with : (b : List Token) (t : Token) → ends (b ++ t ∷ []) ≡ is_last t.kind
ends_with [] t = refl
ends_with (u ∷ []) t = refl
ends_with (u ∷ v ∷ us) t = ends_with (v ∷ us) t

closed_ends : (ts : List Token) → IsClosed ts → ends ts ≡ true
closed_ends [] c = absurd c
closed_ends (t ∷ []) c = c
closed_ends (t ∷ u ∷ us) c = closed_ends (u ∷ us) c.1

-- these tokens are read, none of them too deep, and this is to be read
pub record Reading (before : List Token) (es : List Entry) (sh : Shape) : Type 0 where
  pub at_state : State
  pub led : Led before at_state
  pub stands : Stands at_state es sh
  pub ended : ends before ≡ true → IsFinished at_state

-- nothing yet
pub reading_start : Reading [] (at 0 (I.Part P.Module) ∷ at 0 I.End ∷ []) Other
reading_start = record {
  at_state = start;
  led = led_start;
  stands = (
    P.Module,
    at 0 I.End ∷ [],
    bodies P.Module 0 (module_part 0) (a_module 0) (at 0 I.End ∷ []) Other,
    refl,
  );
  ended = λ h. never h;
}

module _ (before : List Token) (t : Token) (s : State) (l : Led before s) where
  on_by : (o : Result) → step body t s ≡ o → (r : Reaction) → Alike o r → Held (Sound before t) o
      → (es : List Entry) (sh : Shape) → Tells r (Taken sh) es → Reading (before ++ t ∷ []) es sh
  on_by None e refused a h es sh w = absurd w
  on_by None e (taken d next now) a h es sh w = absurd a
  on_by (Some x) e refused a h es sh w = absurd a
  on_by (Some x) e (taken d next now) a h es sh w = record {
    at_state = x.0;
    led = led_on before t s x.0 x.1 l e h (omega (arith, w.0, a.0));
    stands = subst (λ y. Stands x.0 es y) (sym w.1) (subst (λ y. Stands x.0 y now) (sym w.2) a.1);
    ended = λ i. h.last (sym (ends_with before t) ∙ i);
  }

  refused_by : (o : Result) → step body t s ≡ o → (r : Reaction) → Alike o r → (es : List Entry)
      → Tells r Refused es → (later : List Token) → FirstSyntaxFault (before ++ t ∷ later) t.place
  refused_by None e refused a es w later = first_fault before t later s l e
  refused_by None e (taken d next now) a es w later = absurd a
  refused_by (Some x) e refused a es w later = absurd a
  refused_by (Some x) e (taken d next now) a es w later = absurd w

  deep_by : (o : Result) → step body t s ≡ o → (r : Reaction) → Alike o r → Held (Sound before t) o
      → (es : List Entry) → Tells r TooDeep es → (later : List Token) → NestingFault (before ++ t ∷ later) t.place
  deep_by None e refused a h es w later = absurd w
  deep_by None e (taken d next now) a h es w later = absurd a
  deep_by (Some x) e refused a h es w later = absurd a
  deep_by (Some x) e (taken d next now) a h es w later =
      too_deep before t later s x.0 x.1 l e h.reached (omega (arith, w, a.0))

-- one token more
pub read_on : (before : List Token) (t : Token) (es next : List Entry) (sh now : Shape) → Reading before es sh
    → Tells (react t es sh) (Taken now) next → Reading (before ++ t ∷ []) next now
read_on before t es next sh now r w =
    on_by before t r.at_state r.led (step body t r.at_state) refl (react t es sh)
    (alike_step body bodies t quick r.at_state es sh r.stands) (sound_step body before t r.at_state r.led.good) next now
    w

-- a token with which no text goes on
pub refused_at : (before : List Token) (t : Token) (later : List Token) (es next : List Entry) (sh : Shape)
    → Reading before es sh → Tells (react t es sh) Refused next → FirstSyntaxFault (before ++ t ∷ later) t.place
refused_at before t later es next sh r w =
    refused_by before t r.at_state r.led (step body t r.at_state) refl (react t es sh)
    (alike_step body bodies t quick r.at_state es sh r.stands) next w later

-- a token that is too deep
pub deep_at : (before : List Token) (t : Token) (later : List Token) (es next : List Entry) (sh : Shape)
    → Reading before es sh → Tells (react t es sh) TooDeep next → NestingFault (before ++ t ∷ later) t.place
deep_at before t later es next sh r w =
    deep_by before t r.at_state r.led (step body t r.at_state) refl (react t es sh)
    (alike_step body bodies t quick r.at_state es sh r.stands) (sound_step body before t r.at_state r.led.good) next w
    later

text_of : (ts : List Token) (s : State) → Led ts s → IsFinished s → IsText ts
text_of ts (state P st) l f = absurd f
text_of ts (finished w) l f = record {
  tree = module_of w;
  text = record {
    written = w;
    stands = l.good.0;
    fits = over_whole ts (signs w) l.good.1;
    tree = refl;
  };
  within = l.within;
}

-- all of them
pub all_read : (ts : List Token) (es : List Entry) (sh : Shape) → Reading ts es sh → IsClosed ts → IsText ts
all_read ts es sh r c = text_of ts r.at_state r.led (r.ended (closed_ends ts c))

-- Tokens of a list, at an index.

pub cut_at : (ts : List Token) (i : ℕ) (t : Token) → i < length ts → t ≡ get_or ts i t
    → ts ≡ take i ts ++ t ∷ drop (i + 1) ts
cut_at ts i t h e =
    sym (take-append-drop i ts)
    ∙ ap (λ l. take i ts ++ l) (drop_more ts i t h ∙ ap (λ x. x ∷ drop (i + 1) ts) (sym e))

pub front_at : (ts : List Token) (i : ℕ) (t : Token) → i < length ts → t ≡ get_or ts i t
    → take (i + 1) ts ≡ take i ts ++ t ∷ []
front_at ts i t h e = take_more ts i t h ∙ ap (λ x. take i ts ++ x ∷ []) (sym e)

-- What is answered.

-- one token of them more
pub goes_on_at : (ts : List Token) (i : ℕ) (t : Token) (es next : List Entry) (sh now : Shape) (o : Outcome)
    → Reading (take i ts) es sh → i < length ts → t ≡ get_or ts i t → Tells (react t es sh) o next → o ≡ Taken now
    → Reading (take (i + 1) ts) next now
goes_on_at ts i t es next sh now o r h e w k =
    subst (λ l. Reading l next now) (sym (front_at ts i t h e))
    (read_on (take i ts) t es next sh now r (subst (λ x. Tells (react t es sh) x next) k w))

pub syntax_at : (ts : List Token) (i : ℕ) (t : Token) (es next : List Entry) (sh : Shape) (o : Outcome) (f : Fault)
    → Reading (take i ts) es sh → i < length ts → t ≡ get_or ts i t → Tells (react t es sh) o next → o ≡ Refused
    → f ≡ F.Refused (record { kind = Syntax; place = t.place }) → IsParseFault ts f
syntax_at ts i t es next sh o f r h e w k x =
    subst (IsParseFault ts) (sym x)
    (subst (λ l. FirstSyntaxFault l t.place) (sym (cut_at ts i t h e))
    (refused_at (take i ts) t (drop (i + 1) ts) es next sh r (subst (λ y. Tells (react t es sh) y next) k w)))

pub nesting_at : (ts : List Token) (i : ℕ) (t : Token) (es next : List Entry) (sh : Shape) (o : Outcome) (f : Fault)
    → Reading (take i ts) es sh → i < length ts → t ≡ get_or ts i t → Tells (react t es sh) o next → o ≡ TooDeep
    → f ≡ F.Refused (record { kind = Limit Nesting first_too_deep; place = t.place }) → IsParseFault ts f
nesting_at ts i t es next sh o f r h e w k x =
    subst (IsParseFault ts) (sym x) (
      refl,
      subst (λ l. NestingFault l t.place) (sym (cut_at ts i t h e))
          (deep_at (take i ts) t (drop (i + 1) ts) es next sh r (subst (λ y. Tells (react t es sh) y next) k w)),
    )

all_taken : (ts : List Token) (i : ℕ) → length ts ≤ i → i ≤ length ts → take i ts ≡ ts
all_taken ts i h k = let e : i ≡ length ts = omega (arith, h, k) in ap (λ n. take n ts) e ∙ take-length ts

pub text_at_end : (ts : List Token) (i : ℕ) (es : List Entry) (sh : Shape) → Reading (take i ts) es sh
    → length ts ≤ i → i ≤ length ts → IsClosed ts → IsText ts
text_at_end ts i es sh r h k c =
    all_read ts es sh (subst (λ l. Reading l es sh) (all_taken ts i h k) r) c
