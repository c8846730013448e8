-- Closed tokens have an answer.
use Rattle.std.proofs.Common.{arith, ◌≡◌, refl, sym, ap, ◌∙◌, subst, ℕ, ◌<◌, ◌≤◌, leb, List, [], ◌∷◌, ◌++◌, Bool, true, false, None, Some}
use Rattle.std.proofs.lemmas.Bool.{leb-true, leb-false}
use Rattle.core_lex.specs.declared.token.Token.{Token}
use Rattle.core_lex.specs.declared.token.TokenKind.TheVariants.{End}
use Rattle.core_lex.specs.Tokens.{is_last, IsClosed}
use Rattle.core_grammar.specs.WrittenTree.{Written}
use Rattle.core_grammar.specs.Standing.{IsModule}
use Rattle.core_grammar.specs.Signs.{of_kind, Sign, plain_sign, module_on, signs, FitFront}
use Rattle.core_grammar.specs.ModuleOf.{module_of}
use Rattle.core_grammar.specs.Texts.{BeginsModule, NestsWithin, IsDeeper, FirstSyntaxFault, NestingFault, last_depth, most_depth}
use Rattle.core_texts.specs.Answers.{TextAnswer, is_text, has_syntax_fault, has_nesting_fault}
use Rattle.core_texts.proofs.Cuts.{assoc}
use Rattle.core_texts.proofs.Truths.{never}
use Rattle.core_texts.proofs.Overs.{last_is, over_front, over_whole}
use Rattle.core_texts.proofs.Parts.{module_part, least}
use Rattle.core_texts.proofs.Least.{least_right}
use Rattle.core_texts.proofs.Stacks.{State, state, finished, Result, step}
use Rattle.core_texts.proofs.Sound.{Good, Sound, Held, IsFinished, Reached, sound_step}
use Rattle.core_texts.proofs.Complete.{Choice, first_way, second_way}
use Rattle.core_texts.proofs.Bodies.{body}
use Rattle.core_texts.proofs.Tracks.{Tracked, start, tracked_start, stepped, depth_or, tracked_on}

-- a state that these tokens lead to, none of them too deep
pub record Led (before : List Token) (s : State) : Type 0 where
  pub good : Good before s
  pub begins : BeginsModule before
  pub within : NestsWithin most_depth before
  pub tracks : Tracked before s

last_none : (gs : List Sign) → last_depth gs [] ≡ 0
last_none [] = refl
last_none (g ∷ gs) = refl

abbrev is_none : List Token → Bool
is_none [] = true
is_none (t ∷ ts) = false

nothing_deep : NestsWithin most_depth []
nothing_deep [] l e h =
    let d : most_depth < last_depth (signs h.begins.written) [] = h.deeper h.begins.written h.begins.stands tt in
    let z = last_none (signs h.begins.written) in
    absurd (omega (arith, d, z))
nothing_deep (x ∷ b) l e h = never (sym (ap is_none e))

pub led_start : Led [] start
led_start = record {
  good = λ a x r m e c. ap (λ w. module_on true 0 w (plain_sign 0 (of_kind End) ∷ [])) (sym c.0)
      ∙ ap (module_on true 0 a) (sym c.1) ∙ e;
  begins = record { written = least (module_part 0); stands = least_right (module_part 0); fits = tt };
  within = nothing_deep;
  tracks = tracked_start;
}

-- a beginning of the tokens and one more
record Front (b xs : List Token) : Type 0 where
  pub later : List Token
  pub is : xs ≡ b ++ later

abbrev first_or : Token → List Token → Token
first_or t [] = t
first_or t (u ∷ us) = u

abbrev but_first : List Token → List Token
but_first [] = []
but_first (u ∷ us) = us

more_front : (x y : Token) (b xs : List Token) (t : Token) → x ≡ y → Choice (Front b xs) (b ≡ xs ++ t ∷ [])
    → Choice (Front (y ∷ b) (x ∷ xs)) (y ∷ b ≡ x ∷ (xs ++ t ∷ []))
more_front x y b xs t e (first_way f) =
    first_way (record { later = f.later; is = ap (λ z. z ∷ xs) e ∙ ap (λ l. y ∷ l) f.is })
more_front x y b xs t e (second_way f) =
    second_way (ap (λ z. z ∷ b) (sym e) ∙ ap (λ l. x ∷ l) f)

front_or_all : (xs b l : List Token) (t : Token) → xs ++ t ∷ [] ≡ b ++ l → Choice (Front b xs) (b ≡ xs ++ t ∷ [])
front_or_all xs [] l t e = first_way (record { later = xs; is = refl })
front_or_all [] (y ∷ []) l t e = second_way (ap (λ z. z ∷ []) (sym (ap (first_or t) e)))
front_or_all [] (y ∷ z ∷ b) l t e = never (sym (ap (λ l. is_none (but_first l)) e))
front_or_all (x ∷ xs) (y ∷ b) l t e =
    more_front x y b xs t (ap (first_or t) e) (front_or_all xs b l t (ap but_first e))

no_deeper : (before : List Token) (t : Token) (d : ℕ) → NestsWithin most_depth before → Reached before t d
    → d ≤ most_depth → (b : List Token) → Choice (Front b before) (b ≡ before ++ t ∷ []) → IsDeeper most_depth b → ⊥
no_deeper before t d w r l b (first_way f) h = w b f.later f.is h
no_deeper before t d w r l b (second_way e) h =
    let k : most_depth < last_depth (signs r.written) (before ++ t ∷ []) =
    (subst (IsDeeper most_depth) e h).deeper r.written r.is_module
    (over_front (before ++ t ∷ []) (signs r.written) r.rest r.over) in
    let i = r.depth in
    absurd (omega (arith, k, i, l))

abbrev is_there : Result → Bool
is_there None = false
is_there (Some x) = true

refused : (before : List Token) (t : Token) (s : State) → Led before s → step body t s ≡ None
    → BeginsModule (before ++ t ∷ []) → ⊥
refused before t s l e b =
    let x = stepped before t s l.tracks b.written b.stands b.fits in
    never (ap is_there (sym e ∙ x.went.is))

pub first_fault : (before : List Token) (t : Token) (later : List Token) (s : State) → Led before s
    → step body t s ≡ None → FirstSyntaxFault (before ++ t ∷ later) t.place
first_fault before t later s l e = record {
  fault = record {
    before = before;
    token = t;
    first = record {
      cut = record { later = later; cut = refl };
      begins = l.begins;
      ends = refused before t s l e;
    };
    place = refl;
  };
  within = l.within;
}

syntax_fault : (before : List Token) (t : Token) (later : List Token) (s : State) → Led before s
    → step body t s ≡ None → TextAnswer (before ++ t ∷ later)
syntax_fault before t later s l e = has_syntax_fault t.place (first_fault before t later s l e)

reached_begins : (before : List Token) (t : Token) (d : ℕ) → Reached before t d → BeginsModule (before ++ t ∷ [])
reached_begins before t d r = record {
  written = r.written;
  stands = r.is_module;
  fits = over_front (before ++ t ∷ []) (signs r.written) r.rest r.over;
}

deeper_everywhere : (before : List Token) (t : Token) (s u : State) (d : ℕ) → Led before s
    → step body t s ≡ Some (u, d) → most_depth < d → (m : Written) → IsModule m
    → FitFront (signs m) (before ++ t ∷ []) → most_depth < last_depth (signs m) (before ++ t ∷ [])
deeper_everywhere before t s u d l e h m i f =
    let x = stepped before t s l.tracks m i f in
    let a = last_is before t (signs m) x.sign x.rest x.over in
    let b = x.went.least_depth in
    let c : d ≡ x.went.depth = ap (depth_or d) (sym e ∙ x.went.is) in
    omega (arith, a, b, c, h)

pub too_deep : (before : List Token) (t : Token) (later : List Token) (s u : State) (d : ℕ) → Led before s
    → step body t s ≡ Some (u, d) → Reached before t d → most_depth < d
    → NestingFault (before ++ t ∷ later) t.place
too_deep before t later s u d l e r h = record {
  before = before;
  token = t;
  cut = record { later = later; cut = refl };
  within = l.within;
  deep = record {
    begins = reached_begins before t d r;
    deeper = deeper_everywhere before t s u d l e h;
  };
  place = refl;
}

nesting_fault : (before : List Token) (t : Token) (later : List Token) (s u : State) (d : ℕ) → Led before s
    → step body t s ≡ Some (u, d) → Reached before t d → most_depth < d → TextAnswer (before ++ t ∷ later)
nesting_fault before t later s u d l e r h =
    has_nesting_fault t.place (too_deep before t later s u d l e r h)

pub led_on : (before : List Token) (t : Token) (s u : State) (d : ℕ) → Led before s → step body t s ≡ Some (u, d)
    → Sound before t u d → d ≤ most_depth → Led (before ++ t ∷ []) u
led_on before t s u d l e o h = record {
  good = o.good;
  begins = reached_begins before t d o.reached;
  within = λ b k i. no_deeper before t d l.within o.reached h b (front_or_all before b k t i);
  tracks = tracked_on before t s u d l.tracks e;
}

-- where the last token ends a text
text_at : (before : List Token) (u : State) → Led before u → IsFinished u → TextAnswer before
text_at before (state P st) l f = absurd f
text_at before (finished w) l f =
    is_text (module_of w) (record {
      written = w;
      stands = l.good.0;
      fits = over_whole before (signs w) l.good.1;
      tree = refl;
    }) l.within

at_last : (before : List Token) (t : Token) (s u : State) (d : ℕ) → Led before s → step body t s ≡ Some (u, d)
    → Sound before t u d → is_last t.kind ≡ true → (b : Bool) → leb d most_depth ≡ b → TextAnswer (before ++ t ∷ [])
at_last before t s u d l e o c true h =
    text_at (before ++ t ∷ []) u (led_on before t s u d l e o (leb-true d most_depth h)) (o.last c)
at_last before t s u d l e o c false h = nesting_fault before t [] s u d l e o.reached (leb-false d most_depth h)

last_answer : (before : List Token) (t : Token) (s : State) → Led before s → is_last t.kind ≡ true → (o : Result)
    → step body t s ≡ o → Held (Sound before t) o → TextAnswer (before ++ t ∷ [])
last_answer before t s l c None e h = syntax_fault before t [] s l e
last_answer before t s l c (Some x) e h = at_last before t s x.0 x.1 l e h c (leb x.1 most_depth) refl

further : (before : List Token) (t : Token) (later : List Token) (s u : State) (d : ℕ) → Led before s
    → step body t s ≡ Some (u, d) → Sound before t u d
    → ((u : State) → Led (before ++ t ∷ []) u → TextAnswer ((before ++ t ∷ []) ++ later)) → (b : Bool)
    → leb d most_depth ≡ b → TextAnswer (before ++ t ∷ later)
further before t later s u d l e o f true h =
    subst TextAnswer (assoc before (t ∷ []) later) (f u (led_on before t s u d l e o (leb-true d most_depth h)))
further before t later s u d l e o f false h = nesting_fault before t later s u d l e o.reached
    (leb-false d most_depth h)

next_answer : (before : List Token) (t : Token) (later : List Token) (s : State) → Led before s
    → ((u : State) → Led (before ++ t ∷ []) u → TextAnswer ((before ++ t ∷ []) ++ later)) → (o : Result)
    → step body t s ≡ o → Held (Sound before t) o → TextAnswer (before ++ t ∷ later)
next_answer before t later s l f None e h = syntax_fault before t later s l e
next_answer before t later s l f (Some x) e h =
    further before t later s x.0 x.1 l e h f (leb x.1 most_depth) refl

answer_from : (later before : List Token) (s : State) → Led before s → IsClosed later → TextAnswer (before ++ later)
answer_from [] before s l c = absurd c
answer_from (t ∷ []) before s l c =
    last_answer before t s l c (step body t s) refl (sound_step body before t s l.good)
answer_from (t ∷ u ∷ us) before s l c =
    next_answer before t (u ∷ us) s l (λ v k. answer_from (u ∷ us) (before ++ t ∷ []) v k c.1) (step body t s) refl
    (sound_step body before t s l.good)

pub answer_of : (ts : List Token) → IsClosed ts → TextAnswer ts
answer_of ts c = answer_from ts [] start led_start c
