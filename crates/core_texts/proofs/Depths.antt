-- Beginnings of texts with the depth of their last token, by running them.
use Rattle.std.proofs.Common.{arith, ◌≡◌, refl, sym, ap, ◌∙◌, subst, ℕ, ◌<◌, List, [], ◌∷◌, ◌++◌, Bool, true, false, Option, None, Some}
use Rattle.core_lex.specs.declared.token.Token.{Token}
use Rattle.core_lex.specs.Tokens.{tokens, word_at, variable_at, symbol_at, exponent_len, fraction_len, integer_of, number_at, atom_at, lexeme_at}
use Rattle.core_grammar.specs.Signs.{signs}
use Rattle.core_grammar.specs.Texts.{last_depth}
use Rattle.core_texts.specs.Examples.{LastDepth, DepthExamples}
use Rattle.core_texts.proofs.Cuts.{assoc}
use Rattle.core_texts.proofs.Truths.{never}
use Rattle.core_texts.proofs.Overs.{over_front, last_is}
use Rattle.core_texts.proofs.Stacks.{State, Result, step}
use Rattle.core_texts.proofs.Sound.{Good, Sound, Held, Reached, sound_step}
use Rattle.core_texts.proofs.Bodies.{body}
use Rattle.core_texts.proofs.Tracks.{Tracked, start, tracked_start, stepped, tracked_on, depth_or}
use Rattle.core_texts.proofs.Answering.{led_start}

-- the depth of the last token, where all are taken
abbrev depth_next : Result → (all_read : Bool) → (State → Option ℕ) → Option ℕ
depth_next None b f = None
depth_next (Some x) true f = Some x.1
depth_next (Some x) false f = f x.0

abbrev is_empty : List Token → Bool
is_empty [] = true
is_empty (t ∷ ts) = false

abbrev depth_in : List Token → State → Option ℕ
depth_in [] s = None
depth_in (t ∷ ts) s = depth_next (step body t s) (is_empty ts) (depth_in ts)

abbrev is_there : Option ℕ → Bool
is_there None = false
is_there (Some n) = true

abbrev number_or : ℕ → Option ℕ → ℕ
number_or d None = d
number_or d (Some n) = n

last_depth_is : (before : List Token) (t : Token) (s u : State) (d : ℕ) → Tracked before s
    → step body t s ≡ Some (u, d) → Reached before t d → LastDepth (before ++ t ∷ []) d
last_depth_is before t s u d l e r = record {
  deeper = λ most h. record {
    begins = record {
      written = r.written;
      stands = r.is_module;
      fits = over_front (before ++ t ∷ []) (signs r.written) r.rest r.over;
    };
    deeper = λ m i f.
        let x = stepped before t s l m i f in
        let a = last_is before t (signs m) x.sign x.rest x.over in
        let b = x.went.least_depth in
        let c : d ≡ x.went.depth = ap (depth_or d) (sym e ∙ x.went.is) in
        omega (arith, a, b, c, h);
  };
  within = λ most h i.
      let k : most < last_depth (signs r.written) (before ++ t ∷ []) =
      i.deeper r.written r.is_module (over_front (before ++ t ∷ []) (signs r.written) r.rest r.over) in
      let z = r.depth in
      absurd (omega (arith, k, z, h));
}

by_result : (before : List Token) (t : Token) (ts : List Token) (s : State) (d : ℕ) → Tracked before s
    → ((v : State) → Good (before ++ t ∷ []) v → Tracked (before ++ t ∷ []) v → depth_in ts v ≡ Some d
    → LastDepth ((before ++ t ∷ []) ++ ts) d)
    → (o : Result) → step body t s ≡ o → Held (Sound before t) o
    → depth_next o (is_empty ts) (depth_in ts) ≡ Some d → LastDepth (before ++ t ∷ ts) d
by_result before t ts s d l f None e h k = never (ap is_there k)
by_result before t [] s d l f (Some x) e h k =
    subst (LastDepth (before ++ t ∷ [])) (ap (number_or d) k)
    (last_depth_is before t s x.0 x.1 l e h.reached)
by_result before t (v ∷ vs) s d l f (Some x) e h k =
    subst (λ z. LastDepth z d) (assoc before (t ∷ []) (v ∷ vs))
    (f x.0 h.good (tracked_on before t s x.0 x.1 l e) k)

depth_of : (ts before : List Token) (s : State) (d : ℕ) → Good before s → Tracked before s → depth_in ts s ≡ Some d
    → LastDepth (before ++ ts) d
depth_of [] before s d g l k = never (ap is_there k)
depth_of (t ∷ ts) before s d g l k =
    by_result before t ts s d l (λ v m n i. depth_of ts (before ++ t ∷ []) v d m n i) (step body t s) refl
    (sound_step body before t s g) k

broken_at : (ts : List Token) (d : ℕ) → depth_in ts start ≡ Some d → LastDepth ts d
broken_at ts d k = depth_of ts [] start d led_start.good tracked_start k

pub depth_examples : DepthExamples
unfolding tokens lexeme_at word_at variable_at symbol_at number_at fraction_len exponent_len integer_of atom_at
depth_examples = record {
  clause_bracket = broken_at _ _ refl;
  in_bracket = broken_at _ _ refl;
  pattern_bar = broken_at _ _ refl;
  clause_when = broken_at _ _ refl;
  key_bracket = broken_at _ _ refl;
  variable_key = broken_at _ _ refl;
  constant_key = broken_at _ _ refl;
}
