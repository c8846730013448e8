-- Each example, by running it.
use Rattle.std.proofs.Common.{◌≡◌, refl, ap, subst, ℕ, leb, List, [], ◌∷◌, ◌++◌, Bool, true, false, Option, None, Some}
use Rattle.std.proofs.lemmas.Bool.{leb-true}
use Rattle.erl_base.specs.declared.ids.Place.{Place}
use Rattle.core_lex.specs.declared.token.Token.{Token}
use Rattle.core_lex.specs.Tokens.{tokens, word_at, variable_at, symbol_at, exponent_len, fraction_len, integer_of, number_at, atom_at, lexeme_at}
use Rattle.core_grammar.specs.Texts.{FirstSyntaxFault, most_depth}
use Rattle.core_texts.specs.Examples.{FaultExamples}
use Rattle.core_texts.proofs.Cuts.{assoc}
use Rattle.core_texts.proofs.Truths.{never}
use Rattle.core_texts.proofs.Stacks.{State, Result, step}
use Rattle.core_texts.proofs.Sound.{Sound, Held, sound_step}
use Rattle.core_texts.proofs.Bodies.{body}
use Rattle.core_texts.proofs.Tracks.{start}
use Rattle.core_texts.proofs.Answering.{Led, led_start, led_on, first_fault}

abbrev where_small : Bool → Option Place → Option Place
where_small true o = o
where_small false o = None

abbrev refused_next : Result → Place → (State → Option Place) → Option Place
refused_next None p f = Some p
refused_next (Some x) p f = where_small (leb x.1 most_depth) (f x.0)

-- the place of the first token that is refused, where none before it is too deep
abbrev refused_in : List Token → State → Option Place
refused_in [] s = None
refused_in (t ∷ ts) s = refused_next (step body t s) t.place (refused_in ts)

abbrev is_there : Option Place → Bool
is_there None = false
is_there (Some p) = true

abbrev place_or : Place → Option Place → Place
place_or q None = q
place_or q (Some p) = p

small_next : (before : List Token) (t : Token) (ts : List Token) (s u : State) (d : ℕ) (p : Place) → Led before s
    → step body t s ≡ Some (u, d) → Sound before t u d
    → ((v : State) → Led (before ++ t ∷ []) v → refused_in ts v ≡ Some p → FirstSyntaxFault
    ((before ++ t ∷ []) ++ ts) p)
    → (b : Bool) → leb d most_depth ≡ b → where_small b (refused_in ts u) ≡ Some p
    → FirstSyntaxFault (before ++ t ∷ ts) p
small_next before t ts s u d p l e o f true h k =
    subst (λ z. FirstSyntaxFault z p) (assoc before (t ∷ []) ts)
    (f u (led_on before t s u d l e o (leb-true d most_depth h)) k)
small_next before t ts s u d p l e o f false h k = never (ap is_there k)

by_result : (before : List Token) (t : Token) (ts : List Token) (s : State) (p : Place) → Led before s
    → ((v : State) → Led (before ++ t ∷ []) v → refused_in ts v ≡ Some p → FirstSyntaxFault
    ((before ++ t ∷ []) ++ ts) p)
    → (o : Result) → step body t s ≡ o → Held (Sound before t) o → refused_next o t.place (refused_in ts) ≡ Some p
    → FirstSyntaxFault (before ++ t ∷ ts) p
by_result before t ts s p l f None e h k =
    subst (FirstSyntaxFault (before ++ t ∷ ts)) (ap (place_or p) k) (first_fault before t ts s l e)
by_result before t ts s p l f (Some x) e h k =
    small_next before t ts s x.0 x.1 p l e h f (leb x.1 most_depth) refl k

fault_in : (ts before : List Token) (s : State) (p : Place) → Led before s → refused_in ts s ≡ Some p
    → FirstSyntaxFault (before ++ ts) p
fault_in [] before s p l k = never (ap is_there k)
fault_in (t ∷ ts) before s p l k =
    by_result before t ts s p l (λ v m i. fault_in ts (before ++ t ∷ []) v p m i) (step body t s) refl
    (sound_step body before t s l.good) k

-- a text that is refused there
refused_at : (ts : List Token) (p : Place) → refused_in ts start ≡ Some p → FirstSyntaxFault ts p
refused_at ts p k = fault_in ts [] start p led_start k

pub fault_examples : FaultExamples
unfolding tokens lexeme_at word_at variable_at symbol_at number_at fraction_len exponent_len integer_of atom_at
fault_examples = record {
  no_when = refused_at _ _ refl;
  no_clause = refused_at _ _ refl;
  bare_brackets = refused_at _ _ refl;
  atom_note = refused_at _ _ refl;
  one_caught = refused_at _ _ refl;
  four_caught = refused_at _ _ refl;
  loose_key = refused_at _ _ refl;
  ten_digits = refused_at _ _ refl;
  signed_arity = refused_at _ _ refl;
  tuple_alias = refused_at _ _ refl;
  noted_alias = refused_at _ _ refl;
  inner_when = refused_at _ _ refl;
  noted_integer = refused_at _ _ refl;
  variable_key = refused_at _ _ refl;
  variable_constant = refused_at _ _ refl;
  base_constant = refused_at _ _ refl;
  float_value = refused_at _ _ refl;
  wide_size = refused_at _ _ refl;
  many_bits = refused_at _ _ refl;
  no_unit = refused_at _ _ refl;
  binary_kind = refused_at _ _ refl;
  native_flag = refused_at _ _ refl;
  flags_list = refused_at _ _ refl;
  more_text = refused_at _ _ refl;
  no_end = refused_at _ _ refl;
}
