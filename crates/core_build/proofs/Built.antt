-- What is built of the tokens of a module's text is the module.
use Rattle.std.proofs.Common.{◌≡◌, refl, ap, ◌∙◌, ℕ, List, [], ◌∷◌, true, Option, Some}
use Rattle.term_read.specs.Lexemes.{◌>>=◌}
use Rattle.core_lex.specs.declared.token.Token.{Token}
use Rattle.core_lex.specs.declared.token.TokenKind.TheVariants.{End}
use Rattle.core_form.specs.Core.{Module}
use Rattle.core_grammar.specs.WrittenTree.{Tree, Written}
use Rattle.core_grammar.specs.Standing.{note}
use Rattle.core_grammar.specs.Signs.{Sight, of_kind, at_place, Sign, plain_sign, FitWhole, on, signs, signs_outside_notes}
use Rattle.core_grammar.specs.ModuleOf.{float_seen, wide_seen, long_seen, first_seen}
use Rattle.core_grammar.specs.Texts.{ModuleText}
use Rattle.core_actions.specs.ReadLaws.{ReadsExpressions, ReadsPatterns, ReadsBinaries}
use Rattle.core_build.specs.declared.item.Item.TheVariants as I
use Rattle.core_build.specs.Values.{Value}
use Rattle.core_build.specs.Building.{outside, bare, run, first_in, module_in, built}
use Rattle.core_build.proofs.Outside.{bare_signs, bare_fit}
use Rattle.core_build.proofs.Leads.{seen, Skipped}
use Rattle.core_build.proofs.Aside.{Blind, blind_sees}
use Rattle.core_build.proofs.AsideTrees.{tree, module_aside}
use Rattle.core_build.proofs.ModuleRead.{module_read}

floats_blind : Blind float_seen
floats_blind = record {
  symbols = λ p s. refl;
  words = λ p w. refl;
  numbers = λ p n. refl;
  ends = λ p. refl;
  kinds = λ k. refl;
  arities = λ n. refl;
}

wide_blind : Blind wide_seen
wide_blind = record {
  symbols = λ p s. refl;
  words = λ p w. refl;
  numbers = λ p n. refl;
  ends = λ p. refl;
  kinds = λ k. refl;
  arities = λ n. refl;
}

long_blind : Blind long_seen
long_blind = record {
  symbols = λ p s. refl;
  words = λ p w. refl;
  numbers = λ p n. refl;
  ends = λ p. refl;
  kinds = λ k. refl;
  arities = λ n. refl;
}

-- the end of the text
abbrev last : List Sign
last = plain_sign 0 (of_kind End) ∷ []

notes_skipped : (d : ℕ) (n : Tree) → Skipped (on true note d n)
notes_skipped d n = (tree float_seen floats_blind note d n).skipped

-- No token is left.

none_read : (x : List Value) (ts : List Token) → FitWhole [] ts → run ts [] x ≡ Some x
none_read x [] f = refl
none_read x (t ∷ ts) f = absurd f

none_seen : {A : Type 0} (see : Sight → Option A) (ts : List Token) → FitWhole [] ts
    → first_in see ts ≡ first_seen see []
none_seen see [] f = refl
none_seen see (t ∷ ts) f = absurd f

-- what tokens that fit show first
shown_first : {A : Type 0} (see : Sight → Option A) → Blind see → (w : Written) (ts : List Token)
    → FitWhole (bare_signs outside (signs w)) ts → first_in see ts ≡ first_seen see (signs_outside_notes w)
shown_first see b w ts f =
    ((module_aside see b 0 w).seen last []
    (blind_sees see b (plain_sign 0 (of_kind End)) (λ t f. ap (λ l. see (at_place t.place l)) f ∙ b.ends t.place)
    (record { sees = none_seen see }))).sees ts f

-- the module of a text is what is built of its tokens
pub texts_are_built : ReadsExpressions → ReadsPatterns → ReadsBinaries → (ts : List Token) (m : Module)
    → ModuleText ts m → built ts ≡ Some m
unfolding built
texts_are_built e_laws p_laws b_laws ts m h =
    let w = h.written in
    let us = bare outside ts in
    let f = bare_fit outside (signs w) ts h.fits in
    let F = module_read notes_skipped e_laws p_laws b_laws 0 w h.stands in
    ap (λ o. o >>= module_in us)
    ((F.on last (I.Skip ∷ []) F.left (seen λ q. record { leads = none_read F.left })).leads us f)
    ∙ F.shows us (signs_outside_notes w)
    (record {
      floats = shown_first float_seen floats_blind w us f;
      wide = shown_first wide_seen wide_blind w us f;
      long = shown_first long_seen long_blind w us f;
    })
    ∙ ap Some h.tree
