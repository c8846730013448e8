-- A fault has one place, and tokens have one answer.
use Rattle.std.proofs.Common.{◌≡◌, sym, ap, ◌∙◌, subst, List, [], ◌∷◌, ◌++◌}
use Rattle.erl_base.specs.declared.ids.Place.{Place}
use Rattle.core_lex.specs.declared.token.Token.{Token}
use Rattle.core_form.specs.Core.{Module}
use Rattle.core_grammar.specs.Signs.{signs}
use Rattle.core_grammar.specs.Texts.{ModuleText, BeginsModule, SyntaxFault, FirstSyntaxFault, NestingFault}
use Rattle.core_texts.specs.Answers.{OnePlace, OneAnswer}
use Rattle.core_texts.proofs.Cuts.{Cut, here, sooner, later, compare, assoc, front_of_whole, begins_up_to}

syntax_at : (ts : List Token) (p q : Place) (f : SyntaxFault ts p) (g : SyntaxFault ts q)
    → Cut f.before f.token g.before g.token → p ≡ q
syntax_at ts p q f g (here e k) = sym f.place ∙ ap (λ t. t.place) k ∙ g.place
syntax_at ts p q f g (sooner m e) = absurd (f.first.ends (begins_up_to f.before f.token m g.before e g.first.begins))
syntax_at ts p q f g (later m e) = absurd (g.first.ends (begins_up_to g.before g.token m f.before e f.first.begins))

nesting_at : (ts : List Token) (p q : Place) (f : NestingFault ts p) (g : NestingFault ts q)
    → Cut f.before f.token g.before g.token → p ≡ q
nesting_at ts p q f g (here e k) = sym f.place ∙ ap (λ t. t.place) k ∙ g.place
nesting_at ts p q f g (sooner m e) =
    absurd (g.within (f.before ++ f.token ∷ []) m (e ∙ sym (assoc f.before (f.token ∷ []) m)) f.deep)
nesting_at ts p q f g (later m e) =
    absurd (f.within (g.before ++ g.token ∷ []) m (e ∙ sym (assoc g.before (g.token ∷ []) m)) g.deep)

pub one_place : (ts : List Token) → OnePlace ts
one_place ts = record {
  syntax = λ p q f g. syntax_at ts p q f g
      (compare f.before g.before f.token g.token f.first.cut.later g.first.cut.later
      (sym f.first.cut.cut ∙ g.first.cut.cut));
  nesting = λ p q f g. nesting_at ts p q f g
      (compare f.before g.before f.token g.token f.cut.later g.cut.later (sym f.cut.cut ∙ g.cut.cut));
}

pub text_begins : (ts : List Token) (m : Module) → ModuleText ts m → BeginsModule ts
text_begins ts m h = record {
  written = h.written;
  stands = h.stands;
  fits = front_of_whole (signs h.written) ts h.fits;
}

syntax_and_nesting : (ts : List Token) (p q : Place) (f : FirstSyntaxFault ts p) (g : NestingFault ts q)
    → Cut f.fault.before f.fault.token g.before g.token → ⊥
syntax_and_nesting ts p q f g (here e k) =
    f.fault.first.ends (subst BeginsModule (ap (λ b. b ++ g.token ∷ []) (sym e)
    ∙ ap (λ t. f.fault.before ++ t ∷ []) (sym k)) g.deep.begins)
syntax_and_nesting ts p q f g (sooner m e) =
    f.fault.first.ends (begins_up_to f.fault.before f.fault.token (m ++ g.token ∷ []) (g.before ++ g.token ∷ [])
    (ap (λ b. b ++ g.token ∷ []) e ∙ assoc f.fault.before (f.fault.token ∷ m) (g.token ∷ [])) g.deep.begins)
syntax_and_nesting ts p q f g (later m e) =
    f.within (g.before ++ g.token ∷ []) m (e ∙ sym (assoc g.before (g.token ∷ []) m)) g.deep

pub one_answer : (ts : List Token) → OneAnswer ts
one_answer ts = record {
  text_or_syntax = λ m p h f.
      f.first.ends (begins_up_to f.before f.token f.first.cut.later ts f.first.cut.cut (text_begins ts m h));
  text_or_nesting = λ p h f.
      h (f.before ++ f.token ∷ []) f.cut.later (f.cut.cut ∙ sym (assoc f.before (f.token ∷ []) f.cut.later)) f.deep;
  syntax_or_nesting = λ p q f g. syntax_and_nesting ts p q f g
      (compare f.fault.before g.before f.fault.token g.token f.fault.first.cut.later g.cut.later
      (sym f.fault.first.cut.cut ∙ g.cut.cut));
}
