-- What a state read begins a text, and how deep its last token is.
use Rattle.std.proofs.Common.{◌≡◌, refl, sym, ap, ◌∙◌, subst, ℕ, zero, suc, List, [], ◌∷◌, ◌++◌, Bool, true, false, not, ◌&&◌, Option, None, Some}
use Rattle.std.specs.Bool.{⊤}
use Rattle.core_lex.specs.declared.token.Token.{Token}
use Rattle.core_lex.specs.declared.token.TokenKind.{TokenKind}
use Rattle.core_lex.specs.declared.token.TokenKind.TheVariants.{Word, Symbol, Bad, End}
use Rattle.core_lex.specs.declared.token.Symbol.TheVariants as S
use Rattle.core_lex.specs.Tokens.{is_last}
use Rattle.core_form.specs.SourceTree.{is_arity}
use Rattle.core_grammar.specs.WrittenTree.{Written}
use Rattle.core_grammar.specs.Standing.{IsModule}
use Rattle.core_grammar.specs.Signs.{of_kind, at_place, an_arity, Sign, plain_sign, Fits, signs}
use Rattle.core_grammar.specs.Texts.{last_depth}
use Rattle.core_texts.proofs.Truths.{never, and_left, and_right}
use Rattle.core_texts.proofs.TokenTests.{is_symbol, is_symbol_is, is_word, is_word_is, is_end, is_end_is}
use Rattle.core_texts.proofs.Parts.{Part, Value, signs_of, Right, here, least}
use Rattle.core_texts.proofs.Least.{least_right}
use Rattle.core_texts.proofs.Overs.{Over, over_more, last_is}
use Rattle.core_texts.proofs.Plans.{Plan, done, symbol_next, word_next, arity_next, look, call, bracket, if_next, symbol_sign, Bracket}
use Rattle.core_texts.proofs.Stacks.{Stack, bottom, frame, State, state, finished, Result, where_true, Arity, arity_of, arity_step, either, step_plan, enter, finish, step}

-- a way to the end of a plan
pub record Ending (w : Part) (k : List Sign → List Sign) : Type 0 where
  pub value : Value w
  pub right : Right w value
  pub more : List Sign → List Sign
  pub is : (r : List Sign) → signs_of w value r ≡ k (more r)

pub ending : {w : Part} {k : List Sign → List Sign} → Plan w k → Ending w k
ending (done a h e) = record { value = a; right = h; more = λ r. r; is = e }
ending (symbol_next c d s P) =
    let x = ending P in
    record { value = x.value; right = x.right; more = λ r. symbol_sign c d s ∷ x.more r; is = x.is }
ending (word_next d y P) =
    let x = ending P in
    record { value = x.value; right = x.right; more = λ r. plain_sign d (of_kind (Word y)) ∷ x.more r; is = x.is }
ending (arity_next d f) =
    let x = ending (f 0 refl) in
    record { value = x.value; right = x.right; more = λ r. plain_sign d (an_arity 0) ∷ x.more r; is = x.is }
ending (look l f) =
    let x = ending (f l.place l.kind l.one) in
    record {
      value = x.value;
      right = x.right;
      more = λ r. plain_sign (l.depth l.place l.kind) (at_place l.place l.kind) ∷ x.more r;
      is = x.is;
    }
ending (call v f) =
    let x = ending (f (least v) (least_right v)) in
    record { value = x.value; right = x.right; more = λ r. signs_of v (least v) (x.more r); is = x.is }
ending (bracket v s f) =
    let x = ending (f here (least v) (least_right v)) in
    record {
      value = x.value;
      right = x.right;
      more = λ r. plain_sign (s.deep (least v)) (s.sight here (least v))
          ∷ signs_of v (least v) (x.more r);
      is = x.is;
    }
ending (if_next c P Q) = ending Q

-- with this part and these signs behind it the module is the one
abbrev pub Completes : {v : Part} → Stack v → Value v → List Sign → Written → Type 0
Completes bottom a r w = (a ≡ w) × (r ≡ plain_sign 0 (of_kind End) ∷ [])
Completes (frame {w = u} pre f st) a r w =
    (b : Value u) × (x : List Sign) × (signs_of u b x ≡ pre a r) × Completes st b x w

-- the tokens are over what was read of each module that goes on so
abbrev pub Consistent : List Token → (w : Part) → (List Sign → List Sign) → Stack w → Type 0
Consistent ts w k st =
    (a : Value w) (x r : List Sign) (m : Written) → signs_of w a r ≡ k x → Completes st a r m → Over ts (signs m) x

-- a module that begins with the tokens and one more, whose depth is this
pub record Reached (ts : List Token) (t : Token) (d : ℕ) : Type 0 where
  pub written : Written
  pub rest : List Sign
  pub is_module : IsModule written
  pub over : Over (ts ++ t ∷ []) (signs written) rest
  pub depth : last_depth (signs written) (ts ++ t ∷ []) ≡ d

abbrev pub Good : List Token → State → Type 0
Good ts (state {w = w} {k = k} P st) = Consistent ts w k st
Good ts (finished m) = IsModule m × Over ts (signs m) []

abbrev pub IsFinished : State → Type 0
IsFinished (state P st) = ⊥
IsFinished (finished m) = ⊤

pub record Sound (ts : List Token) (t : Token) (s : State) (d : ℕ) : Type 0 where
  pub good : Good (ts ++ t ∷ []) s
  pub reached : Reached ts t d
  pub last : is_last t.kind ≡ true → IsFinished s

abbrev pub Held : (State → ℕ → Type 0) → Result → Type 0
Held Q None = ⊤
Held Q (Some s) = Q s.0 s.1

held_where : (Q : State → ℕ → Type 0) (b : Bool) (f : b ≡ true → State × ℕ)
    → ((h : b ≡ true) → Q (f h).0 (f h).1) → Held Q (where_true b f)
held_where Q true f g = g refl
held_where Q false f g = tt

held_either : (Q : State → ℕ → Type 0) (b : Bool) (x y : Result) → Held Q x → Held Q y → Held Q (either b x y)
held_either Q true x y h k = h
held_either Q false x y h k = k

held_arity : (Q : State → ℕ → Type 0) (t : Token) (f : (n : ℕ) → is_arity n ≡ true → State × ℕ) (o : Option (Arity t))
    → ((a : Arity t) → Q (f a.number a.right).0 (f a.number a.right).1) → Held Q (arity_step f o)
held_arity Q t f None g = tt
held_arity Q t f (Some a) g = g a

-- the stack can be ended
record Ended {v : Part} (st : Stack v) (a : Value v) : Type 0 where
  pub written : Written
  pub rest : List Sign
  pub is_module : IsModule written
  pub completes : Completes st a rest written

end_stack : {v : Part} (st : Stack v) (a : Value v) → Right v a → Ended st a
end_stack bottom a h = record {
  written = a;
  rest = plain_sign 0 (of_kind End) ∷ [];
  is_module = h;
  completes = (refl, refl);
}
end_stack (frame pre f st) a h =
    let e = ending (f a h) in
    let y = end_stack st e.value e.right in
    record {
      written = y.written;
      rest = e.more y.rest;
      is_module = y.is_module;
      completes = (e.value, y.rest, e.is y.rest, y.completes);
    }

reach : (ts : List Token) (t : Token) {w : Part} {k : List Sign → List Sign} (st : Stack w) → Consistent ts w k st
    → (g : Sign) (h : List Sign → List Sign) → Plan w (λ r. k (g ∷ h r)) → Fits g.sight t → g.marked ≡ false
    → Reached ts t g.depth
reach ts t st c g h P f m =
    let e = ending P in
    let y = end_stack st e.value e.right in
    let o = c e.value (g ∷ h (e.more y.rest)) y.rest y.written (e.is y.rest) y.completes in
    record {
      written = y.written;
      rest = h (e.more y.rest);
      is_module = y.is_module;
      over = over_more ts t _ g _ o f m;
      depth = last_is ts t _ g _ o;
    }

sound_token : (ts : List Token) (t : Token) {w : Part} {k : List Sign → List Sign} (st : Stack w)
    → Consistent ts w k st → (g : Sign) (P : Plan w (λ r. k (g ∷ r))) → Fits g.sight t → g.marked ≡ false
    → is_last t.kind ≡ false → Sound ts t (state P st) g.depth
sound_token ts t st c g P f m l = record {
  good = λ a x r w e h. over_more ts t _ g x (c a (g ∷ x) r w e h) f m;
  reached = reach ts t st c g (λ r. r) P f m;
  last = λ e. never (sym l ∙ e);
}

not_last : (f : TokenKind → Bool) (k : TokenKind) → f Bad ≡ false → f End ≡ false → f k ≡ true → is_last k ≡ false
not_last f Bad b e h = never (sym b ∙ h)
not_last f End b e h = never (sym e ∙ h)
not_last f _ b e h = refl

sound_bracket : (body : (v : Part) → Plan v (λ r. r)) (ts : List Token) (t : Token) {w : Part}
    {k : List Sign → List Sign} (st : Stack w) → Consistent ts w k st → (v : Part) (s : Bracket v)
    (f : (b : Value v) → Right v b
    → Plan w (λ r. k (plain_sign (s.deep b) (s.sight t.place b) ∷ signs_of v b r)))
    → t.kind ≡ Symbol S.OpenParen
    → Sound ts t (state (body v) (frame (λ b r. k (plain_sign (s.deep b) (s.sight t.place b) ∷ signs_of v b r)) f st))
    (s.deep (least v))
sound_bracket body ts t {w} {k} st c v s f e = record {
  good = λ a x r m i h.
      subst (Over (ts ++ t ∷ []) (signs m)) i
      (over_more ts t _ (plain_sign (s.deep a) (s.sight t.place a)) (signs_of v a r)
      (c h.0 (plain_sign (s.deep a) (s.sight t.place a) ∷ signs_of v a r) h.1 m h.2 h.3) (s.fits t a e) refl);
  reached = reach ts t {k = k} st c (plain_sign (s.deep (least v)) (s.sight t.place (least v)))
      (λ r. signs_of v (least v) r) (f (least v) (least_right v)) (s.fits t (least v) e) refl;
  last = λ l. never (sym (ap is_last e) ∙ l);
}

module _ (body : (v : Part) → Plan v (λ r. r)) (ts : List Token) (t : Token) where
  sound_plan : (go : (v : Part) → Stack v → Result)
      (en : (v : Part) (st : Stack v) → Consistent ts v (λ r. r) st → Held (Sound ts t) (go v st))
      {w : Part} (st : Stack w) (fin : (a : Value w) → Right w a → Result)
      (fi : (a : Value w) (h : Right w a)
      → ((x : List Sign) (m : Written) → Completes st a x m → Over ts (signs m) x) → Held (Sound ts t) (fin a h))
      {k : List Sign → List Sign} (P : Plan w k) → Consistent ts w k st
      → Held (Sound ts t) (step_plan body t go st fin P)
  sound_plan go en st fin fi (done a h e) c = fi a h (λ x m i. c a x x m (e x) i)
  sound_plan go en st fin fi (symbol_next b d s P) c =
      held_where (Sound ts t) (b && is_symbol s t.kind) _
      (λ h. let e = is_symbol_is s t.kind (and_right b (is_symbol s t.kind) h) in
      sound_token ts t st c (symbol_sign b d s) P e (ap not (and_left b (is_symbol s t.kind) h)) (ap is_last e))
  sound_plan go en st fin fi (word_next d x P) c =
      held_where (Sound ts t) (is_word x t.kind) _
      (λ h. let e = is_word_is x t.kind h in
      sound_token ts t st c (plain_sign d (of_kind (Word x))) P e refl (ap is_last e))
  sound_plan go en st fin fi (arity_next d f) c =
      held_arity (Sound ts t) t _ (arity_of t)
      (λ a. sound_token ts t st c (plain_sign d (an_arity a.number)) (f a.number a.right) a.token refl
      (ap is_last a.token.kind))
  sound_plan go en st fin fi (look l f) c =
      held_where (Sound ts t) (l.takes t.kind) _
      (λ h. sound_token ts t st c (plain_sign (l.depth t.place t.kind) (at_place t.place t.kind))
      (f t.place t.kind h) (refl, refl) refl (not_last l.takes t.kind l.no_bad l.no_end h))
  sound_plan go en st fin fi (call {k = k} v f) c =
      en v (frame (λ b r. k (signs_of v b r)) f st)
      (λ a x r m e h. subst (Over ts (signs m)) e (c h.0 (signs_of v a r) h.1 m h.2 h.3))
  sound_plan go en st fin fi (bracket {k = k} v s f) c =
      held_where (Sound ts t) (is_symbol S.OpenParen t.kind) _
      (λ h. sound_bracket body ts t {k = k} st c v s (f t.place) (is_symbol_is S.OpenParen t.kind h))
  sound_plan go en st fin fi (if_next b P Q) c =
      held_either (Sound ts t) (b t.kind) _ _ (sound_plan go en st fin fi P c) (sound_plan go en st fin fi Q c)

  sound_enter : (n : ℕ) (v : Part) (st : Stack v) → Consistent ts v (λ r. r) st
      → Held (Sound ts t) (enter body t n v st)
  sound_enter zero v st c = tt
  sound_enter (suc n) v st c =
      sound_plan (enter body t n) (sound_enter n) st (λ a h. None) (λ a h i. tt) (body v) c

  sound_finish : {v : Part} (st : Stack v) (a : Value v) (h : Right v a)
      → ((x : List Sign) (m : Written) → Completes st a x m → Over ts (signs m) x)
      → Held (Sound ts t) (finish body t st a h)
  sound_finish bottom a h c =
      held_where (Sound ts t) (is_end t.kind) _
      (λ e. let o = c (plain_sign 0 (of_kind End) ∷ []) a (refl, refl) in
      let p = over_more ts t (signs a) (plain_sign 0 (of_kind End)) [] o (is_end_is t.kind e) refl in
      record {
        good = (h, p);
        reached = record {
          written = a;
          rest = [];
          is_module = h;
          over = p;
          depth = last_is ts t (signs a) (plain_sign 0 (of_kind End)) [] o;
        };
        last = λ l. tt;
      })
  sound_finish (frame pre f st) a h c =
      sound_plan (enter body t 4) (sound_enter 4) st (finish body t st) (sound_finish st) (f a h)
      (λ b x r m e i. c x m (b, r, e, i))

  pub sound_step : (s : State) → Good ts s → Held (Sound ts t) (step body t s)
  sound_step (state P st) c =
      sound_plan (enter body t 4) (sound_enter 4) st (finish body t st) (sound_finish st) P c
  sound_step (finished m) c = tt
