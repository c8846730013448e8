-- What begins a text is read: a state that a module goes on from takes its next token.
use Rattle.std.proofs.Common.{arith, ◌≡◌, refl, sym, ap, ◌∙◌, subst, ◌≤◌, ◌+◌, ℕ, zero, suc, leb, List, [], ◌∷◌, Bool, true, false, not, ◌&&◌, pos, Option, None, Some}
use Rattle.std.specs.Bool.{⊤}
use Rattle.std.proofs.lemmas.Bool.{le-leb}
use Rattle.erl_base.specs.declared.ids.Place.{Place}
use Rattle.core_lex.specs.declared.token.Token.{Token}
use Rattle.core_lex.specs.declared.token.TokenKind.{TokenKind}
use Rattle.core_lex.specs.declared.token.TokenKind.TheVariants.{Word, Symbol, Number, End}
use Rattle.core_lex.specs.declared.token.Symbol.TheVariants as S
use Rattle.core_form.specs.SourceTree.{is_arity}
use Rattle.core_grammar.specs.WrittenTree.{Written}
use Rattle.core_grammar.specs.Signs.{of_kind, at_place, an_arity, Sign, plain_sign, Fits, IsArityToken}
use Rattle.core_texts.proofs.Truths.{never, and_in}
use Rattle.core_texts.proofs.Fronts.{front, kind_fits}
use Rattle.core_texts.proofs.TokenTests.{is_symbol, same_symbol_self, is_word, same_word_self, is_end}
use Rattle.core_texts.proofs.Parts.{Part, Value, signs_of, Right, least, Follows}
use Rattle.core_texts.proofs.Plans.{Plan, done, symbol_next, word_next, arity_next, look, call, bracket, if_next, symbol_sign}
use Rattle.core_texts.proofs.Stacks.{Stack, bottom, frame, State, state, finished, Result, where_true, Arity, arity_bytes, arity_from, arity_of, arity_step, either, step_plan, enter, finish, step}

pub data Choice (A B : Type 0) : Type 0 where
  first_way : A → Choice A B
  second_way : B → Choice A B

-- the plan reads this value from these signs, and those are left
abbrev pub Along : {w : Part} {k : List Sign → List Sign} → Plan w k → Value w → List Sign → List Sign → Type 0
Along (done a h e) b gs r = (a ≡ b) × (gs ≡ r)
Along (symbol_next c d s P) b gs r = (hs : List Sign) × (gs ≡ symbol_sign c d s ∷ hs) × Along P b hs r
Along (word_next d x P) b gs r = (hs : List Sign) × (gs ≡ plain_sign d (of_kind (Word x)) ∷ hs) × Along P b hs r
Along (arity_next d f) b gs r =
    (n : ℕ) × (is_arity n ≡ true) × (hs : List Sign) × (gs ≡ plain_sign d (an_arity n) ∷ hs)
    × ((h : is_arity n ≡ true) → Along (f n h) b hs r)
Along (look l f) b gs r =
    (p : Place) × (x : TokenKind) × (l.takes x ≡ true) × (hs : List Sign)
    × (gs ≡ plain_sign (l.depth p x) (at_place p x) ∷ hs) × ((h : l.takes x ≡ true) → Along (f p x h) b hs r)
Along (call v f) b gs r =
    (c : Value v) × Right v c × (hs : List Sign) × (gs ≡ signs_of v c hs) × Follows v hs
    × ((h : Right v c) → Along (f c h) b hs r)
Along (bracket v s f) b gs r =
    (c : Value v) × Right v c × (p : Place) × (hs : List Sign)
    × (gs ≡ plain_sign (s.deep c) (s.sight p c) ∷ signs_of v c hs) × Follows v hs
    × ((t : Token) → Fits (s.sight p c) t → (h : Right v c) → Along (f t.place c h) b hs r)
Along (if_next c P Q) b gs r =
    Choice ((front c gs ≡ true) × Along P b gs r) ((front c gs ≡ false) × Along Q b gs r)

-- the stack goes on from a value to the module
abbrev pub Waits : {v : Part} → Stack v → Value v → List Sign → Written → Type 0
Waits bottom a r m = (a ≡ m) × (r ≡ plain_sign 0 (of_kind End) ∷ [])
Waits (frame {v = v} {w = u} pre f st) a r m =
    (b : Value u) × (x : List Sign) × ((h : Right v a) → Along (f a h) b r x) × Waits st b x m

-- from the state the module goes on with these signs
abbrev pub Goes : State → List Sign → Written → Type 0
Goes (state {w = w} P st) gs m = (a : Value w) × (r : List Sign) × Along P a gs r × Waits st a r m
Goes (finished n) gs m = (n ≡ m) × (gs ≡ [])

pub record Went (o : Result) (g : Sign) (gs : List Sign) (m : Written) : Type 0 where
  pub next : State
  pub depth : ℕ
  pub is : o ≡ Some (next, depth)
  pub goes : Goes next gs m
  pub least_depth : depth ≤ g.depth

-- which plans begin with a token, after at most so many parts
module _ (D : Type 0) (R : Part → Type 0) where
  abbrev pub Quick : {w : Part} {k : List Sign → List Sign} → Plan w k → Type 0
  Quick (done a h e) = D
  Quick (symbol_next c d s P) = ⊤
  Quick (word_next d x P) = ⊤
  Quick (arity_next d f) = ⊤
  Quick (look l f) = ⊤
  Quick (call v f) = R v
  Quick (bracket v s f) = ⊤
  Quick (if_next c P Q) = Quick P × Quick Q

abbrev pub QuickPart : (body : (v : Part) → Plan v (λ r. r)) → ℕ → Part → Type 0
QuickPart body zero v = ⊥
QuickPart body (suc n) v = Quick ⊥ (QuickPart body n) (body v)

abbrev head_or : Sign → List Sign → Sign
head_or g [] = g
head_or g (h ∷ hs) = h

abbrev tail_of : List Sign → List Sign
tail_of [] = []
tail_of (h ∷ hs) = hs

went_where : (g : Sign) (gs : List Sign) (m : Written) (b : Bool) (f : b ≡ true → State × ℕ) → b ≡ true
    → ((h : b ≡ true) → Goes (f h).0 gs m × ((f h).1 ≤ g.depth)) → Went (where_true b f) g gs m
went_where g gs m true f h k = record {
  next = (f refl).0;
  depth = (f refl).1;
  is = refl;
  goes = (k refl).0;
  least_depth = (k refl).1;
}
went_where g gs m false f h k = never h

went_first : (g : Sign) (gs : List Sign) (m : Written) (b : Bool) (x y : Result) → b ≡ true → Went x g gs m
    → Went (either b x y) g gs m
went_first g gs m true x y h w = w
went_first g gs m false x y h w = never h

went_second : (g : Sign) (gs : List Sign) (m : Written) (b : Bool) (x y : Result) → b ≡ false → Went y g gs m
    → Went (either b x y) g gs m
went_second g gs m true x y h w = never (sym h)
went_second g gs m false x y h w = w

unmarked : (c : Bool) → not c ≡ false → c ≡ true
unmarked true h = refl
unmarked false h = never (sym h)

abbrev some_signs : List Sign → Bool
some_signs [] = true
some_signs (g ∷ gs) = false

abbrev count_in : TokenKind → ℕ
count_in (Number false (pos n)) = n
count_in _ = 0

abbrev is_count : TokenKind → Bool
is_count (Number false (pos n)) = true
is_count _ = false

le_trans : (a b c : ℕ) → a ≤ b → c ≡ b → a ≤ c
le_trans a b c h e = omega (arith, h, e)

-- the arity of a token that is one
record Known (t : Token) (n : ℕ) (o : Option (Arity t)) : Type 0 where
  pub arity : Arity t
  pub is : o ≡ Some arity
  pub same : arity.number ≡ n

known_where : (n : ℕ) (t : Token) (b : Bool) (f : b ≡ true → Arity t) → b ≡ true
    → ((h : b ≡ true) → (f h).number ≡ n) → Known t n (where_true b f)
known_where n t true f h k = record { arity = f refl; is = refl; same = k refl }
known_where n t false f h k = never h

number_kept : (m : ℕ) (t : Token) (e : t.kind ≡ Number false (pos m))
    (x : (leb t.to (t.from + 9) && is_arity m) ≡ true) → (arity_bytes m t e x).number ≡ m
unfolding arity_bytes
number_kept m t e x = refl

known_kind : (n : ℕ) (t : Token) (k : TokenKind) (e : t.kind ≡ k) → k ≡ Number false (pos n) → t.to ≤ t.from + 9
    → is_arity n ≡ true → Known t n (arity_from t k e)
known_kind n t (Number false (pos m)) e i l h =
    known_where n t (leb t.to (t.from + 9) && is_arity m) (λ x. arity_bytes m t e x)
    (and_in _ _ (le-leb t.to (t.from + 9) l) (ap is_arity (ap count_in i) ∙ h))
    (λ x. number_kept m t e x ∙ ap count_in i)
known_kind n t k e i l h = never (ap is_count i)

arity_known : (n : ℕ) (t : Token) → IsArityToken n t → is_arity n ≡ true → Known t n (arity_of t)
arity_known n t a h = known_kind n t t.kind refl a.kind a.bytes h

went_arity : (g : Sign) (gs : List Sign) (m : Written) (t : Token) (n : ℕ) (o : Option (Arity t))
    (f : (n : ℕ) → is_arity n ≡ true → State × ℕ) → Known t n o
    → ((h : is_arity n ≡ true) → Goes (f n h).0 gs m × ((f n h).1 ≤ g.depth)) → Went (arity_step f o) g gs m
went_arity g gs m t n o f k w =
    let x = subst (λ i. (h : is_arity i ≡ true) → Goes (f i h).0 gs m × ((f i h).1 ≤ g.depth)) (sym k.same) w in
    let y = x k.arity.right in
    record {
      next = (f k.arity.number k.arity.right).0;
      depth = (f k.arity.number k.arity.right).1;
      is = ap (arity_step f) k.is;
      goes = y.0;
      least_depth = y.1;
    }

-- what a sign tells of the token that fits it
first_sign : (g h : Sign) (gs hs : List Sign) → g ∷ gs ≡ h ∷ hs → g ≡ h
first_sign g h gs hs e = ap (head_or g) e

others : (g h : Sign) (gs hs : List Sign) → g ∷ gs ≡ h ∷ hs → gs ≡ hs
others g h gs hs e = ap tail_of e

le_same : (n m : ℕ) → n ≡ m → n ≤ m
le_same n m e = omega (arith, e)

module _ (body : (v : Part) → Plan v (λ r. r))
    (alongs : (v : Part) (b : Value v) → Right v b → (r : List Sign) → Follows v r → Along (body v) b
    (signs_of v b r) r)
    (t : Token) (g : Sign) (gs : List Sign) (m : Written) (fits : Fits g.sight t) (clear : g.marked ≡ false) where
  complete_plan : (D : Type 0) (R : Part → Type 0) (go : (v : Part) → Stack v → Result)
      (en : (v : Part) → R v → (st : Stack v) (b : Value v) (r : List Sign) → Along (body v) b (g ∷ gs) r
      → Waits st b r m → Went (go v st) g gs m)
      {w : Part} (st : Stack w) (fin : (a : Value w) → Right w a → Result)
      (fi : D → (a : Value w) (h : Right w a) → Waits st a (g ∷ gs) m → Went (fin a h) g gs m)
      {k : List Sign → List Sign} (P : Plan w k) → Quick D R P → (a : Value w) (r : List Sign)
      → Along P a (g ∷ gs) r → Waits st a r m → Went (step_plan body t go st fin P) g gs m
  complete_plan D R go en st fin fi (done b h e) q a r al wt =
      fi q b h (subst (λ z. Waits st z (g ∷ gs) m) (sym al.0) (subst (λ z. Waits st a z m) (sym al.1) wt))
  complete_plan D R go en st fin fi (symbol_next c d s P) q a r al wt =
      let e = first_sign g (symbol_sign c d s) gs al.0 al.1 in
      let k : t.kind ≡ Symbol s = subst (λ x. Fits x.sight t) e fits in
      went_where g gs m (c && is_symbol s t.kind) _
      (and_in _ _ (unmarked c (sym (ap (λ x. x.marked) e) ∙ clear)) (ap (is_symbol s) k ∙ same_symbol_self s))
      (λ h. (
        (a, r, subst (λ z. Along P a z r) (sym (others g (symbol_sign c d s) gs al.0 al.1)) al.2, wt),
        le_same d g.depth (sym (ap (λ x. x.depth) e)),
      ))
  complete_plan D R go en st fin fi (word_next d y P) q a r al wt =
      let e = first_sign g (plain_sign d (of_kind (Word y))) gs al.0 al.1 in
      let k : t.kind ≡ Word y = subst (λ x. Fits x.sight t) e fits in
      went_where g gs m (is_word y t.kind) _ (ap (is_word y) k ∙ same_word_self y)
      (λ h. (
        (a, r, subst (λ z. Along P a z r) (sym (others g (plain_sign d (of_kind (Word y))) gs al.0 al.1)) al.2, wt),
        le_same d g.depth (sym (ap (λ x. x.depth) e)),
      ))
  complete_plan D R go en st fin fi (arity_next d f) q a r al wt =
      let e = first_sign g (plain_sign d (an_arity al.0)) gs al.2 al.3 in
      let k : IsArityToken al.0 t = subst (λ x. Fits x.sight t) e fits in
      went_arity g gs m t al.0 (arity_of t) (λ n h. (state (f n h) st, d)) (arity_known al.0 t k al.1)
      (λ h. (
        (
          a,
          r,
          subst (λ z. Along (f al.0 h) a z r)
              (sym (others g (plain_sign d (an_arity al.0)) gs al.2 al.3)) (al.4 h),
          wt,
        ),
        le_same d g.depth (sym (ap (λ x. x.depth) e)),
      ))
  complete_plan D R go en st fin fi (look l f) q a r al wt =
      let e = first_sign g (plain_sign (l.depth al.0 al.1) (at_place al.0 al.1)) gs al.3 al.4 in
      let i : Fits (at_place al.0 al.1) t = subst (λ x. Fits x.sight t) e fits in
      let o = others g (plain_sign (l.depth al.0 al.1) (at_place al.0 al.1)) gs al.3 al.4 in
      went_where g gs m (l.takes t.kind) _ (ap l.takes i.0 ∙ al.2)
      (λ h. (
        (
          a,
          r,
          subst (λ z. Along (f t.place t.kind h) a z r) (sym o)
              (subst (λ x. (h : l.takes x ≡ true) → Along (f t.place x h) a al.3 r) (sym i.0)
              (subst (λ p. (h : l.takes al.1 ≡ true) → Along (f p al.1 h) a al.3 r) (sym i.1) al.5) h),
          wt,
        ),
        le_same (l.depth t.place t.kind) g.depth
            (ap (λ x. l.depth t.place x) i.0 ∙ ap (λ p. l.depth p al.1) i.1 ∙ sym (ap (λ x. x.depth) e)),
      ))
  complete_plan D R go en st fin fi (call {k = k} v f) q a r al wt =
      en v q (frame (λ b z. k (signs_of v b z)) f st) al.0 al.2
      (subst (λ z. Along (body v) al.0 z al.2) (sym al.3) (alongs v al.0 al.1 al.2 al.4)) (a, r, al.5, wt)
  complete_plan D R go en st fin fi (bracket {k = k} v s f) q a r al wt =
      let e = first_sign g (plain_sign (s.deep al.0) (s.sight al.2 al.0)) gs (signs_of v al.0 al.3) al.4 in
      let i : Fits (s.sight al.2 al.0) t = subst (λ x. Fits x.sight t) e fits in
      went_where g gs m (is_symbol S.OpenParen t.kind) _ (ap (is_symbol S.OpenParen) (s.seen al.2 t al.0 i))
      (λ h. (
        (
          al.0,
          al.3,
          subst (λ z. Along (body v) al.0 z al.3)
              (sym (others g (plain_sign (s.deep al.0) (s.sight al.2 al.0)) gs (signs_of v al.0 al.3) al.4))
              (alongs v al.0 al.1 al.3 al.5),
          (a, r, al.6 t i, wt),
        ),
        le_trans (s.deep (least v)) (s.deep al.0) g.depth (s.least_deep al.0) (ap (λ x. x.depth) e),
      ))
  complete_plan D R go en st fin fi (if_next c P Q) q a r (first_way al) wt =
      went_first g gs m (c t.kind) _ _ (ap c (kind_fits g.sight t fits) ∙ al.0)
      (complete_plan D R go en st fin fi P q.0 a r al.1 wt)
  complete_plan D R go en st fin fi (if_next c P Q) q a r (second_way al) wt =
      went_second g gs m (c t.kind) _ _ (ap c (kind_fits g.sight t fits) ∙ al.0)
      (complete_plan D R go en st fin fi Q q.1 a r al.1 wt)

  complete_enter : (n : ℕ) (v : Part) → QuickPart body n v → (st : Stack v) (b : Value v) (r : List Sign)
      → Along (body v) b (g ∷ gs) r → Waits st b r m → Went (enter body t n v st) g gs m
  complete_enter zero v q st b r al wt = absurd q
  complete_enter (suc n) v q st b r al wt =
      complete_plan ⊥ (QuickPart body n) (enter body t n) (complete_enter n) st (λ a h. None) (λ x a h i. absurd x)
      (body v) q b r al wt

  module _ (quick : (v : Part) → QuickPart body 4 v) where
    all_quick : {w : Part} {k : List Sign → List Sign} (P : Plan w k) → Quick ⊤ (QuickPart body 4) P
    all_quick (done a h e) = tt
    all_quick (symbol_next c d s P) = tt
    all_quick (word_next d x P) = tt
    all_quick (arity_next d f) = tt
    all_quick (look l f) = tt
    all_quick (call v f) = quick v
    all_quick (bracket v s f) = tt
    all_quick (if_next c P Q) = (all_quick P, all_quick Q)

    complete_finish : {v : Part} (st : Stack v) (a : Value v) (h : Right v a) → Waits st a (g ∷ gs) m
        → Went (finish body t st a h) g gs m
    complete_finish bottom a h wt =
        let e = first_sign g (plain_sign 0 (of_kind End)) gs [] wt.1 in
        let k : t.kind ≡ End = subst (λ x. Fits x.sight t) e fits in
        went_where g gs m (is_end t.kind) _ (ap is_end k)
        (λ i. ((wt.0, others g (plain_sign 0 (of_kind End)) gs [] wt.1), le_same 0 g.depth (sym (ap (λ x. x.depth) e))))
    complete_finish (frame pre f st) a h wt =
        complete_plan ⊤ (QuickPart body 4) (enter body t 4) (complete_enter 4) st (finish body t st)
        (λ x. complete_finish st) (f a h) (all_quick (f a h)) wt.0 wt.1 (wt.2 h) wt.3

    pub complete_step : (s : State) → Goes s (g ∷ gs) m → Went (step body t s) g gs m
    complete_step (state P st) y =
        complete_plan ⊤ (QuickPart body 4) (enter body t 4) (complete_enter 4) st (finish body t st)
        (λ x. complete_finish st) P (all_quick P) y.0 y.1 y.2 y.3
    complete_step (finished n) y = never (ap some_signs y.1)
