-- What is to be read follows a plan: each reads the same tokens, at the same depths.
use Rattle.std.proofs.Common.{◌≡◌, refl, sym, ap, ◌∙◌, subst, ℕ, zero, suc, List, [], ◌∷◌, Bool, true, false, ◌&&◌, leb, ◌+◌, pos, Option, None, Some}
use Rattle.std.specs.Bool.{⊤}
use Rattle.erl_base.specs.declared.ids.Place.{Place}
use Rattle.core_lex.specs.declared.token.Token.{Token}
use Rattle.core_lex.specs.declared.token.TokenKind.{TokenKind}
use Rattle.core_lex.specs.declared.token.TokenKind.TheVariants.{Number}
use Rattle.core_lex.specs.declared.token.Symbol.TheVariants as S
use Rattle.core_form.specs.SourceTree.{is_arity}
use Rattle.core_grammar.specs.WrittenTree.{Tree, Row, none, more as more_of, Group, single, angled}
use Rattle.core_grammar.specs.Standing as G
use Rattle.core_grammar.specs.ConstantTerms.{count_value}
use Rattle.core_grammar.specs.Signs.{Sign}
use Rattle.core_texts.proofs.TokenTests as T
use Rattle.core_texts.proofs.Annotated.{is_variable_like}
use Rattle.core_texts.proofs.Parts.{Part, tree_part, items_part, group_part, pairs_part, segment_part, segments_part, head_part, clause_part, clauses_part, definitions_part, attributes_part, module_part, value_part, size_part, unit_part, kind_part, flags_part, flag_part, flag_items_part, Head, whole, part, Value, Right, count_or_none, least, signs_of}
use Rattle.core_texts.proofs.Plans.{Plan, done, symbol_next, word_next, arity_next, look, call, bracket, if_next}
use Rattle.core_texts.proofs.Stacks.{Stack, bottom, frame, State, state, finished, Result, where_true, Arity, arity_of, arity_from, arity_step, either, step_plan, enter, finish, step}
use Rattle.core_texts.proofs.Complete.{Quick, QuickPart}
use Rattle.core_syntax.specs.declared.sort.Sort.{Sort}
use Rattle.core_syntax.specs.declared.item.Count.{Count}
use Rattle.core_syntax.specs.declared.item.Count.TheVariants as C
use Rattle.core_syntax.specs.declared.item.Shape.{Shape}
use Rattle.core_syntax.specs.declared.item.Shape.TheVariants.{Other, Variable, Clause, Counted, Size}
use Rattle.core_syntax.specs.declared.item.Part as Parts
use Rattle.core_syntax.specs.declared.item.Part.TheVariants as P
use Rattle.core_syntax.specs.declared.item.Item.TheVariants as I
use Rattle.core_syntax.specs.declared.item.Entry.{Entry}
use Rattle.core_syntax.specs.Sorts.{sort_of}
use Rattle.core_syntax.specs.TokenKinds.{is_symbol, is_word, is_end, is_arity_kind, is_arity_token}
use Rattle.core_syntax.specs.Beginnings.{Reaction, refused, taken, on_test, at, more}
use Rattle.core_syntax.specs.Reactions.{react}

-- which part of the grammar a part on the stack is
pub data Enters : Parts.Part → ℕ → Part → Type 0 where
  a_tree : (s : Sort) (d : ℕ) → Enters (P.Tree s) d (tree_part (sort_of s) d)
  items : (s : Sort) (n : Count) (d : ℕ) → Enters (P.Items s n) d (items_part (sort_of s) d)
  group : (d : ℕ) → Enters P.Group d (group_part d)
  pairs : (s : Sort) (d : ℕ) → Enters (P.Pairs s) d (pairs_part (sort_of s) d)
  a_segment : (s : Sort) (d : ℕ) → Enters (P.Segment s) d (segment_part (sort_of s) d)
  segments : (s : Sort) (d : ℕ) → Enters (P.Segments s) d (segments_part (sort_of s) d)
  a_head : (d : ℕ) → Enters P.Head d (head_part d)
  a_clause : (d : ℕ) → Enters P.Clause d (clause_part d)
  clauses : (d : ℕ) → Enters P.Clauses d (clauses_part d)
  definitions : (d : ℕ) → Enters P.Definitions d (definitions_part d)
  attributes : (d : ℕ) → Enters P.Attributes d (attributes_part d)
  a_module : (d : ℕ) → Enters P.Module d (module_part d)
  a_value : (d : ℕ) → Enters P.Value d (value_part d)
  a_size : (d : ℕ) → Enters P.Size d (size_part d)
  a_unit : (n d : ℕ) → Enters (P.Unit n) d (unit_part n d)
  a_kind : (d : ℕ) → Enters P.Kind d (kind_part d)
  flags : (d : ℕ) → Enters P.Flags d (flags_part d)
  a_flag : (d : ℕ) → Enters P.Flag d (flag_part d)
  flag_items : (d : ℕ) → Enters P.FlagItems d (flag_items_part d)

-- What was read counts as.

abbrev pub variable_shape : Bool → Shape
variable_shape true = Variable
variable_shape false = Other

abbrev pub counted : Count → Row → Count
counted n none = n
counted n (more_of t ts) = counted (more n) ts

abbrev pub group_counted : Group → Count
group_counted (single t) = C.One
group_counted (angled p ts) = counted C.Zero ts

abbrev pub head_shape : Head → Shape
head_shape (whole c) = Clause
head_shape (part t) = variable_shape (is_variable_like t)

-- how many items stood before
abbrev pub before : Parts.Part → Count
before (P.Items s n) = n
before _ = C.Zero

abbrev pub tree_counts : G.Sort → Tree → Shape → Type 0
tree_counts G.pattern t sh = sh ≡ variable_shape (is_variable_like t)
tree_counts G.key t sh = sh ≡ variable_shape (is_variable_like t)
tree_counts _ t sh = ⊤

abbrev pub CountsAs : Parts.Part → (v : Part) → Value v → Shape → Type 0
CountsAs p (tree_part s d) t sh = tree_counts s t sh
CountsAs p (items_part s d) ts sh = sh ≡ Counted (counted (before p) (more_of ts.0 ts.1))
CountsAs p (group_part d) g sh = sh ≡ Counted (group_counted g)
CountsAs p (head_part d) h sh = sh ≡ head_shape h
CountsAs p (size_part d) t sh = sh ≡ Size (count_or_none (count_value t))
CountsAs p v a sh = ⊤

-- Where this is known of the next token, what is to be read reads what the plan reads, and then the rest is left.
abbrev pub Follows : Parts.Part → List Entry → {w : Part} {k : List Sign → List Sign} → Plan w k
    → (known : TokenKind → Type 0) → List Entry → Shape → Type 0
Follows p rest {w = w} (done a h e) known es sh =
    (now : Shape) × ((t : Token) → known t.kind → react t es sh ≡ react t rest now) × CountsAs p w a now
Follows p rest (symbol_next c d s P) known es sh =
    (next : List Entry) × (now : Shape)
    × ((t : Token) → known t.kind → react t es sh ≡ on_test (c && is_symbol s t.kind) d next now)
    × Follows p rest P (λ k. ⊤) next now
Follows p rest (word_next d x P) known es sh =
    (next : List Entry) × (now : Shape)
    × ((t : Token) → known t.kind → react t es sh ≡ on_test (is_word x t.kind) d next now)
    × Follows p rest P (λ k. ⊤) next now
Follows p rest (arity_next d f) known es sh =
    (next : List Entry) × (now : Shape)
    × ((t : Token) → known t.kind → react t es sh ≡ on_test (is_arity_token t) d next now)
    × ((n : ℕ) (h : is_arity n ≡ true) → Follows p rest (f n h) (λ k. ⊤) next now)
Follows p rest (look l f) known es sh =
    (next : TokenKind → List Entry) × (now : TokenKind → Shape)
    × ((t : Token) → known t.kind
    → react t es sh ≡ on_test (l.takes t.kind) (l.depth t.place t.kind) (next t.kind) (now t.kind))
    × ((q : Place) (x : TokenKind) (h : l.takes x ≡ true) → Follows p rest (f q x h) (λ k. ⊤) (next x) (now x))
Follows p rest (call v f) known es sh =
    (q : Parts.Part) × (d : ℕ) × (next : List Entry) × Enters q d v
    × ((t : Token) → known t.kind → react t es sh ≡ react t (at d (I.Part q) ∷ next) sh)
    × ((b : Value v) (h : Right v b) (now : Shape) → CountsAs q v b now
    → Follows p rest (f b h) (λ k. ⊤) next now)
Follows p rest (bracket v s f) known es sh =
    (q : Parts.Part) × (d : ℕ) × (next : List Entry) × (now : Shape) × Enters q d v
    × ((t : Token) → known t.kind
    → react t es sh ≡ on_test (is_symbol S.OpenParen t.kind) (s.deep (least v)) (at d (I.Part q) ∷ next) now)
    × ((r : Place) (b : Value v) (h : Right v b) (then : Shape) → CountsAs q v b then
    → Follows p rest (f r b h) (λ k. ⊤) next then)
Follows p rest (if_next c P Q) known es sh =
    Follows p rest P (λ k. known k × (c k ≡ true)) es sh × Follows p rest Q (λ k. known k × (c k ≡ false)) es sh

-- what is to be read follows the plans that wait for a part
abbrev pub Piled : Parts.Part → {v : Part} → Stack v → List Entry → Type 0
Piled p bottom es = es ≡ at 0 I.End ∷ []
Piled p (frame {v = v} pre f st) es =
    (q : Parts.Part) × (rest : List Entry)
    × ((b : Value v) (h : Right v b) (now : Shape) → CountsAs p v b now → Follows q rest (f b h) (λ k. ⊤) es now)
    × Piled q st rest

-- what is to be read follows a state
abbrev pub Stands : State → List Entry → Shape → Type 0
Stands (state P st) es sh =
    (p : Parts.Part) × (rest : List Entry) × Follows p rest P (λ k. ⊤) es sh × Piled p st rest
Stands (finished w) es sh = es ≡ []

-- both refuse a token, or both take it at one depth
abbrev pub Alike : Result → Reaction → Type 0
Alike None refused = ⊤
Alike None (taken d es sh) = ⊥
Alike (Some x) refused = ⊥
Alike (Some x) (taken d es sh) = (x.1 ≡ d) × Stands x.0 es sh

alike_test : (b : Bool) (s : State) (d : ℕ) (es : List Entry) (sh : Shape) → Stands s es sh
    → Alike (where_true b (λ h. (s, d))) (on_test b d es sh)
alike_test true s d es sh h = (refl, h)
alike_test false s d es sh h = tt

alike_look : (b : Bool) (f : b ≡ true → State) (d : ℕ) (es : List Entry) (sh : Shape)
    → ((h : b ≡ true) → Stands (f h) es sh) → Alike (where_true b (λ h. (f h, d))) (on_test b d es sh)
alike_look true f d es sh g = (refl, g refl)
alike_look false f d es sh g = tt

alike_either : (b : Bool) (x y : Result) (r : Reaction) → (b ≡ true → Alike x r) → (b ≡ false → Alike y r)
    → Alike (either b x y) r
alike_either true x y r f g = f refl
alike_either false x y r f g = g refl

abbrev is_some : {A : Type 0} → Option A → Bool
is_some None = false
is_some (Some a) = true

some_where : {A : Type 0} (b : Bool) (f : b ≡ true → A) → is_some (where_true b f) ≡ b
some_where true f = refl
some_where false f = refl

some_arity : (t : Token) (k : TokenKind) (e : t.kind ≡ k)
    → is_some (arity_from t k e) ≡ is_arity_kind (leb t.to (t.from + 9)) k
some_arity t (Number false (pos n)) e = some_where (leb t.to (t.from + 9) && is_arity n) _
some_arity t _ e = refl

alike_arity : (t : Token) (o : Option (Arity t)) (f : (n : ℕ) → is_arity n ≡ true → State) (d : ℕ) (es : List Entry)
    (sh : Shape) → ((n : ℕ) (h : is_arity n ≡ true) → Stands (f n h) es sh)
    → Alike (arity_step (λ n h. (f n h, d)) o) (on_test (is_some o) d es sh)
alike_arity t None f d es sh g = tt
alike_arity t (Some a) f d es sh g = (refl, g a.number a.right)

module _ (body : (v : Part) → Plan v (λ r. r))
    (bodies : (q : Parts.Part) (d : ℕ) (v : Part) → Enters q d v → (rest : List Entry) (sh : Shape)
    → Follows q rest (body v) (λ k. ⊤) (at d (I.Part q) ∷ rest) sh)
    (t : Token) where
  alike_plan : (D : Type 0) (R : Part → Type 0) (go : (v : Part) → Stack v → Result)
      (en : (v : Part) → R v → (q : Parts.Part) (d : ℕ) → Enters q d v → (st : Stack v) (rest : List Entry)
      → Piled q st rest → (sh : Shape) → Alike (go v st) (react t (at d (I.Part q) ∷ rest) sh))
      {w : Part} (p : Parts.Part) (st : Stack w) (rest : List Entry) → Piled p st rest
      → (fin : (a : Value w) → Right w a → Result)
      (fi : D → (a : Value w) (h : Right w a) (sh : Shape) → CountsAs p w a sh → Alike (fin a h) (react t rest sh))
      {k : List Sign → List Sign} (P : Plan w k) → Quick D R P → (known : TokenKind → Type 0) → known t.kind
      → (es : List Entry) (sh : Shape) → Follows p rest P known es sh
      → Alike (step_plan body t go st fin P) (react t es sh)
  alike_plan D R go en p st rest l fin fi (done a h e) q known i es sh o =
      subst (Alike (fin a h)) (sym (o.1 t i)) (fi q a h o.0 o.2)
  alike_plan D R go en p st rest l fin fi (symbol_next c d s P) q known i es sh o =
      subst (Alike (where_true (c && T.is_symbol s t.kind) (λ h. (state P st, d)))) (sym (o.2 t i))
      (alike_test (c && is_symbol s t.kind) (state P st) d o.0 o.1 (p, rest, o.3, l))
  alike_plan D R go en p st rest l fin fi (word_next d x P) q known i es sh o =
      subst (Alike (where_true (T.is_word x t.kind) (λ h. (state P st, d)))) (sym (o.2 t i))
      (alike_test (is_word x t.kind) (state P st) d o.0 o.1 (p, rest, o.3, l))
  alike_plan D R go en p st rest l fin fi (arity_next d f) q known i es sh o =
      subst (Alike (arity_step (λ n h. (state (f n h) st, d)) (arity_of t)))
      (sym (o.2 t i ∙ ap (λ b. on_test b d o.0 o.1) (sym (some_arity t t.kind refl))))
      (alike_arity t (arity_of t) (λ n h. state (f n h) st) d o.0 o.1 (λ n h. (p, rest, o.3 n h, l)))
  alike_plan D R go en p st rest l fin fi (look x f) q known i es sh o =
      subst (Alike (where_true (x.takes t.kind) (λ h. (state (f t.place t.kind h) st, x.depth t.place t.kind))))
      (sym (o.2 t i))
      (alike_look (x.takes t.kind) (λ h. state (f t.place t.kind h) st) (x.depth t.place t.kind) (o.0 t.kind)
      (o.1 t.kind) (λ h. (p, rest, o.3 t.place t.kind h, l)))
  alike_plan D R go en p st rest l fin fi (call {k = k} v f) q known i es sh o =
      subst (Alike (go v (frame (λ b r. k (signs_of v b r)) f st))) (sym (o.4 t i))
      (en v q o.0 o.1 o.3 (frame (λ b r. k (signs_of v b r)) f st) o.2 (p, rest, o.5, l) sh)
  alike_plan D R go en p st rest l fin fi (bracket {k = k} v s f) q known i es sh o =
      subst (Alike (step_plan body t go st fin {k = k} (bracket v s f))) (sym (o.5 t i))
      (alike_test (is_symbol S.OpenParen t.kind) _ (s.deep (least v)) (at o.1 (I.Part o.0) ∷ o.2) o.3
      (o.0, o.2, bodies o.0 o.1 v o.4 o.2 o.3, (p, rest, o.6 t.place, l)))
  alike_plan D R go en p st rest l fin fi (if_next c P Q) q known i es sh o =
      alike_either (c t.kind) _ _ _
      (λ h. alike_plan D R go en p st rest l fin fi P q.0 (λ k. known k × (c k ≡ true)) (i, h) es sh o.0)
      (λ h. alike_plan D R go en p st rest l fin fi Q q.1 (λ k. known k × (c k ≡ false)) (i, h) es sh o.1)

  alike_enter : (n : ℕ) (v : Part) → QuickPart body n v → (q : Parts.Part) (d : ℕ) → Enters q d v → (st : Stack v)
      (rest : List Entry) → Piled q st rest → (sh : Shape)
      → Alike (enter body t n v st) (react t (at d (I.Part q) ∷ rest) sh)
  alike_enter zero v k q d e st rest l sh = absurd k
  alike_enter (suc n) v k q d e st rest l sh =
      alike_plan ⊥ (QuickPart body n) (enter body t n) (alike_enter n) q st rest l (λ a h. None)
      (λ x a h i c. absurd x) (body v) k (λ k. ⊤) tt (at d (I.Part q) ∷ rest) sh (bodies q d v e rest sh)

  module _ (quick : (v : Part) → QuickPart body 4 v) where
    all_quick : {w : Part} {k : List Sign → List Sign} (P : Plan w k) → Quick ⊤ (QuickPart body 4) P
    all_quick (done a h e) = tt
    all_quick (symbol_next c d s P) = tt
    all_quick (word_next d x P) = tt
    all_quick (arity_next d f) = tt
    all_quick (look l f) = tt
    all_quick (call v f) = quick v
    all_quick (bracket v s f) = tt
    all_quick (if_next c P Q) = (all_quick P, all_quick Q)

    alike_finish : {v : Part} (p : Parts.Part) (st : Stack v) (rest : List Entry) → Piled p st rest
        → (a : Value v) (h : Right v a) (sh : Shape) → CountsAs p v a sh
        → Alike (finish body t st a h) (react t rest sh)
    alike_finish p bottom rest l a h sh c =
        subst (λ es. Alike (finish body t bottom a h) (react t es sh)) (sym l)
        (alike_test (is_end t.kind) (finished a) 0 [] Other refl)
    alike_finish p (frame pre f st) rest l a h sh c =
        alike_plan ⊤ (QuickPart body 4) (enter body t 4) (alike_enter 4) l.0 st l.1 l.3 (finish body t st)
        (λ x. alike_finish l.0 st l.1 l.3) (f a h) (all_quick (f a h)) (λ k. ⊤) tt rest sh (l.2 a h sh c)

    pub alike_step : (s : State) (es : List Entry) (sh : Shape) → Stands s es sh
        → Alike (step body t s) (react t es sh)
    alike_step (state P st) es sh o =
        alike_plan ⊤ (QuickPart body 4) (enter body t 4) (alike_enter 4) o.0 st o.1 o.3 (finish body t st)
        (λ x. alike_finish o.0 st o.1 o.3) P (all_quick P) (λ k. ⊤) tt es sh o.2
    alike_step (finished w) es sh o = subst (λ l. Alike None (react t l sh)) (sym o) tt
