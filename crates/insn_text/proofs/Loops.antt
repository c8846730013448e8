-- How a text grows by rows, item by item: what a row still has to come is added behind what is written.
use Rattle.std.proofs.Common.{◌≡◌, refl, sym, ap, ◌∙◌, List, [], ◌∷◌, ◌++◌, ℕ, Bool, true, false, map, codes}
use Rattle.erl_term.specs.Term as T
use Rattle.erl_term.specs.Term.{Term}
use Rattle.erl_term.specs.Terms.{terms, list_of}
use Rattle.term_text.specs.Printing.{Adds}
use Rattle.term_text.specs.TermText.{comma, term_on, texts, row_on, rest_on}
use Rattle.beam_table.specs.Operands.{Operands, each}
use Rattle.beam_table.specs.InstructionText.{operand_terms}

-- the text of items that are still to come
abbrev pub Row : Type 0 → Type 0
Row A = Bool → List A → List ℕ → List ℕ

-- of one item
abbrev pub Item : Type 0 → Type 0
Item A = Bool → A → List ℕ → List ℕ

-- the text of the first item, and then that of the others
pub record Steps {A : Type 0} (row : Row A) (item : Item A) : Type 0 where
  pub none : (b : Bool) (r : List ℕ) → row b [] r ≡ r
  pub some : (b : Bool) (x : A) (xs : List A) (r : List ℕ) → row b (x ∷ xs) r ≡ item b x (row false xs r)

pub more : {A : Type 0} (row : Row A) (item : Item A) → Steps row item → (xs others : List A) (x : A) (b : Bool)
    (old new : List ℕ) (all : List ℕ → List ℕ) → xs ≡ x ∷ others → Adds old new (item b x)
    → ((r : List ℕ) → old ++ row b xs r ≡ all r) → (r : List ℕ) → new ++ row false others r ≡ all r
more row item s xs others x b old new all e g h r =
    g _ ∙ ap (λ t. old ++ t) (sym (s.some b x others r)) ∙ sym (ap (λ l. old ++ row b l r) e) ∙ h r

pub done : {A : Type 0} (row : Row A) (item : Item A) → Steps row item → (xs : List A) (b : Bool) (out : List ℕ)
    (all : List ℕ → List ℕ) → xs ≡ [] → ((r : List ℕ) → out ++ row b xs r ≡ all r) → (r : List ℕ) → out ++ r ≡ all r
done row item s xs b out all e h r =
    ap (λ t. out ++ t) (sym (s.none b r)) ∙ sym (ap (λ l. out ++ row b l r) e) ∙ h r

-- a term for each item
abbrev pub mapped : {A : Type 0} → (A → Term) → Row A
mapped f b xs r = row_on b (terms (map f xs)) r

abbrev pub one : {A : Type 0} → (A → Term) → Item A
one f b x r = comma b ++ term_on (f x) r

pub mapped_steps : {A : Type 0} (f : A → Term) → Steps (mapped f) (one f)
unfolding texts
mapped_steps f = record { none = λ b r. refl; some = λ b x xs r. refl }

-- operands for each item
abbrev pub listed : {A B : Type 0} → (B → Operands → Operands) → (A → B) → Row A
listed f view b xs r = row_on b (terms (operand_terms (each f (map view xs)))) r

abbrev pub listed_one : {A B : Type 0} → (B → Operands → Operands) → (A → B) → Item A
listed_one f view b x r = row_on b (terms (operand_terms (f (view x) Operands.end))) r

pub listed_steps : {A B : Type 0} (f : B → Operands → Operands) (view : A → B)
    → ((b : Bool) (y : B) (os : Operands) (r : List ℕ) → row_on b (terms (operand_terms (f y os))) r
    ≡ row_on b (terms (operand_terms (f y Operands.end))) (row_on false (terms (operand_terms os)) r))
    → Steps (listed f view) (listed_one f view)
unfolding texts
listed_steps f view h =
    record { none = λ b r. refl; some = λ b x xs r. h b (view x) (each f (map view xs)) r }

-- the same, where the items are plain
abbrev pub bare : {A : Type 0} → (A → Operands → Operands) → Row A
bare f b xs r = row_on b (terms (operand_terms (each f xs))) r

abbrev pub bare_one : {A : Type 0} → (A → Operands → Operands) → Item A
bare_one f b x r = row_on b (terms (operand_terms (f x Operands.end))) r

rest_text : (ts : List Term) (r : List ℕ) → rest_on (list_of ts T.nil) r ≡ row_on false (terms ts) (codes "]" ++ r)
unfolding texts
rest_text [] r = refl
rest_text (t ∷ ts) r = ap (λ x. codes "," ++ term_on t x) (rest_text ts r)

-- a list: its items between brackets
pub list_text : (ts : List Term) (r : List ℕ)
    → term_on (list_of ts T.nil) r ≡ codes "[" ++ row_on true (terms ts) (codes "]" ++ r)
unfolding texts
list_text [] r = refl
list_text (t ∷ ts) r = ap (λ x. codes "[" ++ term_on t x) (rest_text ts r)
