-- A term as it is printed is read again, whatever follows it.
use Rattle.std.proofs.Common.{◌≡◌, ℕ, zero, suc, ◌^◌, ◌≤◌, ◌<◌, refl, sym, ap, ◌∙◌, subst, List, [], ◌∷◌, ◌++◌, codes, Option, Some, None, Bool, true, false, ◌&&◌, if◌then◌else◌, eqb, ltb, IsTrue, arith, lit≤, IsUtf8, chars}
use Rattle.std.proofs.lemmas.Bool.{ltb-true}
use Rattle.erl_base.specs.Names.{Name}
use Rattle.erl_term.specs.Term as T
use Rattle.erl_term.specs.Term.{Term, Terms, none, more, Pairs, no_pair, pair, Class}
use Rattle.erl_term.specs.Terms.{terms, list_of, listed, listed_pairs, put_all}
use Rattle.erl_term.specs.Depth.{depths, depth, deepest, deepest_pair}
use Rattle.erl_term.specs.WellFormed.{comes_first, maps_rise, all_rise, pairs_rise}
use Rattle.erl_term.proofs.Forms.{left_true, right_true}
use Rattle.term_text.specs.Decimal.{decimal_on, integer_on}
use Rattle.term_text.specs.Atoms.{is_name_character, atom_text}
use Rattle.term_text.specs.TermText.{texts, term_on, rest_on, row_on, pairs_on, bits_on, class_text, printed}
use Rattle.term_read.specs.Lexemes.{◌>>=◌, is_space, behind_blanks, blanks_skipped, mark_at, word_front, name_at, name_front, number_at}
use Rattle.term_read.specs.TermGrammar as G
use Rattle.term_read.specs.TermGrammar.{Row, Items, ListEnd, PairOf, PartOf, Form, ReadsTerm, number_in, extern_rest, fun_head, class_named, class_in, bits_in, IsTermText}
use Rattle.term_read.specs.declared.flat.FunHead.{FunHead}
use Rattle.term_read.specs.Printed.{Ends}
use Rattle.erl_term.specs.Ranges.{fits, all_fit, pairs_fit}
use Rattle.term_read.proofs.NumbersRead.{run_is, number_read, integer_read}
use Rattle.term_read.proofs.NamesRead.{name_read}
use Rattle.erl_term.proofs.MapRuns.{put_all-rising}
use Rattle.term_read.proofs.BitsRead.{BitsRow, bits_row}

-- a term is read from the front of these characters, at once
pub record Read (d : ℕ) (cs : List ℕ) (t : Term) (r : List ℕ) : Type 0 where
  pub solid : behind_blanks cs ≡ cs
  pub form : Form d (ReadsTerm d) cs t r

-- and so it is behind blanks
reads : (d : ℕ) (cs : List ℕ) (t : Term) (r : List ℕ) → Read d cs t r → ReadsTerm (suc d) cs t r
reads d cs t r h = subst (λ xs. Form d (ReadsTerm d) xs t r) (sym h.solid) h.form

-- what may close a row
record Closes (c : ℕ) (r : List ℕ) : Type 0 where
  closed : mark_at (c ∷ []) (c ∷ r) ≡ Some r
  no_comma : mark_at (codes ",") (c ∷ r) ≡ None
  no_name : is_name_character c ≡ false

bracket_closes : (r : List ℕ) → Closes 93 r
unfolding mark_at behind_blanks
bracket_closes r = record { closed = refl; no_comma = refl; no_name = refl }

brace_closes : (r : List ℕ) → Closes 125 r
unfolding mark_at behind_blanks
brace_closes r = record { closed = refl; no_comma = refl; no_name = refl }

comma_there : (r : List ℕ) → mark_at (codes ",") (44 ∷ r) ≡ Some r
unfolding mark_at behind_blanks
comma_there r = refl

-- Rows, where each term of them is read.

-- each term that nests at most d deep is read
abbrev AllRead : ℕ → Type 0
AllRead d = (t : Term) → depth t ≤ d → IsTrue (fits t) → IsTrue (maps_rise t) → (r : List ℕ) → Ends r
    → ReadsTerm d (term_on t r) t r

row_items : (d c : ℕ) → AllRead d → (t : Term) (ts : Terms) (r : List ℕ) → Closes c r → deepest (more t ts) ≤ d
    → IsTrue (all_fit (more t ts)) → IsTrue (all_rise (more t ts))
    → Items (ReadsTerm d) (row_on true (more t ts) (c ∷ r)) (listed (more t ts)) (c ∷ r)
unfolding texts depths maps_rise
row_items d c h t none r k l f g =
    G.one_item (term_on t (c ∷ r)) (c ∷ r) t
    (h t (omega (arith, l)) (left_true (fits t) true f) (left_true (maps_rise t) true g) (c ∷ r) k.no_name) k.no_comma
row_items d c h t (more u us) r k l f g =
    G.more_items (term_on t (44 ∷ row_on true (more u us) (c ∷ r))) (44 ∷ row_on true (more u us) (c ∷ r))
    (row_on true (more u us) (c ∷ r)) (c ∷ r) t (listed (more u us))
    (h t (omega (arith, l)) (left_true (fits t) (all_fit (more u us)) f)
    (left_true (maps_rise t) (all_rise (more u us)) g) (44 ∷ row_on true (more u us) (c ∷ r)) refl)
    (comma_there (row_on true (more u us) (c ∷ r)))
    (row_items d c h u us r k (omega (arith, l)) (right_true (fits t) (all_fit (more u us)) f)
    (right_true (maps_rise t) (all_rise (more u us)) g))

row_read : (d c : ℕ) → AllRead d → (ts : Terms) (r : List ℕ) → Closes c r → deepest ts ≤ d → IsTrue (all_fit ts)
    → IsTrue (all_rise ts)
    → Row (ReadsTerm d) (c ∷ []) (row_on true ts (c ∷ r)) (listed ts) r
unfolding texts
row_read d c h none r k l f g = G.no_item (c ∷ r) r k.closed
row_read d c h (more t ts) r k l f g = G.some_items (row_on true (more t ts) (c ∷ r)) (c ∷ r) r (listed (more t ts))
    (row_items d c h t ts r k l f g) k.closed

terms-listed : (ts : Terms) → terms (listed ts) ≡ ts
terms-listed none = refl
terms-listed (more t ts) = ap (more t) (terms-listed ts)

-- Lists.

record ListRead (d : ℕ) (x y : Term) (r : List ℕ) : Type 0 where
  items : List Term
  last : Term
  between : List ℕ
  read : Items (ReadsTerm d) (term_on x (rest_on y r)) items between
  end : ListEnd (ReadsTerm d) between last r
  whole : list_of items last ≡ T.cons x y

marks_end : (r : List ℕ) → (mark_at (codes ",") (93 ∷ r) ≡ None) × (mark_at (codes "]") (93 ∷ r) ≡ Some r)
    × (mark_at (codes ",") (124 ∷ r) ≡ None) × (mark_at (codes "|") (124 ∷ r) ≡ Some r)
unfolding mark_at behind_blanks
marks_end r = (refl, refl, refl, refl)

tail_read : (d : ℕ) → AllRead d → (x y : Term) (r : List ℕ) → rest_on y r ≡ 124 ∷ term_on y (93 ∷ r) → depth x ≤ d
    → depth y ≤ d → IsTrue (fits x) → IsTrue (fits y) → IsTrue (maps_rise x) → IsTrue (maps_rise y)
    → ListRead d x y r
tail_read d h x y r e l m f g i j = record {
  items = x ∷ [];
  last = y;
  between = 124 ∷ term_on y (93 ∷ r);
  read = subst (λ cs. Items (ReadsTerm d) (term_on x cs) (x ∷ []) (124 ∷ term_on y (93 ∷ r))) (sym e)
      (G.one_item (term_on x (124 ∷ term_on y (93 ∷ r))) (124 ∷ term_on y (93 ∷ r)) x
      (h x l f i (124 ∷ term_on y (93 ∷ r)) refl) (marks_end (term_on y (93 ∷ r))).2);
  end = G.tail (124 ∷ term_on y (93 ∷ r)) (term_on y (93 ∷ r)) (93 ∷ r) r y (marks_end (term_on y (93 ∷ r))).3
      (h y m g j (93 ∷ r) refl) (marks_end r).1;
  whole = refl;
}

list_read : (d : ℕ) → AllRead d → (x y : Term) (r : List ℕ) → depth x ≤ d → (depths y).rest ≤ d → IsTrue (fits x)
    → IsTrue (fits y) → IsTrue (maps_rise x) → IsTrue (maps_rise y) → ListRead d x y r
unfolding texts depths maps_rise
list_read d h x T.nil r l m f g i j = record {
  items = x ∷ [];
  last = T.nil;
  between = 93 ∷ r;
  read = G.one_item (term_on x (93 ∷ r)) (93 ∷ r) x (h x l f i (93 ∷ r) refl) (marks_end r).0;
  end = G.no_tail (93 ∷ r) r (marks_end r).1;
  whole = refl;
}
list_read d h x (T.cons y z) r l m f g i j =
    let rest = list_read d h y z r (omega (arith, m)) (omega (arith, m)) (left_true (fits y) (fits z) g)
    (right_true (fits y) (fits z) g) (left_true (maps_rise y) (maps_rise z) j)
    (right_true (maps_rise y) (maps_rise z) j) in
    record {
      items = x ∷ rest.items;
      last = rest.last;
      between = rest.between;
      read = G.more_items (term_on x (44 ∷ term_on y (rest_on z r))) (44 ∷ term_on y (rest_on z r))
          (term_on y (rest_on z r)) rest.between x rest.items
          (h x l f i (44 ∷ term_on y (rest_on z r)) refl) (comma_there (term_on y (rest_on z r))) rest.read;
      end = rest.end;
      whole = ap (T.cons x) rest.whole;
    }
list_read d h x y r l m f g i j = tail_read d h x y r refl l m f g i j

-- Maps.

arrow_there : (r : List ℕ) → mark_at (codes "=>") (61 ∷ 62 ∷ r) ≡ Some r
unfolding mark_at behind_blanks
arrow_there r = refl

one_pair : (d : ℕ) → AllRead d → (k v : Term) (r : List ℕ) → Ends r → depth k ≤ d → depth v ≤ d → IsTrue (fits k)
    → IsTrue (fits v) → IsTrue (maps_rise k) → IsTrue (maps_rise v)
    → PairOf (ReadsTerm d) (term_on k (61 ∷ 62 ∷ term_on v r)) (k, v) r
one_pair d h k v r n l m f g i j =
    G.key_and_value (term_on k (61 ∷ 62 ∷ term_on v r)) (61 ∷ 62 ∷ term_on v r) (term_on v r) r k v
    (h k l f i (61 ∷ 62 ∷ term_on v r) refl) (arrow_there (term_on v r)) (h v m g j r n)

record PairParts (d : ℕ) (k v : Term) (ps : Pairs) : Type 0 where
  key_depth : depth k ≤ d
  value_depth : depth v ≤ d
  rest_depth : deepest_pair ps ≤ d
  key_range : IsTrue (fits k)
  value_range : IsTrue (fits v)
  rest_range : IsTrue (pairs_fit ps)
  key_rises : IsTrue (maps_rise k)
  value_rises : IsTrue (maps_rise v)
  rest_rises : IsTrue (pairs_rise ps)

pair_parts : (d : ℕ) (k v : Term) (ps : Pairs) → deepest_pair (pair k v ps) ≤ d → IsTrue (pairs_fit (pair k v ps))
    → IsTrue (pairs_rise (pair k v ps)) → PairParts d k v ps
unfolding depths maps_rise
pair_parts d k v ps l f g =
    let both : IsTrue (fits k && fits v) = left_true (fits k && fits v) (pairs_fit ps) f in
    let front = left_true (comes_first k ps && maps_rise k && maps_rise v) (pairs_rise ps) g in
    record {
      key_depth = omega (arith, l);
      value_depth = omega (arith, l);
      rest_depth = omega (arith, l);
      key_range = left_true (fits k) (fits v) both;
      value_range = right_true (fits k) (fits v) both;
      rest_range = right_true (fits k && fits v) (pairs_fit ps) f;
      key_rises = right_true (comes_first k ps) (maps_rise k)
          (left_true (comes_first k ps && maps_rise k) (maps_rise v) front);
      value_rises = right_true (comes_first k ps && maps_rise k) (maps_rise v) front;
      rest_rises = right_true (comes_first k ps && maps_rise k && maps_rise v) (pairs_rise ps) g;
    }

pair_items : (d : ℕ) → AllRead d → (k v : Term) (ps : Pairs) (r : List ℕ) → deepest_pair (pair k v ps) ≤ d
    → IsTrue (pairs_fit (pair k v ps)) → IsTrue (pairs_rise (pair k v ps))
    → Items (PairOf (ReadsTerm d)) (pairs_on true (pair k v ps) (125 ∷ r)) (listed_pairs (pair k v ps)) (125 ∷ r)
unfolding texts
pair_items d h k v no_pair r l f g =
    let a = pair_parts d k v no_pair l f g in
    G.one_item (pairs_on true (pair k v no_pair) (125 ∷ r)) (125 ∷ r) (k, v)
    (one_pair d h k v (125 ∷ r) refl a.key_depth a.value_depth a.key_range a.value_range a.key_rises a.value_rises)
    (brace_closes r).no_comma
pair_items d h k v (pair l w ps) r n f g =
    let a = pair_parts d k v (pair l w ps) n f g in
    G.more_items (pairs_on true (pair k v (pair l w ps)) (125 ∷ r)) (44 ∷ pairs_on true (pair l w ps) (125 ∷ r))
    (pairs_on true (pair l w ps) (125 ∷ r)) (125 ∷ r) (k, v) (listed_pairs (pair l w ps))
    (one_pair d h k v (44 ∷ pairs_on true (pair l w ps) (125 ∷ r)) refl a.key_depth a.value_depth a.key_range
    a.value_range a.key_rises a.value_rises)
    (comma_there (pairs_on true (pair l w ps) (125 ∷ r)))
    (pair_items d h l w ps r a.rest_depth a.rest_range a.rest_rises)

map_read : (d : ℕ) → AllRead d → (ps : Pairs) (r : List ℕ) → deepest_pair ps ≤ d → IsTrue (pairs_fit ps)
    → IsTrue (pairs_rise ps)
    → Row (PairOf (ReadsTerm d)) (codes "}") (pairs_on true ps (125 ∷ r)) (listed_pairs ps) r
unfolding texts
map_read d h no_pair r l f g = G.no_item (125 ∷ r) r (brace_closes r).closed
map_read d h (pair k v ps) r l f g =
    G.some_items (pairs_on true (pair k v ps) (125 ∷ r)) (125 ∷ r) r (listed_pairs (pair k v ps))
    (pair_items d h k v ps r l f g) (brace_closes r).closed

-- Forms without terms inside.

name_there : (a r : List ℕ) → Ends r → name_at (atom_text a ++ r) ≡ Some (a, r)
unfolding name_at
name_there a r h = ap name_front (name_read a r h).0 ∙ (name_read a r h).1

mark_there : (r : List ℕ) → (mark_at (codes ":") (58 ∷ r) ≡ Some r) × (mark_at (codes "/") (47 ∷ r) ≡ Some r)
    × (mark_at (codes ">") (62 ∷ r) ≡ Some r) × (mark_at (codes "[") (91 ∷ r) ≡ Some r)
unfolding mark_at behind_blanks
mark_there r = (refl, refl, refl, refl)

pub half_there : (n : ℕ) (r : List ℕ) → Ends r → ltb n (2 ^ 32) ≡ true
    → number_at (2 ^ 32) (decimal_on n r) ≡ Some (n, r)
half_there n r h l = number_read (2 ^ 32) n r h (ltb-true n (2 ^ 32) l) (lit≤ tt)

whole_there : (n : ℕ) (r : List ℕ) → ltb n (2 ^ 64) ≡ true → number_in (2 ^ 64) (decimal_on n (62 ∷ r)) ≡ Some (n, r)
unfolding number_in
whole_there n r l = ap (λ x. x >>= close) (number_read (2 ^ 64) n (62 ∷ r) refl (ltb-true n (2 ^ 64) l) (lit≤ tt))
    ∙ ap (λ x. x >>= keep) (mark_there r).2
  where
    keep : List ℕ → Option (ℕ × List ℕ)
    keep ds = Some (n, ds)

    close : ℕ × List ℕ → Option (ℕ × List ℕ)
    close n = mark_at (codes ">") n.1 >>= λ ds. Some (n.0, ds)

-- an external fun behind `fun`
extern_there : (m f : Name) (n : ℕ) (r : List ℕ) → Ends r → ltb n (2 ^ 32) ≡ true
    → extern_rest (32 ∷ (atom_text m ++ (58 ∷ (atom_text f ++ (47 ∷ decimal_on n r))))) ≡ Some (T.extern m f n, r)
unfolding extern_rest name_at behind_blanks
extern_there m f n r h l =
    ap (λ x. x >>= colon) (name_there m (58 ∷ (atom_text f ++ (47 ∷ decimal_on n r))) refl)
    ∙ ap (λ x. x >>= named m) (mark_there (atom_text f ++ (47 ∷ decimal_on n r))).0
    ∙ ap (λ x. x >>= slash m) (name_there f (47 ∷ decimal_on n r) refl)
    ∙ ap (λ x. x >>= counted m f) (mark_there (decimal_on n r)).1
    ∙ ap (λ x. x >>= given m f) (half_there n r h l)
  where
    given : Name → Name → ℕ × List ℕ → Option (Term × List ℕ)
    given m f n = Some (T.extern m f n.0, n.1)

    counted : Name → Name → List ℕ → Option (Term × List ℕ)
    counted m f es = number_at (2 ^ 32) es >>= λ n. Some (T.extern m f n.0, n.1)

    slash : Name → Name × List ℕ → Option (Term × List ℕ)
    slash m f = mark_at (codes "/") f.1 >>= λ es. number_at (2 ^ 32) es >>= λ n. Some (T.extern m f.0 n.0, n.1)

    named : Name → List ℕ → Option (Term × List ℕ)
    named m ds = name_at ds >>= λ f. mark_at (codes "/") f.1 >>= λ es. number_at (2 ^ 32) es
        >>= λ n. Some (T.extern m f.0 n.0, n.1)

    colon : Name × List ℕ → Option (Term × List ℕ)
    colon m = mark_at (codes ":") m.1 >>= λ ds. name_at ds >>= λ f. mark_at (codes "/") f.1
        >>= λ es. number_at (2 ^ 32) es >>= λ n. Some (T.extern m.0 f.0 n.0, n.1)

fun_word : (r : List ℕ) → word_front (102 ∷ 117 ∷ 110 ∷ 32 ∷ r) ≡ Some (codes "fun", 32 ∷ r)
fun_word r = ap (λ x. Some x) (run_is is_name_character (codes "fun") (32 ∷ r) refl refl)

-- the head of a local fun
abbrev head_of : Name → ℕ → ℕ → FunHead
head_of m s n = record { home = m; site = s; arity = n }

abbrev bracket_step : FunHead → List ℕ → Option (FunHead × List ℕ)
bracket_step h fs = mark_at (codes "[") fs >>= λ gs. Some (h, gs)

abbrev arity_step : Name → ℕ → ℕ × List ℕ → Option (FunHead × List ℕ)
arity_step m s n = mark_at (codes ",") n.1 >>= bracket_step (head_of m s n.0)

abbrev after_site : Name → ℕ → List ℕ → Option (FunHead × List ℕ)
after_site m s es = number_at (2 ^ 32) es >>= arity_step m s

abbrev site_step : Name → ℕ × List ℕ → Option (FunHead × List ℕ)
site_step m s = mark_at (codes ",") s.1 >>= after_site m s.0

abbrev after_home : Name → List ℕ → Option (FunHead × List ℕ)
after_home m ds = number_at (2 ^ 32) ds >>= site_step m

abbrev home_step : Name × List ℕ → Option (FunHead × List ℕ)
home_step m = mark_at (codes ",") m.1 >>= after_home m.0

abbrev head_given : FunHead → List ℕ → Option (FunHead × List ℕ)
head_given h gs = Some (h, gs)

head_there : (m : Name) (a n : ℕ) (r : List ℕ) → ltb a (2 ^ 32) ≡ true → ltb n (2 ^ 32) ≡ true
    → fun_head (atom_text m ++ (44 ∷ decimal_on a (44 ∷ decimal_on n (44 ∷ 91 ∷ r)))) ≡ Some (head_of m a n, r)
unfolding fun_head
head_there m a n r l k =
    ap (λ x. x >>= home_step) (name_there m (44 ∷ decimal_on a (44 ∷ decimal_on n (44 ∷ 91 ∷ r))) refl)
    ∙ ap (λ x. x >>= after_home m) (comma_there (decimal_on a (44 ∷ decimal_on n (44 ∷ 91 ∷ r))))
    ∙ ap (λ x. x >>= site_step m) (half_there a (44 ∷ decimal_on n (44 ∷ 91 ∷ r)) refl l)
    ∙ ap (λ x. x >>= after_site m a) (comma_there (decimal_on n (44 ∷ 91 ∷ r)))
    ∙ ap (λ x. x >>= arity_step m a) (half_there n (44 ∷ 91 ∷ r) refl k)
    ∙ ap (λ x. x >>= bracket_step (head_of m a n)) (comma_there (91 ∷ r))
    ∙ ap (λ x. x >>= head_given (head_of m a n)) (mark_there r).3

class_step : (word : Name) (c : Class) (r : List ℕ)
    → word_front (behind_blanks (word ++ (62 ∷ r))) ≡ Some (word, 62 ∷ r) → class_named word ≡ Some c
    → class_in (word ++ (62 ∷ r)) ≡ Some (c, r)
unfolding class_in
class_step word c r e f =
    ap (λ x. x >>= named) e ∙ ap (λ x. x >>= closed (62 ∷ r)) f ∙ ap (λ x. x >>= given c) (mark_there r).2
  where
    given : Class → List ℕ → Option (Class × List ℕ)
    given c ds = Some (c, ds)

    closed : List ℕ → Class → Option (Class × List ℕ)
    closed cs c = mark_at (codes ">") cs >>= λ ds. Some (c, ds)

    named : Name × List ℕ → Option (Class × List ℕ)
    named w = class_named w.0 >>= λ c. mark_at (codes ">") w.1 >>= λ ds. Some (c, ds)

class_there : (c : Class) (r : List ℕ) → class_in (class_text c ++ (62 ∷ r)) ≡ Some (c, r)
unfolding behind_blanks
class_there T.error r = class_step (codes "error") T.error r
    (ap (λ x. Some x) (run_is is_name_character (codes "error") (62 ∷ r) refl refl)) refl
class_there T.exit r = class_step (codes "exit") T.exit r
    (ap (λ x. Some x) (run_is is_name_character (codes "exit") (62 ∷ r) refl refl)) refl
class_there T.throw r = class_step (codes "throw") T.throw r
    (ap (λ x. Some x) (run_is is_name_character (codes "throw") (62 ∷ r) refl refl)) refl

-- Every term.

solid : (c : ℕ) (cs : List ℕ) → is_space c ≡ false → eqb c 37 ≡ false → behind_blanks (c ∷ cs) ≡ c ∷ cs
unfolding behind_blanks
solid c cs h g = ap (λ b. if b then blanks_skipped false cs else if eqb c 37 then blanks_skipped true cs else c ∷ cs) h
    ∙ ap (λ b. if b then blanks_skipped true cs else c ∷ cs) g

form_as : (d : ℕ) (cs : List ℕ) (t u : Term) (r : List ℕ) → t ≡ u → Form d (ReadsTerm d) cs t r
    → Form d (ReadsTerm d) cs u r
form_as d cs t u r e h = subst (λ x. Form d (ReadsTerm d) cs x r) e h

cons_read : (d : ℕ) → AllRead d → (x y : Term) (r : List ℕ) → ListRead d x y r
    → Read d (term_on (T.cons x y) r) (T.cons x y) r
unfolding texts
cons_read d h x y r l = record {
  solid = solid 91 (term_on x (rest_on y r)) refl refl;
  form = form_as d (91 ∷ term_on x (rest_on y r)) (list_of l.items l.last) (T.cons x y) r l.whole
      (G.list (term_on x (rest_on y r)) l.between r l.items l.last l.read l.end);
}

bits_read : (d : ℕ) (bs : List Bool) (r : List ℕ) → BitsRow bs r → Read d (term_on (T.bits bs) r) (T.bits bs) r
unfolding texts
bits_read d bs r b = record {
  solid = solid 60 (60 ∷ bits_on true bs (62 ∷ 62 ∷ r)) refl refl;
  form = form_as d (60 ∷ 60 ∷ bits_on true bs (62 ∷ 62 ∷ r)) (T.bits (bits_in b.parts)) (T.bits bs) r (ap T.bits b.bits)
      (G.bit_string (bits_on true bs (62 ∷ 62 ∷ r)) r b.parts b.read b.whole);
}

term_form : (d : ℕ) → AllRead d → (t : Term) → depth t ≤ suc d → IsTrue (fits t) → IsTrue (maps_rise t) → (r : List ℕ)
    → Ends r → Read d (term_on t r) t r
unfolding texts depths maps_rise
term_form d h (T.int z) l f g r e =
    let i = integer_read z r e f in record { solid = i.0; form = G.integer (integer_on z r) r z i.1 }
term_form d h (T.atom a) l f g r e =
    let n = name_read a r e in record { solid = n.0; form = G.atom (atom_text a ++ r) r a n.1 }
term_form d h T.nil l f g r e =
    record { solid = solid 91 (93 ∷ r) refl refl; form = G.nil (93 ∷ r) r (bracket_closes r).closed }
term_form d h (T.cons x y) l f g r e =
    cons_read d h x y r
    (list_read d h x y r (omega (arith, l)) (omega (arith, l)) (left_true (fits x) (fits y) f)
    (right_true (fits x) (fits y) f) (left_true (maps_rise x) (maps_rise y) g)
    (right_true (maps_rise x) (maps_rise y) g))
term_form d h (T.tuple ts) l f g r e = record {
  solid = solid 123 (row_on true ts (125 ∷ r)) refl refl;
  form = form_as d (123 ∷ row_on true ts (125 ∷ r)) (T.tuple (terms (listed ts))) (T.tuple ts) r
      (ap T.tuple (terms-listed ts))
      (G.tuple (row_on true ts (125 ∷ r)) r (listed ts)
      (row_read d 125 h ts r (brace_closes r) (omega (arith, l)) f g));
}
term_form d h (T.map ps) l f g r e = record {
  solid = solid 35 (123 ∷ pairs_on true ps (125 ∷ r)) refl refl;
  form = form_as d (35 ∷ 123 ∷ pairs_on true ps (125 ∷ r)) (T.map (put_all (listed_pairs ps) no_pair)) (T.map ps) r
      (ap T.map (put_all-rising ps g))
      (G.mapping (pairs_on true ps (125 ∷ r)) r (listed_pairs ps) (map_read d h ps r (omega (arith, l)) f g));
}
term_form d h (T.bits bs) l f g r e = bits_read d bs r (bits_row bs r)
term_form d h (T.fun m s a ts) l f g r e =
    let small = left_true (ltb s (2 ^ 32) && ltb a (2 ^ 32)) (all_fit ts) f in
    record {
      solid = solid 35 (codes "Fun<"
          ++ (atom_text m ++ (44 ∷ decimal_on s (44 ∷ decimal_on a (44 ∷ 91 ∷ row_on true ts (93 ∷ 62 ∷ r)))))) refl
          refl;
      form = form_as d (codes "#Fun<"
          ++ (atom_text m ++ (44 ∷ decimal_on s (44 ∷ decimal_on a (44 ∷ 91 ∷ row_on true ts (93 ∷ 62 ∷ r))))))
          (T.fun m s a (terms (listed ts))) (T.fun m s a ts) r (ap (T.fun m s a) (terms-listed ts))
          (G.local_fun (atom_text m ++ (44 ∷ decimal_on s (44 ∷ decimal_on a (44 ∷ 91 ∷ row_on true ts (93 ∷ 62 ∷ r)))))
          (row_on true ts (93 ∷ 62 ∷ r)) (62 ∷ r) r (head_of m s a) (listed ts)
          (head_there m s a (row_on true ts (93 ∷ 62 ∷ r)) (left_true (ltb s (2 ^ 32)) (ltb a (2 ^ 32)) small)
          (right_true (ltb s (2 ^ 32)) (ltb a (2 ^ 32)) small))
          (row_read d 93 h ts (62 ∷ r) (bracket_closes (62 ∷ r)) (omega (arith, l))
          (right_true (ltb s (2 ^ 32) && ltb a (2 ^ 32)) (all_fit ts) f) g) (mark_there r).2);
    }
term_form d h (T.extern m n a) l f g r e = record {
  solid = solid 102 (117 ∷ 110 ∷ 32 ∷ (atom_text m ++ (58 ∷ (atom_text n ++ (47 ∷ decimal_on a r))))) refl refl;
  form = G.external_fun (102 ∷ 117 ∷ 110 ∷ 32 ∷ (atom_text m ++ (58 ∷ (atom_text n ++ (47 ∷ decimal_on a r)))))
      (32 ∷ (atom_text m ++ (58 ∷ (atom_text n ++ (47 ∷ decimal_on a r))))) r (T.extern m n a)
      (fun_word (atom_text m ++ (58 ∷ (atom_text n ++ (47 ∷ decimal_on a r))))) (extern_there m n a r e f);
}
term_form d h (T.pid n) l f g r e = record {
  solid = solid 35 (codes "Pid<" ++ decimal_on n (62 ∷ r)) refl refl;
  form = G.pid (decimal_on n (62 ∷ r)) r n (whole_there n r f);
}
term_form d h (T.reference n) l f g r e = record {
  solid = solid 35 (codes "Ref<" ++ decimal_on n (62 ∷ r)) refl refl;
  form = G.reference (decimal_on n (62 ∷ r)) r n (whole_there n r f);
}
term_form d h (T.port n) l f g r e = record {
  solid = solid 35 (codes "Port<" ++ decimal_on n (62 ∷ r)) refl refl;
  form = G.port (decimal_on n (62 ∷ r)) r n (whole_there n r f);
}
term_form d h (T.raw_trace c) l f g r e =
    record {
      solid = solid 35 (codes "Trace<" ++ (class_text c ++ (62 ∷ r))) refl refl;
      form = G.raw_trace (class_text c ++ (62 ∷ r)) r c (class_there c r);
    }

not_flat : (t : Term) → 0 < depth t
unfolding depths
not_flat (T.cons x y) = omega arith
not_flat (T.tuple ts) = omega arith
not_flat (T.map ps) = omega arith
not_flat (T.fun m s a ts) = omega arith
not_flat t = omega arith

pub all_read : (d : ℕ) → AllRead d
all_read zero t l f g r e = absurd (omega (arith, l, not_flat t))
all_read (suc d) t l f g r e = reads d (term_on t r) t r (term_form d (all_read d) t l f g r e)

pub printed_is_read : (t : Term) (r : List ℕ) → depth t ≤ 2100 → IsTrue (fits t) → IsTrue (maps_rise t) → Ends r
    → ReadsTerm 2100 (term_on t r) t r
printed_is_read t r l f g e = all_read 2100 t l f g r e

pub printed_is_text : (bytes : List ℕ) (t : Term) → IsUtf8 bytes → chars bytes ≡ printed t → depth t ≤ 2100
    → IsTrue (fits t) → IsTrue (maps_rise t) → IsTermText bytes t
unfolding behind_blanks
printed_is_text bytes t u e l f g = record {
  utf8 = u;
  rest = [];
  reads = subst (λ cs. ReadsTerm 2100 cs t []) (sym e) (printed_is_read t [] l f g tt);
  ends = refl;
}
