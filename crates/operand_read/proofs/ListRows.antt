-- Rows that are read one by one: what was read, before what is left.
use Rattle.std.proofs.Common.{ℕ, ◌≡◌, ◌==◌, ◌<◌, length, take, drop, arith, refl, sym, ap, ◌∙◌, subst, List, [], ◌∷◌, ◌++◌, Option, Some, None, Bool, true, false, ◌||◌, if◌then◌else◌, map, append_assoc, codes}
use Rattle.std.proofs.lemmas.List.{take-append-drop}
use Rattle.erl_base.specs.Names.{Name, same_name}
use Rattle.erl_term.specs.Term.{Term}
use Rattle.erl_term.specs.declared.term.Term.{Term as Value}
use Rattle.erl_term.specs.View.{view}
use Rattle.erl_term.specs.Comparing.{AllNormal}
use Rattle.erl_term.specs.WellFormed.{layout, all_normal, IsNormal}
use Rattle.erl_term.proofs.Forms.{left_true, right_true, both_true}
use Rattle.term_read.specs.Lexemes.{◌>>=◌}
use Rattle.beam_table.specs.Code.{Flags, Segment}
use Rattle.insn_terms.specs.Spelling.{is_flag}
use Rattle.insn_terms.specs.Reading.{singles, in_pairs, atom_of, words_in, with_flag, checked, segment_in, segments_in}
use Rattle.operand_read.proofs.Words.{flipped}

-- a row of terms in normal form
pub first_normal : (t : Value) (ts : List Value) → AllNormal (t ∷ ts) → IsNormal t
first_normal t ts n = left_true (layout t).normal (all_normal (map layout ts)) n

pub others_normal : (t : Value) (ts : List Value) → AllNormal (t ∷ ts) → AllNormal ts
others_normal t ts n = right_true (layout t).normal (all_normal (map layout ts)) n

-- what was read before what is left
abbrev pub joined : {A : Type 0} → List A → Option (List A) → Option (List A)
joined done None = None
joined done (Some more) = Some (done ++ more)

pub joined_nothing : {A : Type 0} (o : Option (List A)) → o ≡ joined [] o
joined_nothing None = refl
joined_nothing (Some more) = refl

pub joined_more : {A : Type 0} (done : List A) (a : A) (o : Option (List A))
    → joined done (o >>= λ more. Some (a ∷ more)) ≡ joined (done ++ a ∷ []) o
joined_more done a None = refl
joined_more done a (Some more) = ap Some (sym (append_assoc done (a ∷ []) more))

-- one by one
pub single_step : {A : Type 0} (f : Term → Option A) (t : Term) (ts : List Term) (a : A) (done : List A)
    → f t ≡ Some a → joined done (singles f (t ∷ ts)) ≡ joined (done ++ a ∷ []) (singles f ts)
single_step f t ts a done e =
    ap (λ o. joined done (o >>= λ b. singles f ts >>= λ bs. Some (b ∷ bs))) e ∙ joined_more done a (singles f ts)

pub single_stop : {A : Type 0} (f : Term → Option A) (t : Term) (ts : List Term) (done : List A)
    → f t ≡ None → joined done (singles f (t ∷ ts)) ≡ None
single_stop f t ts done e = ap (λ o. joined done (o >>= λ b. singles f ts >>= λ bs. Some (b ∷ bs))) e

-- two by two
pub pair_step : {A : Type 0} (f : Term → Term → Option A) (t u : Term) (ts : List Term) (a : A) (done : List A)
    → f t u ≡ Some a → joined done (in_pairs f (t ∷ u ∷ ts)) ≡ joined (done ++ a ∷ []) (in_pairs f ts)
pair_step f t u ts a done e =
    ap (λ o. joined done (o >>= λ b. in_pairs f ts >>= λ bs. Some (b ∷ bs))) e ∙ joined_more done a (in_pairs f ts)

pub pair_stop : {A : Type 0} (f : Term → Term → Option A) (t u : Term) (ts : List Term) (done : List A)
    → f t u ≡ None → joined done (in_pairs f (t ∷ u ∷ ts)) ≡ None
pair_stop f t u ts done e = ap (λ o. joined done (o >>= λ b. in_pairs f ts >>= λ bs. Some (b ∷ bs))) e

-- words of flags, with those that were read
abbrev pub raised : Bool → Bool → Option Flags → Option Flags
raised s l None = None
raised s l (Some f) = Some (record { signed = s || f.signed; little = l || f.little })

pub raised_nothing : (o : Option Flags) → o ≡ raised false false o
raised_nothing None = refl
raised_nothing (Some f) = refl

or_assoc : (a b c : Bool) → (a || (b || c)) ≡ ((a || b) || c)
or_assoc true b c = refl
or_assoc false b c = refl

or_false : (a : Bool) → (a || false) ≡ a
or_false true = refl
or_false false = refl

pub raised_end : (s l : Bool) → raised s l (words_in []) ≡ Some (record { signed = s; little = l })
raised_end s l = ap (λ b. Some (record { signed = b; little = l || false })) (or_false s)
    ∙ ap (λ b. Some (record { signed = s; little = b })) (or_false l)

pub word_step : (t : Term) (ts : List Term) (a : Name) (s l : Bool) → atom_of t ≡ Some a → is_flag a ≡ true
    → raised s l (words_in (t ∷ ts))
    ≡ raised (s || same_name (codes "signed") a) (l || same_name (codes "little") a) (words_in ts)
word_step t ts a s l e h =
    ap (λ o. raised s l (o >>= checked is_flag >>= λ b. words_in ts >>= λ f. Some (with_flag b f))) e
    ∙ ap (λ b. raised s l ((if b then Some a else None) >>= λ b. words_in ts >>= λ f. Some (with_flag b f))) h
    ∙ by (words_in ts)
  where
    by : (o : Option Flags) → raised s l (o >>= λ f. Some (with_flag a f))
        ≡ raised (s || same_name (codes "signed") a) (l || same_name (codes "little") a) o
    by None = refl
    by (Some f) =
        ap (λ b. Some (record { signed = b; little = l || (same_name a (codes "little") || f.little) }))
        (or_assoc s (same_name a (codes "signed")) f.signed
        ∙ ap (λ b. (s || b) || f.signed) (flipped a (codes "signed")))
        ∙ ap (λ b. Some (record { signed = (s || same_name (codes "signed") a) || f.signed; little = b }))
        (or_assoc l (same_name a (codes "little")) f.little
        ∙ ap (λ b. (l || b) || f.little) (flipped a (codes "little")))

pub word_stop : (t : Term) (ts : List Term) (s l : Bool) → (atom_of t >>= checked is_flag) ≡ None
    → raised s l (words_in (t ∷ ts)) ≡ None
word_stop t ts s l e = ap (λ o. raised s l (o >>= λ b. words_in ts >>= λ f. Some (with_flag b f))) e

pub no_pair : {A : Type 0} (f : Term → Term → Option A) (ts : List Value) → length ts < 2 → (length ts == 0) ≡ false
    → in_pairs f (map view ts) ≡ None
no_pair f [] h k = absurd cc
no_pair f (t ∷ []) h k = refl
no_pair f (t ∷ u ∷ ts) h k = absurd (omega (arith, h))

-- six by six
pub segment_step : (six rest : List Value) (g : Segment) (done : List Segment) → length six ≡ 6
    → segment_in (map view six) ≡ Some g
    → joined done (segments_in (map view (six ++ rest))) ≡ joined (done ++ g ∷ []) (segments_in (map view rest))
segment_step (a ∷ b ∷ c ∷ d ∷ e ∷ f ∷ []) rest g done h k =
    ap (λ o. joined done (o >>= λ x. segments_in (map view rest) >>= λ xs. Some (x ∷ xs))) k
    ∙ joined_more done g (segments_in (map view rest))
segment_step [] rest g done h k = absurd (omega (arith, h))
segment_step (a ∷ []) rest g done h k = absurd (omega (arith, h))
segment_step (a ∷ b ∷ []) rest g done h k = absurd (omega (arith, h))
segment_step (a ∷ b ∷ c ∷ []) rest g done h k = absurd (omega (arith, h))
segment_step (a ∷ b ∷ c ∷ d ∷ []) rest g done h k = absurd (omega (arith, h))
segment_step (a ∷ b ∷ c ∷ d ∷ e ∷ []) rest g done h k = absurd (omega (arith, h))
segment_step (a ∷ b ∷ c ∷ d ∷ e ∷ f ∷ i ∷ six) rest g done h k = absurd (omega (arith, h))

pub segment_stop : (six rest : List Value) (done : List Segment) → length six ≡ 6
    → segment_in (map view six) ≡ None → joined done (segments_in (map view (six ++ rest))) ≡ None
segment_stop (a ∷ b ∷ c ∷ d ∷ e ∷ f ∷ []) rest done h k =
    ap (λ o. joined done (o >>= λ x. segments_in (map view rest) >>= λ xs. Some (x ∷ xs))) k
segment_stop [] rest done h k = absurd (omega (arith, h))
segment_stop (a ∷ []) rest done h k = absurd (omega (arith, h))
segment_stop (a ∷ b ∷ []) rest done h k = absurd (omega (arith, h))
segment_stop (a ∷ b ∷ c ∷ []) rest done h k = absurd (omega (arith, h))
segment_stop (a ∷ b ∷ c ∷ d ∷ []) rest done h k = absurd (omega (arith, h))
segment_stop (a ∷ b ∷ c ∷ d ∷ e ∷ []) rest done h k = absurd (omega (arith, h))
segment_stop (a ∷ b ∷ c ∷ d ∷ e ∷ f ∷ i ∷ six) rest done h k = absurd (omega (arith, h))

pub no_segment : (ts : List Value) → length ts < 6 → (length ts == 0) ≡ false → segments_in (map view ts) ≡ None
no_segment [] h k = absurd cc
no_segment (a ∷ []) h k = refl
no_segment (a ∷ b ∷ []) h k = refl
no_segment (a ∷ b ∷ c ∷ []) h k = refl
no_segment (a ∷ b ∷ c ∷ d ∷ []) h k = refl
no_segment (a ∷ b ∷ c ∷ d ∷ e ∷ []) h k = refl
no_segment (a ∷ b ∷ c ∷ d ∷ e ∷ f ∷ ts) h k = absurd (omega (arith, h))

pub front_normal : (ts us : List Value) → AllNormal (ts ++ us) → AllNormal ts
front_normal [] us n = refl
front_normal (t ∷ ts) us n =
    both_true (layout t).normal (all_normal (map layout ts)) (first_normal t (ts ++ us) n)
    (front_normal ts us (others_normal t (ts ++ us) n))

pub back_normal : (ts us : List Value) → AllNormal (ts ++ us) → AllNormal us
back_normal [] us n = n
back_normal (t ∷ ts) us n = back_normal ts us (others_normal t (ts ++ us) n)

-- what is left behind the first
pub behind_first : (n : ℕ) (ts : List Value) → AllNormal ts → AllNormal (take n (drop 1 ts))
behind_first n ts h =
    let d : AllNormal (drop 1 ts) =
    back_normal (take 1 ts) (drop 1 ts) (subst AllNormal (sym (take-append-drop 1 ts)) h) in
    front_normal (take n (drop 1 ts)) (drop n (drop 1 ts)) (subst AllNormal (sym (take-append-drop n (drop 1 ts))) d)
