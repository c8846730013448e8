-- Sources, flags and labels: what is read is what the term spells.
use Rattle.std.proofs.Common.{◌≡◌, ℤ, refl, sym, ap, ap₂, ◌∙◌, subst, List, [], ◌∷◌, map, Option, Some, None, Bool, true, false, if◌then◌else◌, IsTrue, codes}
use Rattle.std.specs.List.{list_all}
use Rattle.std.specs.Option.{option_map}
use Rattle.erl_base.specs.Names.{Name, same_name}
use Rattle.erl_term.specs.Term as T
use Rattle.erl_term.specs.Term.{Term}
use Rattle.erl_term.specs.Terms.{terms, tagged, list_of}
use Rattle.erl_term.specs.Ranges.{fits}
use Rattle.erl_term.specs.WellFormed.{maps_rise}
use Rattle.erl_term.proofs.Forms.{left_true, right_true, both_true}
use Rattle.term_read.specs.Lexemes.{◌>>=◌}
use Rattle.term_read.proofs.Shorter.{bound, some_same, chosen}
use Rattle.beam_table.specs.Code as C
use Rattle.beam_table.specs.Code.{Reg, x_reg, y_reg, Source, reg, Flags}
use Rattle.beam_table.specs.OperandBounds.{register_ok, source_ok}
use Rattle.insn_terms.specs.Spelling.{SpellsRegister, bare, typed, SpellsSource, is_flag, flags_named, words_term, SpellsFlags, words, SpellsFlagList, no_words, some_words}
use Rattle.insn_terms.specs.Reading.{checked, integer_of, atom_of, items_of, elements_of, behind, register_named, register_behind, source_named, source_by, source_in, source_at, source_of, with_flag, words_in, flags_in, flag_list_at, flag_list_of}
use Rattle.insn_terms.proofs.Apart.{same_names, integer_sound, atom_sound, items_sound, items_there, elements_sound, behind_sound}
use Rattle.insn_terms.proofs.OperandsRead.{Sane, sane_part, Reads, letter_sound, behind_tr, headed}

-- what a mapped option was made of
pub mapped : {A B : Type 0} (f : A → B) (o : Option A) (y : B) → option_map f o ≡ Some y → (x : A) × (o ≡ Some x)
    × (f x ≡ y)
mapped f None y e = absurd cc
mapped f (Some x) y e = (x, refl, some_same (f x) y e)

reg_ok : (r : Reg) → IsTrue (register_ok r) → IsTrue (source_ok (reg r))
unfolding source_ok
reg_ok r h = h

ok_reg : (r : Reg) → IsTrue (source_ok (reg r)) → IsTrue (register_ok r)
unfolding source_ok
ok_reg r h = h

-- behind `integer` and `literal`
atom_read : (a b : Name) → a ≡ codes "atom" → Reads (SpellsSource (tagged a (T.atom b))) source_ok (C.atom b)
unfolding source_ok
atom_read a b e = record { spelled = ap (λ w. tagged w (T.atom b)) e; bounded = refl }

integer_read : (a : Name) (z : ℤ) → a ≡ codes "integer" → Sane (T.int z)
    → Reads (SpellsSource (tagged a (T.int z))) source_ok (C.integer z)
unfolding source_ok
integer_read a z e s = record { spelled = ap (λ w. tagged w (T.int z)) e; bounded = s.fits }

literal_read : (a : Name) (u : Term) → a ≡ codes "literal" → Sane u
    → Reads (SpellsSource (tagged a u)) source_ok (C.literal u)
unfolding source_ok
literal_read a u e s =
    record { spelled = ap (λ w. tagged w u) e; bounded = both_true (maps_rise u) (fits u) s.rises s.fits }

named_sound : (a : Name) (u : Term) (s : Source) → Sane u → source_named a u ≡ Some s
    → Reads (SpellsSource (tagged a u)) source_ok s
named_sound a u s n e = by (same_name (codes "atom") a) (same_name (codes "integer") a) (same_name (codes "literal") a)
    refl refl refl e
  where
    by : (b c d : Bool) → same_name (codes "atom") a ≡ b → same_name (codes "integer") a ≡ c
        → same_name (codes "literal") a ≡ d
        → (if b then option_map C.atom (atom_of u) else if c then option_map C.integer (integer_of u)
        else if d then Some (C.literal u) else option_map reg (register_named a u)) ≡ Some s
        → Reads (SpellsSource (tagged a u)) source_ok s
    by true c d h i j g =
        let x = mapped C.atom (atom_of u) s g in
        subst (λ v. Reads (SpellsSource (tagged a u)) source_ok v) x.2
        (subst (λ v. Reads (SpellsSource (tagged a v)) source_ok (C.atom x.0)) (sym (atom_sound u x.0 x.1))
        (atom_read a x.0 (sym (same_names (codes "atom") a h))))
    by false true d h i j g =
        let x = mapped C.integer (integer_of u) s g in
        let w = integer_sound u x.0 x.1 in
        subst (λ v. Reads (SpellsSource (tagged a u)) source_ok v) x.2
        (subst (λ v. Reads (SpellsSource (tagged a v)) source_ok (C.integer x.0)) (sym w)
        (integer_read a x.0 (sym (same_names (codes "integer") a i)) (subst Sane w n)))
    by false false true h i j g =
        subst (λ v. Reads (SpellsSource (tagged a u)) source_ok v) (some_same (C.literal u) s g)
        (literal_read a u (sym (same_names (codes "literal") a j)) n)
    by false false false h i j g =
        let x = mapped reg (register_named a u) s g in
        let r = letter_sound a u x.0 x.1 in
        subst (λ v. Reads (SpellsSource (tagged a u)) source_ok v) x.2 (record {
          spelled = subst (λ t. SpellsRegister t x.0) (sym r.spelled) (bare x.0);
          bounded = reg_ok x.0 r.bounded;
        })

parts_sound : (a : Name) (u : Term) (ts : List Term) (s : Source) → Sane (T.tuple (terms (T.atom a ∷ u ∷ ts)))
    → source_by a u ts ≡ Some s → Reads (SpellsSource (T.tuple (terms (T.atom a ∷ u ∷ ts)))) source_ok s
parts_sound a u [] s n e = named_sound a u s (sane_part a u n) e
parts_sound a u (v ∷ []) s n e =
    let x = mapped reg (register_behind a u) s e in
    let r = behind_tr a u x.0 x.1 in
    subst (λ w. Reads (SpellsSource (T.tuple (terms (T.atom a ∷ u ∷ v ∷ [])))) source_ok w) x.2 (record {
      spelled = subst (λ t. SpellsRegister t x.0)
          (sym (ap₂ (λ b w. T.tuple (terms (T.atom b ∷ w ∷ v ∷ []))) r.0 r.1.spelled)) (typed x.0 v);
      bounded = reg_ok x.0 r.1.bounded;
    })
parts_sound a u (v ∷ w ∷ ts) s n e = absurd cc

nil_read : (t : Term) → t ≡ T.atom (codes "nil") → Reads (SpellsSource t) source_ok C.nil
unfolding source_ok
nil_read t e = record { spelled = e; bounded = refl }

pub source_sound : (t : Term) (s : Source) → Sane t → source_of t ≡ Some s → Reads (SpellsSource t) source_ok s
source_sound t s n e = by (atom_of t) refl e
  where
    by : (o : Option Name) → atom_of t ≡ o → source_at o t ≡ Some s → Reads (SpellsSource t) source_ok s
    by (Some a) h g =
        let k = chosen (same_name (codes "nil") a) C.nil s g in
        subst (λ v. Reads (SpellsSource t) source_ok v) k.1
        (nil_read t (atom_sound t a h ∙ ap T.atom (sym (same_names (codes "nil") a k.0))))
    by None h g =
        let x = bound (elements_of t) source_in s g in
        let p = headed x.0 source_by s x.2 in
        let w = elements_sound t x.0 x.1 ∙ ap (λ us. T.tuple (terms us)) p.0.whole in
        subst (λ u. Reads (SpellsSource u) source_ok s) (sym w)
        (parts_sound p.0.tag p.0.part p.0.rest s (subst Sane w n) p.1)

register_source : (t : Term) (r : Reg) → SpellsRegister t r → IsTrue (register_ok r) → source_of t ≡ Some (reg r)
register_source _ _ (bare (x_reg n)) h = ap (λ b. option_map reg (if b then Some (x_reg n) else None)) h
register_source _ _ (bare (y_reg n)) h = ap (λ b. option_map reg (if b then Some (y_reg n) else None)) h
register_source _ _ (typed (x_reg n) u) h = ap (λ b. option_map reg (if b then Some (x_reg n) else None)) h
register_source _ _ (typed (y_reg n) u) h = ap (λ b. option_map reg (if b then Some (y_reg n) else None)) h

pub source_complete : (t : Term) (s : Source) → SpellsSource t s → IsTrue (source_ok s) → source_of t ≡ Some s
source_complete t (reg r) p h = register_source t r p (ok_reg r h)
source_complete t (C.atom a) p h = ap source_of p
source_complete t (C.integer z) p h = ap source_of p
source_complete t C.nil p h = ap source_of p
source_complete t (C.literal u) p h = ap source_of p

-- Flags.

record Words (ts : List Term) (f : Flags) : Type 0 where
  names : List Name
  terms : ts ≡ map T.atom names
  flags : IsTrue (list_all is_flag names)
  named : flags_named names ≡ f

words_sound : (ts : List Term) (f : Flags) → words_in ts ≡ Some f → Words ts f
words_sound [] f e = record { names = []; terms = refl; flags = refl; named = some_same (flags_named []) f e }
words_sound (t ∷ ts) f e =
    let k = bound (atom_of t >>= checked is_flag) (λ a. words_in ts >>= λ g. Some (with_flag a g)) f e in
    let a = bound (atom_of t) (checked is_flag) k.0 k.1 in
    let c = chosen (is_flag a.0) a.0 k.0 a.2 in
    let r = bound (words_in ts) (λ g. Some (with_flag k.0 g)) f k.2 in
    let w = words_sound ts r.0 r.1 in
    record {
      names = a.0 ∷ w.names;
      terms = ap₂ (λ v vs. v ∷ vs) (atom_sound t a.0 a.1) w.terms;
      flags = both_true (is_flag a.0) _ c.0 w.flags;
      named = ap₂ with_flag c.1 w.named ∙ some_same (with_flag k.0 r.0) f r.2;
    }

words_complete : (as' : List Name) → IsTrue (list_all is_flag as') → words_in (map T.atom as') ≡ Some (flags_named as')
words_complete [] h = refl
words_complete (a ∷ as') h =
    ap (λ b. (if b then Some a else None) >>= λ c. words_in (map T.atom as') >>= λ g. Some (with_flag c g))
    (left_true (is_flag a) _ h)
    ∙ ap (λ r. r >>= λ g. Some (with_flag a g)) (words_complete as' (right_true (is_flag a) _ h))

flags_sound : (tag : Name) (t : Term) (f : Flags) → flags_in t ≡ Some f → SpellsFlags tag (tagged tag t) f
flags_sound tag t f e =
    let x = bound (items_of t) words_in f e in
    let w = words_sound x.0 f x.2 in
    let h : tagged tag (words_term w.names) ≡ tagged tag t =
    ap (tagged tag) (sym (items_sound t x.0 x.1 ∙ ap (λ ts. list_of ts T.nil) w.terms)) in
    subst (λ g. SpellsFlags tag (tagged tag t) g) w.named
    (subst (λ u. SpellsFlags tag u (flags_named w.names)) h (words w.names w.flags))

flags_complete : (as' : List Name) → IsTrue (list_all is_flag as')
    → flags_in (words_term as') ≡ Some (flags_named as')
flags_complete as' h = ap (λ r. r >>= words_in) (items_there (map T.atom as')) ∙ words_complete as' h

pub field_flags_sound : (t : Term) (f : Flags) → (behind (codes "field_flags") t >>= flags_in) ≡ Some f
    → SpellsFlags (codes "field_flags") t f
field_flags_sound t f e =
    let x = bound (behind (codes "field_flags") t) flags_in f e in
    subst (λ u. SpellsFlags (codes "field_flags") u f) (sym (behind_sound (codes "field_flags") t x.0 x.1))
    (flags_sound (codes "field_flags") x.0 f x.2)

pub field_flags_complete : (t : Term) (f : Flags) → SpellsFlags (codes "field_flags") t f
    → (behind (codes "field_flags") t >>= flags_in) ≡ Some f
field_flags_complete _ _ (words as' h) = flags_complete as' h

pub flag_list_sound : (t : Term) (f : Flags) → flag_list_of t ≡ Some f → SpellsFlagList t f
flag_list_sound t f e = by (atom_of t) refl e
  where
    by : (o : Option Name) → atom_of t ≡ o → flag_list_at o t ≡ Some f → SpellsFlagList t f
    by (Some a) h g =
        let k = chosen (same_name (codes "nil") a) (flags_named []) f g in
        let w : T.atom (codes "nil") ≡ t = ap T.atom (same_names (codes "nil") a k.0) ∙ sym (atom_sound t a h) in
        subst (λ v. SpellsFlagList t v) k.1 (subst (λ u. SpellsFlagList u (flags_named [])) w no_words)
    by None h g =
        let x = bound (behind (codes "literal") t) flags_in f g in
        subst (λ u. SpellsFlagList u f) (sym (behind_sound (codes "literal") t x.0 x.1))
        (some_words _ f (flags_sound (codes "literal") x.0 f x.2))

pub flag_list_complete : (t : Term) (f : Flags) → SpellsFlagList t f → flag_list_of t ≡ Some f
flag_list_complete _ _ no_words = refl
flag_list_complete _ _ (some_words t f h) = inside t f h
  where
    inside : (t : Term) (f : Flags) → SpellsFlags (codes "literal") t f → flag_list_of t ≡ Some f
    inside _ _ (words as' h) = flags_complete as' h
