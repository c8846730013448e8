-- Lists behind items that were read.
use Rattle.std.proofs.Common.{◌≡◌, ℕ, List, [], ◌∷◌, ◌++◌, ◌<◌, ◌≤◌, ◌-◌, length, take, drop, get_or, arith, Option, Some, None, map, Bool, true, false, refl, sym, ap, ◌∙◌, subst, codes}
use Rattle.std.proofs.lemmas.List.{take_all}
use Rattle.std.specs.Prelude.{Result}
use Rattle.erl_term.specs.Term as T
use Rattle.erl_term.specs.Term.{Term}
use Rattle.erl_term.specs.Terms.{list_of}
use Rattle.term_read.specs.Lexemes.{◌>>=◌, mark_at}
use Rattle.term_read.specs.Reading.{Gives, choice, before, before_tail, items_of, items_and_end, list_end, list_by, form_by}
use Rattle.term_read.specs.declared.unread.Unread.{Unread}
use Rattle.term_read.proofs.WellRows.{list_of-append}

-- what was given, where the same is read
pub gives_same : {X Y : Type 0} (f : X → Y) (r : Result X Unread) (a b : Option Y) → a ≡ b → Gives f r a → Gives f r b
gives_same f r a b e h = subst (Gives f r) e h

pub before_no_tail : (r : Option (Term × List ℕ)) → before_tail [] r ≡ r
before_no_tail None = refl
before_no_tail (Some found) = refl

-- the closing bracket behind a tail
abbrev pub bracketed : Term × List ℕ → Option (Term × List ℕ)
bracketed t = mark_at (codes "]") t.1 >>= λ es. Some (t.0, es)

inside : {A : Type 0} (x y : A) → Some x ≡ Some y → x ≡ y
inside x y e = cc

module _ (p : List ℕ → Option (Term × List ℕ)) (xs : List Term) (cs : List ℕ) where
  -- without items that can be read there is no list
  pub no_items_no_list : before xs (items_of p cs) ≡ None → before_tail xs (items_and_end p cs) ≡ None
  no_items_no_list = by (items_of p cs)
    where
      by : (r : Option (List Term × List ℕ)) → before xs r ≡ None
          → before_tail xs (r >>= λ ts. list_end p ts.1 >>= λ u. Some (list_of ts.0 u.0, u.1)) ≡ None
      by None e = refl
      by (Some found) e = absurd cc

  -- the items that were read and those that are make one list
  pub items_then_end : (ys : List Term) (ds : List ℕ) → before xs (items_of p cs) ≡ Some (ys, ds)
      → before_tail ys (list_end p ds) ≡ before_tail xs (items_and_end p cs)
  items_then_end ys ds = by (items_of p cs)
    where
      ends : (zs : List Term) (r : Option (Term × List ℕ))
          → before_tail (xs ++ zs) r ≡ before_tail xs (r >>= λ u. Some (list_of zs u.0, u.1))
      ends zs None = refl
      ends zs (Some u) = ap (λ t. Some (t, u.1)) (list_of-append xs zs u.0)

      by : (r : Option (List Term × List ℕ)) → before xs r ≡ Some (ys, ds)
          → before_tail ys (list_end p ds)
          ≡ before_tail xs (r >>= λ ts. list_end p ts.1 >>= λ u. Some (list_of ts.0 u.0, u.1))
      by None e = absurd cc
      by (Some found) e =
          let same = inside {A = List Term × List ℕ} (ys, ds) (xs ++ found.0, found.1) (sym e) in
          let items : ys ≡ xs ++ found.0 = ap (λ (x : List Term × List ℕ). x.0) same in
          let rest : ds ≡ found.1 = ap (λ (x : List Term × List ℕ). x.1) same in
          ap (λ zs. before_tail zs (list_end p ds)) items ∙ ap (λ es. before_tail (xs ++ found.0) (list_end p es)) rest
          ∙ ends found.0 (list_end p found.1)

  -- where a bar stands, the tail and then the bracket
  pub end_bar : (ds : List ℕ) → mark_at (codes "|") cs ≡ Some ds
      → before_tail xs (list_end p cs) ≡ (before_tail xs (p ds) >>= bracketed)
  unfolding list_end
  end_bar ds e =
      ap (λ r. before_tail xs (choice r (λ es. p es >>= bracketed) (mark_at (codes "]") cs >>= λ es. Some (T.nil, es))))
      e ∙ by (p ds)
    where
      close : (t : Term) (r : Option (List ℕ))
          → before_tail xs (r >>= λ es. Some (t, es)) ≡ (r >>= λ es. Some (list_of xs t, es))
      close t None = refl
      close t (Some es) = refl

      by : (r : Option (Term × List ℕ)) → before_tail xs (r >>= bracketed) ≡ (before_tail xs r >>= bracketed)
      by None = refl
      by (Some t) = close t.0 (mark_at (codes "]") t.1)

  -- where none stands, the bracket
  pub end_bracket : mark_at (codes "|") cs ≡ None
      → before_tail xs (list_end p cs) ≡ (mark_at (codes "]") cs >>= λ ds. Some (list_of xs T.nil, ds))
  unfolding list_end
  end_bracket e =
      ap (λ r. before_tail xs (choice r (λ es. p es >>= bracketed) (mark_at (codes "]") cs >>= λ es. Some (T.nil, es))))
      e
      ∙ by (mark_at (codes "]") cs)
    where
      by : (r : Option (List ℕ))
          → before_tail xs (r >>= λ es. Some (T.nil, es)) ≡ (r >>= λ ds. Some (list_of xs T.nil, ds))
      by None = refl
      by (Some ds) = refl

  -- What ends a list, by what stands there.

  pub end_unclosed : None ≡ mark_at (codes "|") cs → mark_at (codes "]") cs ≡ None
      → before_tail xs (list_end p cs) ≡ None
  end_unclosed e f = end_bracket (sym e) ∙ ap (λ r. r >>= λ ds. Some (list_of xs T.nil, ds)) f

  pub end_no_tail : (ds : List ℕ) → Some ds ≡ mark_at (codes "|") cs → before_tail xs (p ds) ≡ None
      → before_tail xs (list_end p cs) ≡ None
  end_no_tail ds e f = end_bar ds (sym e) ∙ ap (λ r. r >>= bracketed) f

  pub end_tail_open : (ds es : List ℕ) (t : Term) → Some ds ≡ mark_at (codes "|") cs
      → before_tail xs (p ds) ≡ Some (t, es)
      → mark_at (codes "]") es ≡ None → before_tail xs (list_end p cs) ≡ None
  end_tail_open ds es t e f g = end_bar ds (sym e) ∙ ap (λ r. r >>= bracketed) f ∙ ap (λ r. r >>= λ fs. Some (t, fs)) g

  pub end_proper : (ds : List ℕ) (t : Term) → None ≡ mark_at (codes "|") cs → mark_at (codes "]") cs ≡ Some ds
      → t ≡ list_of xs T.nil
      → before_tail xs (list_end p cs) ≡ Some (t, ds)
  end_proper ds t e f g =
      end_bracket (sym e) ∙ ap (λ r. r >>= λ ds. Some (list_of xs T.nil, ds)) f ∙ ap (λ u. Some (u, ds)) (sym g)

  pub end_with_tail : (ds es fs : List ℕ) (t : Term) → Some ds ≡ mark_at (codes "|") cs
      → before_tail xs (p ds) ≡ Some (t, es)
      → mark_at (codes "]") es ≡ Some fs → before_tail xs (list_end p cs) ≡ Some (t, fs)
  end_with_tail ds es fs t e f g =
      end_bar ds (sym e) ∙ ap (λ r. r >>= bracketed) f ∙ ap (λ r. r >>= λ fs. Some (t, fs)) g

  -- A list in a tail: no items, or some.

  pub list_closed : (ds : List ℕ) (t : Term) → Some ds ≡ mark_at (codes "]") cs → t ≡ list_of xs T.nil
      → before_tail xs (list_by p cs) ≡ Some (t, ds)
  unfolding list_by
  list_closed ds t e f =
      ap (λ r. before_tail xs (choice r (λ es. Some (T.nil, es)) (items_and_end p cs))) (sym e)
      ∙ ap (λ u. Some (u, ds)) (sym f)

  pub list_open : None ≡ mark_at (codes "]") cs → before_tail xs (items_and_end p cs) ≡ before_tail xs (list_by p cs)
  unfolding list_by
  list_open e = ap (λ r. before_tail xs (choice r (λ es. Some (T.nil, es)) (items_and_end p cs))) e

-- the first character and the others
pub first_and_rest : (cs : List ℕ) (c : ℕ) → 1 ≤ length cs → c ≡ get_or cs 0 c
    → cs ≡ c ∷ take (length cs - 1) (drop 1 cs)
first_and_rest [] c h e = absurd (omega arith)
first_and_rest (x ∷ cs) c h e = let all : take (length (x ∷ cs) - 1) cs ≡ cs = take_all _ cs (omega arith) in cc

-- characters that begin with a bracket are read as a list
pub bracket_form : (d : ℕ) (p : List ℕ → Option (Term × List ℕ)) (xs : List Term) (c : ℕ) (cs later : List ℕ)
    → cs ≡ c ∷ later → c ≡ 91
    → before_tail xs (list_by p later) ≡ before_tail xs (form_by d p cs)
unfolding form_by
bracket_form d p xs c cs later e f =
    ap (λ x. before_tail xs (form_by d p (x ∷ later))) (sym f) ∙ ap (λ ds. before_tail xs (form_by d p ds)) (sym e)

-- nothing is read from no characters
pub no_form : (d : ℕ) (p : List ℕ → Option (Term × List ℕ)) (xs : List Term) (cs : List ℕ) → length cs < 1
    → before_tail xs (form_by d p cs) ≡ None
unfolding form_by
no_form d p xs [] h = refl
no_form d p xs (c ∷ cs) h = absurd (omega arith)

pub ruleset list_unread = (end_unclosed, end_no_tail, end_tail_open)
