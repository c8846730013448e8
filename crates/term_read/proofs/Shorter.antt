-- What is read leaves fewer characters, or no more.
use Rattle.std.proofs.Common.{◌≡◌, ℕ, ◌+◌, ◌<◌, ◌≤◌, refl, sym, ap, ◌∙◌, subst, List, [], ◌∷◌, ◌++◌, length, Option, Some, None, Bool, true, false, if◌then◌else◌, eqb, not, ◌||◌, arith, ap₂, length-append, length-drop, drop, take_while, codes, ℤ, pos, negsuc, ltb, leb, cond, min, length-take, ◌&&◌, ◌^◌}
use borrow.Author.Tests.{eqb-true}
use Rattle.std.specs.List.{prefix_len}
use Rattle.core_chars.specs.Characters.{is_lower, is_upper, is_digit, is_sign, first_is, value_from}
use Rattle.core_chars.specs.Quoted.{quoted_text}
use Rattle.erl_base.specs.Names.{Name, same_name}
use Rattle.term_text.specs.Atoms.{is_name_character}
use Rattle.term_read.specs.Lexemes.{◌>>=◌, is_space, blanks_skipped, behind_blanks, behind_mark, mark_at, run_of, word_front, unquoted, quoted_rest, no_fun, name_front, name_at, integer_of, with_rest, digits_front, integer_front, integer_at, below, number_at}
use Rattle.term_read.specs.TermGrammar.{of_size, part_sized, part_at, number_in, extern_rest, fun_head, class_named, class_in}
use Rattle.erl_term.specs.Term as T
use Rattle.term_read.specs.declared.flat.FunHead.{FunHead}
use Rattle.term_read.specs.declared.flat.Part.{Part}

pub skipped_shorter : (b : Bool) (cs : List ℕ) → length (blanks_skipped b cs) ≤ length cs
skipped_shorter true [] = omega arith
skipped_shorter false [] = omega arith
skipped_shorter true (c ∷ cs) = let h : length (blanks_skipped (not (eqb c 10)) cs) ≤ length cs =
    skipped_shorter (not (eqb c 10)) cs in omega (arith, h)
skipped_shorter false (c ∷ cs) = by (is_space c) (eqb c 37) (skipped_shorter false cs) (skipped_shorter true cs)
  where
    by : (b d : Bool) → length (blanks_skipped false cs) ≤ length cs → length (blanks_skipped true cs) ≤ length cs
        → length (if b then blanks_skipped false cs else if d then blanks_skipped true cs else c ∷ cs) ≤ length (c ∷ cs)
    by true d h k = omega (arith, h)
    by false true h k = omega (arith, k)
    by false false h k = omega arith

pub blanks_shorter : (cs : List ℕ) → length (behind_blanks cs) ≤ length cs
unfolding behind_blanks
blanks_shorter cs = skipped_shorter false cs

-- what a mark was taken off
pub mark_is : (ms cs ds : List ℕ) → behind_mark ms cs ≡ Some ds → cs ≡ ms ++ ds
mark_is [] cs ds e = let f : cs ≡ ds = cc in f
mark_is (m ∷ ms) [] ds e = absurd cc
mark_is (m ∷ ms) (c ∷ cs) ds e = by (eqb m c) refl e (λ f. mark_is ms cs ds f)
  where
    by : (b : Bool) → eqb m c ≡ b → (if b then behind_mark ms cs else None) ≡ Some ds
        → (behind_mark ms cs ≡ Some ds → cs ≡ ms ++ ds) → c ∷ cs ≡ m ∷ (ms ++ ds)
    by true f g h = ap₂ (λ x xs. x ∷ xs) (sym (eqb-true m c f)) (h g)
    by false f g h = absurd cc

pub mark_taken : (ms cs ds : List ℕ) → mark_at ms cs ≡ Some ds → behind_blanks cs ≡ ms ++ ds
unfolding mark_at
mark_taken ms cs ds e = mark_is ms (behind_blanks cs) ds e

pub mark_shorter : (ms cs ds : List ℕ) → mark_at ms cs ≡ Some ds → length ds ≤ length cs
mark_shorter ms cs ds e = omega (arith, blanks_shorter cs, ap length (mark_taken ms cs ds e), length-append ms ds)

-- what reads and gives what is left
abbrev pub Leaves : {A : Type 0} → (List ℕ → Option (A × List ℕ)) → Type 0
Leaves {A} p = (cs ds : List ℕ) (x : A) → p cs ≡ Some (x, ds) → length ds < length cs

abbrev taken_or : {A : Type 0} → A → Option A → A
taken_or d None = d
taken_or d (Some x) = x

pub some_same : {A : Type 0} (x y : A) → Some x ≡ Some y → x ≡ y
some_same x y e = ap (taken_or x) e

pub rest_same : {A : Type 0} (x y : A × List ℕ) → Some x ≡ Some y → x.1 ≡ y.1
rest_same x y e = ap (λ z. z.1) (some_same x y e)

-- a chain that gave something gave something at its first step
pub bound : {A B : Type 0} (r : Option A) (f : A → Option B) (y : B) → (r >>= f) ≡ Some y → (x : A) × (r ≡ Some x)
    × (f x ≡ Some y)
bound None f y e = absurd cc
bound (Some x) f y e = (x, refl, e)

pub chosen : {A : Type 0} (b : Bool) (x y : A) → (if b then Some x else None) ≡ Some y → (b ≡ true) × (x ≡ y)
chosen true x y e = (refl, some_same x y e)
chosen false x y e = absurd cc

run_shorter : (test : ℕ → Bool) (cs : List ℕ) → first_is test cs ≡ true → length (run_of test cs).1 < length cs
unfolding run_of
run_shorter test [] h = absurd cc
run_shorter test (c ∷ cs) h =
    let n : prefix_len test (c ∷ cs) ≡ 1 + prefix_len test cs = ap (λ b. cond b (1 + prefix_len test cs) 0) h in
    let m : length (take_while test (c ∷ cs)) ≡ min (prefix_len test (c ∷ cs)) (length (c ∷ cs)) =
    length-take (prefix_len test (c ∷ cs)) (c ∷ cs) in
    omega (arith, n, m, length-drop (length (take_while test (c ∷ cs))) (c ∷ cs))

word_part : (b : Bool) (w : List ℕ × List ℕ) (cs : List ℕ) (x : List ℕ × List ℕ) → (b ≡ true → length w.1 < length cs)
    → (if b then Some w else None) ≡ Some x → length x.1 < length cs
word_part true w cs x h e =
    let s : w ≡ x = some_same w x e in subst (λ (y : List ℕ × List ℕ). length y.1 < length cs) s (h refl)
word_part false w cs x h e = absurd cc

pub word_shorter : Leaves word_front
word_shorter cs ds a e = word_part (first_is is_lower cs) (run_of is_name_character cs) cs (a, ds) (λ h. names cs h) e
  where
    small_name : (c : ℕ) → is_lower c ≡ true → is_name_character c ≡ true
    small_name c h = ap (λ b. b || is_upper c || is_digit c || eqb c 95 || eqb c 64) h

    names : (cs : List ℕ) → first_is is_lower cs ≡ true → length (run_of is_name_character cs).1 < length cs
    names [] h = absurd cc
    names (c ∷ cs) h = run_shorter is_name_character (c ∷ cs) (small_name c h)

pub quoted_shorter : (quote : ℕ) (cs ds s : List ℕ) → quoted_rest quote cs ≡ Some (s, ds) → length ds ≤ length cs
unfolding quoted_rest
quoted_shorter quote cs ds s e = by (quoted_text quote cs 0) e
  where
    by : (r : Option (List ℕ × ℕ)) → unquoted r cs ≡ Some (s, ds) → length ds ≤ length cs
    by None e = absurd cc
    by (Some text) e = let f : drop text.1 cs ≡ ds =
        rest_same (text.0, drop text.1 cs) (s, ds) e in omega (arith, ap length f, length-drop text.1 cs)

kept_word : (b : Bool) (w : List ℕ × List ℕ) (cs ds a : List ℕ) → word_front cs ≡ Some w
    → (if b then None else Some w) ≡ Some (a, ds) → length ds < length cs
kept_word true w cs ds a f e = absurd cc
kept_word false w cs ds a f e =
    let g : w ≡ (a, ds) = some_same w (a, ds) e in word_shorter cs ds a (f ∙ ap (λ x. Some x) g)

pub name_front_shorter : Leaves name_front
name_front_shorter [] ds a e = absurd cc
name_front_shorter (c ∷ cs) ds a e = by (eqb c 39) e
  where
    plain : (r : Option (List ℕ × List ℕ)) → word_front (c ∷ cs) ≡ r → no_fun r ≡ Some (a, ds)
        → length ds < length (c ∷ cs)
    plain None f e = absurd cc
    plain (Some w) f e = kept_word (same_name (codes "fun") w.0) w (c ∷ cs) ds a f e

    by : (b : Bool) → (if b then quoted_rest 39 cs else no_fun (word_front (c ∷ cs))) ≡ Some (a, ds)
        → length ds < length (c ∷ cs)
    by true e = let h : length ds ≤ length cs = quoted_shorter 39 cs ds a e in omega (arith, h)
    by false e = plain (word_front (c ∷ cs)) refl e

pub name_shorter : Leaves name_at
unfolding name_at
name_shorter cs ds a e = omega (arith, name_front_shorter (behind_blanks cs) ds a e, blanks_shorter cs)

digits_shorter : (minus : Bool) → Leaves (digits_front minus)
unfolding digits_front
digits_shorter minus cs ds z e = by (first_is is_digit cs) refl e
  where
    inside : (r : Option ℤ) (es : List ℕ) → with_rest r es ≡ Some (z, ds) → es ≡ ds
    inside None es e = absurd cc
    inside (Some y) es e = rest_same (y, es) (z, ds) e

    by : (b : Bool) → first_is is_digit cs ≡ b
        → (if b then with_rest (integer_of minus (value_from 10 0 (run_of is_digit cs).0)) (run_of is_digit cs).1
        else None) ≡ Some (z, ds)
        → length ds < length cs
    by true h e = subst (λ es. length es < length cs) (inside _ _ e) (run_shorter is_digit cs h)
    by false h e = absurd cc

pub integer_front_shorter : Leaves integer_front
integer_front_shorter [] ds z e = absurd cc
integer_front_shorter (c ∷ cs) ds z e = by (is_sign c) e
  where
    by : (b : Bool) → (if b then digits_front (eqb c 45) cs else digits_front false (c ∷ cs)) ≡ Some (z, ds)
        → length ds < length (c ∷ cs)
    by true e = let h : length ds < length cs = digits_shorter (eqb c 45) cs ds z e in omega (arith, h)
    by false e = digits_shorter false (c ∷ cs) ds z e

pub number_shorter : (bound : ℕ) → Leaves (number_at bound)
unfolding number_at integer_at
number_shorter limit cs ds n e =
    let x = bound (integer_front (behind_blanks cs)) (below limit) (n, ds) e in
    same_rest x.0 x.2 (integer_front_shorter (behind_blanks cs) (x.0).1 (x.0).0 x.1)
  where
    rest : (z : ℤ) (es : List ℕ) → below limit (z, es) ≡ Some (n, ds) → es ≡ ds
    rest (pos m) es e = let f = chosen (ltb m limit) (m, es) (n, ds) e in ap (λ (y : ℕ × List ℕ). y.1) f.1
    rest (negsuc m) es e = absurd cc

    same_rest : (x : ℤ × List ℕ) → below limit x ≡ Some (n, ds) → length x.1 < length (behind_blanks cs)
        → length ds < length cs
    same_rest x e h = omega (arith, ap length (rest x.0 x.1 e), h, blanks_shorter cs)

pub part_shorter : Leaves part_at
unfolding part_at
part_shorter cs ds p e =
    let x = bound (number_at 256 cs) (λ n. part_sized n (mark_at (codes ":") n.1)) (p, ds) e in
    let h : length (x.0).1 < length cs = number_shorter 256 cs (x.0).1 (x.0).0 x.1 in
    by x.0 (mark_at (codes ":") (x.0).1) refl x.2 h
  where
    size : (n : ℕ) (es : List ℕ) (r : Option (ℕ × List ℕ)) → number_at 8 es ≡ r → of_size n r ≡ Some (p, ds)
        → length ds < length es
    size n es None f e = absurd cc
    size n es (Some k) f e =
        let same = chosen (leb 1 k.0 && ltb n (2 ^ k.0)) (record { number = n; size = k.0 }, k.1) (p, ds) e in
        subst (λ fs. length fs < length es) (ap (λ (y : Part × List ℕ). y.1) same.1) (number_shorter 8 es k.1 k.0 f)

    by : (n : ℕ × List ℕ) (r : Option (List ℕ)) → mark_at (codes ":") n.1 ≡ r → part_sized n r ≡ Some (p, ds)
        → length n.1 < length cs → length ds < length cs
    by n None f e h = let g : n.1 ≡ ds =
        rest_same (record { number = n.0; size = 8 }, n.1) (p, ds) e in omega (arith, ap length g, h)
    by n (Some es) f e h = let g : length ds < length es =
        size n.0 es (number_at 8 es) refl e in omega (arith, g, mark_shorter (codes ":") n.1 es f, h)

-- Chains of parts: what is left behind each.

-- a mark that must stand behind what was read
abbrev with_end : {A : Type 0} → A → List ℕ → Option (A × List ℕ)
with_end n fs = Some (n, fs)

closed : {A : Type 0} (n : A) (es ds : List ℕ) (m : List ℕ) (x : A) → (mark_at m es >>= with_end n) ≡ Some (x, ds)
    → length ds ≤ length es
closed {A} n es ds m x e =
    let y = bound (mark_at m es) (with_end n) (x, ds) e in
    let f : y.0 ≡ ds = rest_same {A = A} (n, y.0) (x, ds) y.2 in
    omega (arith, mark_shorter m es y.0 y.1, ap length f)

pub number_in_shorter : (limit : ℕ) → Leaves (number_in limit)
unfolding number_in
number_in_shorter limit cs ds n e =
    let x = bound (number_at limit cs) (λ n. mark_at (codes ">") n.1 >>= λ es. Some (n.0, es)) (n, ds) e in
    omega (arith, number_shorter limit cs (x.0).1 (x.0).0 x.1, closed (x.0).0 (x.0).1 ds (codes ">") n x.2)

pub class_shorter : Leaves class_in
unfolding class_in
class_shorter cs ds c e =
    let w = bound (word_front (behind_blanks cs))
    (λ w. class_named w.0 >>= λ c. mark_at (codes ">") w.1 >>= λ es. Some (c, es)) (c, ds) e in
    let k = bound (class_named (w.0).0) (λ c. mark_at (codes ">") (w.0).1 >>= λ es. Some (c, es)) (c, ds) w.2 in
    omega (
      arith,
      word_shorter (behind_blanks cs) (w.0).1 (w.0).0 w.1,
      closed k.0 (w.0).1 ds (codes ">") c k.2,
      blanks_shorter cs,
    )

pub extern_shorter : Leaves extern_rest
unfolding extern_rest
extern_shorter cs ds t e =
    let m = bound (name_at cs) (λ m. mark_at (codes ":") m.1 >>= λ ds. name_at ds >>= λ f. mark_at (codes "/") f.1
    >>= λ es. number_at (2 ^ 32) es >>= λ n. Some (T.extern m.0 f.0 n.0, n.1)) (t, ds) e in
    let a = bound (mark_at (codes ":") (m.0).1)
    (λ ds. name_at ds >>= λ f. mark_at (codes "/") f.1 >>= λ es. number_at (2 ^ 32) es
    >>= λ n. Some (T.extern (m.0).0 f.0 n.0, n.1)) (t, ds) m.2 in
    let f = bound (name_at a.0)
    (λ f. mark_at (codes "/") f.1 >>= λ es. number_at (2 ^ 32) es >>= λ n. Some (T.extern (m.0).0 f.0 n.0, n.1))
    (t, ds) a.2 in
    let b = bound (mark_at (codes "/") (f.0).1)
    (λ es. number_at (2 ^ 32) es >>= λ n. Some (T.extern (m.0).0 (f.0).0 n.0, n.1)) (t, ds) f.2 in
    let n = bound (number_at (2 ^ 32) b.0) (λ n. Some (T.extern (m.0).0 (f.0).0 n.0, n.1)) (t, ds) b.2 in
    omega (
      arith,
      name_shorter cs (m.0).1 (m.0).0 m.1,
      mark_shorter (codes ":") (m.0).1 a.0 a.1,
      name_shorter a.0 (f.0).1 (f.0).0 f.1,
      mark_shorter (codes "/") (f.0).1 b.0 b.1,
      number_shorter (2 ^ 32) b.0 (n.0).1 (n.0).0 n.1,
      ap length (rest_same (T.extern (m.0).0 (f.0).0 (n.0).0, (n.0).1) (t, ds) n.2),
    )

-- the head of a local fun, from each comma on
abbrev arity_chain : (ℕ → FunHead) → List ℕ → Option (FunHead × List ℕ)
arity_chain h cs = number_at (2 ^ 32) cs >>= λ n. mark_at (codes ",") n.1 >>= λ fs. mark_at (codes "[") fs
    >>= λ gs. Some (h n.0, gs)

abbrev site_chain : (ℕ → ℕ → FunHead) → List ℕ → Option (FunHead × List ℕ)
site_chain h cs = number_at (2 ^ 32) cs >>= λ s. mark_at (codes ",") s.1 >>= λ es. arity_chain (h s.0) es

arity_part : (h : ℕ → FunHead) (cs ds : List ℕ) (x : FunHead) → arity_chain h cs ≡ Some (x, ds) → length ds ≤ length cs
arity_part h cs ds x e =
    let n = bound (number_at (2 ^ 32) cs) (λ n. mark_at (codes ",") n.1 >>= λ fs. mark_at (codes "[") fs
    >>= λ gs. Some (h n.0, gs)) (x, ds) e in
    let a = bound (mark_at (codes ",") (n.0).1) (λ fs. mark_at (codes "[") fs >>= λ gs. Some (h (n.0).0, gs))
    (x, ds) n.2 in
    omega (
      arith,
      number_shorter (2 ^ 32) cs (n.0).1 (n.0).0 n.1,
      mark_shorter (codes ",") (n.0).1 a.0 a.1,
      closed (h (n.0).0) a.0 ds (codes "[") x a.2,
    )

site_part : (h : ℕ → ℕ → FunHead) (cs ds : List ℕ) (x : FunHead) → site_chain h cs ≡ Some (x, ds)
    → length ds ≤ length cs
site_part h cs ds x e =
    let s = bound (number_at (2 ^ 32) cs) (λ s. mark_at (codes ",") s.1 >>= λ es. arity_chain (h s.0) es) (x, ds) e in
    let a = bound (mark_at (codes ",") (s.0).1) (arity_chain (h (s.0).0)) (x, ds) s.2 in
    omega (
      arith,
      number_shorter (2 ^ 32) cs (s.0).1 (s.0).0 s.1,
      mark_shorter (codes ",") (s.0).1 a.0 a.1,
      arity_part (h (s.0).0) a.0 ds x a.2,
    )

abbrev head_of : Name → ℕ → ℕ → FunHead
head_of m s n = record { home = m; site = s; arity = n }

pub fun_head_shorter : Leaves fun_head
unfolding fun_head
fun_head_shorter cs ds x e =
    let m = bound (name_at cs) (λ m. mark_at (codes ",") m.1 >>= λ es. site_chain (head_of m.0) es) (x, ds) e in
    let a = bound (mark_at (codes ",") (m.0).1) (site_chain (head_of (m.0).0)) (x, ds) m.2 in
    omega (
      arith,
      name_shorter cs (m.0).1 (m.0).0 m.1,
      mark_shorter (codes ",") (m.0).1 a.0 a.1,
      site_part (head_of (m.0).0) a.0 ds x a.2,
    )
