-- The first items of a list, and the others.
use Rattle.std.proofs.Common.{◌≡◌, ◌≤◌, ◌-◌, ℕ, List, [], ◌∷◌, length, take, drop, get_or, ◌<◌, ◌+◌, sym, ap, ◌∙◌, add-one, drop-cons, arith}
use Rattle.std.proofs.lemmas.List.{take_all, length-take, length-drop}

module _ {A : Type 0} where
  -- what a slice pattern binds behind its first n items
  abbrev pub behind : ℕ → List A → List A
  behind n ts = take (length ts - n) (drop n ts)

  -- what a loop comes to next
  pub next : (xs : List A) (i : ℕ) (x : A) → i < length xs → x ≡ get_or xs i x → drop i xs ≡ x ∷ drop (i + 1) xs
  next xs i x h e = let d : drop i xs ≡ get_or xs i x ∷ drop (i + 1) xs =
      rw (add-one, drop-cons xs i x) in d ∙ ap (λ y. y ∷ drop (i + 1) xs) (sym e)

  pub length-behind : (n : ℕ) (ts : List A) → length (behind n ts) ≤ length ts
  length-behind n ts = omega (arith, length-take (length ts - n) (drop n ts), length-drop n ts)

  pub front1 : (ts : List A) (a : A) → 1 ≤ length ts → a ≡ get_or ts 0 a → ts ≡ a ∷ behind 1 ts
  front1 [] a h e = absurd (omega arith)
  front1 (x ∷ ts) a h e = let t : take (length (x ∷ ts) - 1) ts ≡ ts = take_all _ ts (omega arith) in cc

  pub front2 : (ts : List A) (a b : A) → 2 ≤ length ts → a ≡ get_or ts 0 a → b ≡ get_or ts 1 b
      → ts ≡ a ∷ b ∷ behind 2 ts
  front2 [] a b h e f = absurd (omega arith)
  front2 (x ∷ []) a b h e f = absurd (omega arith)
  front2 (x ∷ y ∷ ts) a b h e f = let t : take (length (x ∷ y ∷ ts) - 2) ts ≡ ts = take_all _ ts (omega arith) in cc

  pub front3 : (ts : List A) (a b c : A) → 3 ≤ length ts → a ≡ get_or ts 0 a → b ≡ get_or ts 1 b → c ≡ get_or ts 2 c
      → ts ≡ a ∷ b ∷ c ∷ behind 3 ts
  front3 [] a b c h e f g = absurd (omega arith)
  front3 (x ∷ []) a b c h e f g = absurd (omega arith)
  front3 (x ∷ y ∷ []) a b c h e f g = absurd (omega arith)
  front3 (x ∷ y ∷ z ∷ ts) a b c h e f g =
      let t : take (length (x ∷ y ∷ z ∷ ts) - 3) ts ≡ ts = take_all _ ts (omega arith) in cc

  pub front4 : (ts : List A) (a b c d : A) → 4 ≤ length ts → a ≡ get_or ts 0 a → b ≡ get_or ts 1 b → c ≡ get_or ts 2 c
      → d ≡ get_or ts 3 d →
      ts ≡ a ∷ b ∷ c ∷ d ∷ behind 4 ts
  front4 [] a b c d n e f g h = absurd (omega arith)
  front4 (x ∷ []) a b c d n e f g h = absurd (omega arith)
  front4 (x ∷ y ∷ []) a b c d n e f g h = absurd (omega arith)
  front4 (x ∷ y ∷ z ∷ []) a b c d n e f g h = absurd (omega arith)
  front4 (x ∷ y ∷ z ∷ w ∷ ts) a b c d n e f g h =
      let t : take (length (x ∷ y ∷ z ∷ w ∷ ts) - 4) ts ≡ ts = take_all _ ts (omega arith) in cc

  pub front6 : (ts : List A) (a b c d p q : A) → 6 ≤ length ts → a ≡ get_or ts 0 a → b ≡ get_or ts 1 b
      → c ≡ get_or ts 2 c → d ≡ get_or ts 3 d →
      p ≡ get_or ts 4 p → q ≡ get_or ts 5 q → ts ≡ a ∷ b ∷ c ∷ d ∷ p ∷ q ∷ behind 6 ts
  front6 [] a b c d p q n e f g h i j = absurd (omega arith)
  front6 (x ∷ []) a b c d p q n e f g h i j = absurd (omega arith)
  front6 (x ∷ y ∷ []) a b c d p q n e f g h i j = absurd (omega arith)
  front6 (x ∷ y ∷ z ∷ []) a b c d p q n e f g h i j = absurd (omega arith)
  front6 (x ∷ y ∷ z ∷ w ∷ []) a b c d p q n e f g h i j = absurd (omega arith)
  front6 (x ∷ y ∷ z ∷ w ∷ u ∷ []) a b c d p q n e f g h i j = absurd (omega arith)
  front6 (x ∷ y ∷ z ∷ w ∷ u ∷ v ∷ ts) a b c d p q n e f g h i j =
      let t : take (length (x ∷ y ∷ z ∷ w ∷ u ∷ v ∷ ts) - 6) ts ≡ ts = take_all _ ts (omega arith) in cc
