-- A quoted text, read on from within it.
use Rattle.std.proofs.Common.{◌≡◌, ℕ, zero, suc, ◌+◌, ◌-◌, ◌<◌, ◌≤◌, Option, Some, None, List, [], ◌∷◌, ◌++◌, length, drop, refl, sym, ap, ◌∙◌, arith, append_assoc, false, cond, eqb}
use Rattle.std.proofs.lemmas.List.{drop-drop}
use Rattle.core_chars.specs.Escapes.{quoted_char}
use Rattle.core_chars.specs.Quoted.{quoted_text, one_longer, with_char, more_of}

-- what was read of a quoted text, before what is left of it
abbrev pub behind : List ℕ → ℕ → Option (List ℕ × ℕ) → Option (List ℕ × ℕ)
behind text n None = None
behind text n (Some found) = Some (text ++ found.0, n + found.1)

longer : (n : ℕ) (r : Option (List ℕ × ℕ)) → one_longer (behind [] n r) ≡ behind [] (suc n) r
longer n None = refl
longer n (Some found) = ap (λ k. Some (found.0, k)) (let e : n + found.1 + 1 ≡ suc n + found.1 = omega arith in e)

-- characters that belong to what was read are passed over
pub passed_over : (quote n : ℕ) (cs : List ℕ) → n ≤ length cs
    → quoted_text quote cs n ≡ behind [] n (quoted_text quote (drop n cs) 0)
passed_over quote zero cs h = elim (quoted_text quote cs 0) as (λ r. r ≡ behind [] 0 r) [
  | None ↦ refl
  | Some found ↦ ap (λ k. Some (found.0, k)) (let e : found.1 ≡ 0 + found.1 = omega arith in e)
]
passed_over quote (suc n) [] h = refl
passed_over quote (suc n) (c ∷ cs) h =
    ap one_longer (passed_over quote n cs (omega arith)) ∙ longer n (quoted_text quote (drop n cs) 0)

joined : (text : List ℕ) (at n k : ℕ) → 0 < k → (r : Option (List ℕ × ℕ))
    → behind text at (with_char (Some (n, k)) (behind [] (k - 1) r)) ≡ behind (text ++ n ∷ []) (at + k) r
joined text at n k h None = refl
joined text at n k h (Some found) =
    ap (λ t. Some (t, at + (k - 1 + found.1 + 1))) (sym (append_assoc text (n ∷ []) found.0))
    ∙ ap (λ m. Some (text ++ n ∷ [] ++ found.0, m))
    (let e : at + (k - 1 + found.1 + 1) ≡ at + k + found.1 = omega arith in e)

-- the text at a character that is no closing quote
at_char : (quote c n k : ℕ) (cs : List ℕ) → eqb c quote ≡ false → quoted_char (c ∷ cs) ≡ Some (n, k)
    → k ≤ length (c ∷ cs)
    → quoted_text quote (c ∷ cs) 0 ≡ with_char (Some (n, k)) (behind [] (k - 1) (quoted_text quote (drop (k - 1) cs) 0))
at_char quote c n k cs e f h =
    ap (λ b. cond b (Some ([], 1))
    (with_char (quoted_char (c ∷ cs)) (quoted_text quote cs (more_of (quoted_char (c ∷ cs)))))) e
    ∙ ap (λ r. with_char r (quoted_text quote cs (more_of r))) f
    ∙ ap (with_char (Some (n, k))) (passed_over quote (k - 1) cs (omega arith))

rest_of : (c k : ℕ) (cs xs : List ℕ) → 0 < k → xs ≡ c ∷ cs → drop k xs ≡ drop (k - 1) cs
rest_of c zero cs xs h e = absurd (omega arith)
rest_of c (suc k) cs xs h e = ap (drop (suc k)) e ∙ ap (λ n. drop n cs) (let f : k ≡ suc k - 1 = omega arith in f)

-- one character more was read
pub read_more : (quote at c n k : ℕ) (text whole cs : List ℕ) (total : Option (List ℕ × ℕ)) → drop at whole ≡ c ∷ cs
    → eqb c quote ≡ false
    → quoted_char (drop at whole) ≡ Some (n, k) → 0 < k → k ≤ length (drop at whole)
    → behind text at (quoted_text quote (drop at whole) 0) ≡ total
    → behind (text ++ n ∷ []) (at + k) (quoted_text quote (drop (at + k) whole) 0) ≡ total
read_more quote at c n k text whole cs total e other read pos fits all =
    ap (λ xs. behind (text ++ n ∷ []) (at + k) (quoted_text quote xs 0))
    (sym (drop-drop k at whole) ∙ rest_of c k cs (drop at whole) pos e)
    ∙ sym (joined text at n k pos (quoted_text quote (drop (k - 1) cs) 0))
    ∙ ap (behind text at) (sym
    (at_char quote c n k cs other (ap quoted_char (sym e) ∙ read)
    (let l : length (drop at whole) ≡ length (c ∷ cs) = ap length e in omega arith)))
    ∙ ap (λ xs. behind text at (quoted_text quote xs 0)) (sym e) ∙ all
