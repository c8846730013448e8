-- Induction along the words that are taken.
use Rattle.std.proofs.Common.{◌≡◌, Bool, List, [], ◌∷◌, true, false, refl, codes, Some, None, Option, subst, length, arith, ◌≤◌}
use Rattle.std.specs.Str.{bytes_eq}
use Rattle.clap.specs.Walk.{Text}
use Rattle.erlc_cli.specs.Actions.{is_flag, taken}

-- what holds of words and of what is taken of them, case by case
pub record Cases (Holds : List Text → List Text → Type 0) : Type 0 where
  pub none : Holds [] []
  pub dashes : (word : Text) (words : List Text) → bytes_eq word (codes "--") ≡ true → Holds (word ∷ words) words
  pub plain : (word : Text) (words rest : List Text) → bytes_eq word (codes "--") ≡ false → is_flag word ≡ false
      → Holds words rest → Holds (word ∷ words) (word ∷ rest)

-- by what the first word is
by_word : (Holds : List Text → List Text → Type 0) → Cases Holds → (word : Text) (words : List Text)
    → ((rest : List Text) → taken words ≡ Some rest → Holds words rest)
    → (rest : List Text) → taken (word ∷ words) ≡ Some rest
    → (dashes : Bool) → bytes_eq word (codes "--") ≡ dashes → (flag : Bool) → is_flag word ≡ flag
    → (more : Option (List Text)) → taken words ≡ more → Holds (word ∷ words) rest
by_word Holds cases word words before rest there true d flag f more m =
    let same : Some words ≡ Some rest = rw d at there in
    let e : words ≡ rest = cc in subst (λ r. Holds (word ∷ words) r) e (cases.dashes word words d)
by_word Holds cases word words before rest there false d true f more m =
    let bad : None ≡ Some rest = rw (d, f) at there in absurd cc
by_word Holds cases word words before rest there false d false f None m =
    let bad : None ≡ Some rest = rw (d, f, m) at there in absurd cc
by_word Holds cases word words before rest there false d false f (Some more) m =
    let same : Some (word ∷ more) ≡ Some rest = rw (d, f, m) at there in
    let e : word ∷ more ≡ rest = cc in
    subst (λ r. Holds (word ∷ words) r) e (cases.plain word words more d f (before more m))

-- what the cases say holds of all words that are taken
pub by_taken : (Holds : List Text → List Text → Type 0) → Cases Holds → (words rest : List Text)
    → taken words ≡ Some rest → Holds words rest
by_taken Holds cases [] rest there =
    let same : Some [] ≡ Some rest = there in let e : [] ≡ rest = cc in subst (λ r. Holds [] r) e cases.none
by_taken Holds cases (word ∷ words) rest there =
    by_word Holds cases word words (by_taken Holds cases words) rest there
    (bytes_eq word (codes "--")) refl (is_flag word) refl (taken words) refl

-- no more words are taken than there are
pub taken_length : (words rest : List Text) → taken words ≡ Some rest → length rest ≤ length words
taken_length =
    by_taken (λ words rest. length rest ≤ length words) (record {
      none = omega arith;
      dashes = λ word words d. omega arith;
      plain = λ word words rest d f at_most. omega (arith, at_most);
    })
