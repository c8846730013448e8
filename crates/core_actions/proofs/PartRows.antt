-- Parts of bit strings, one after the other.
use Rattle.std.proofs.Common.{◌≡◌, refl, sym, ap, ◌∙◌, subst, ℕ, ◌^◌, ◌<◌, ◌≤◌, List, [], ◌∷◌, ◌++◌, append_assoc, append-nil, Bool, true, IsTrue, nat_eq}
use Rattle.std.proofs.lemmas.Bool.{le-leb, lt-ltb}
use Rattle.std.specs.List.{list_all}
use Rattle.erl_term.specs.BitString.{bits_of}
use Rattle.erl_term.proofs.Forms.{left_true, right_true, both_true}
use Rattle.term_read.specs.declared.flat.Part.{Part}
use Rattle.term_read.specs.BitParts.{AreParts, is_part}
use Rattle.term_read.specs.TermGrammar.{bits_in, whole_before_last}

pub part_fits : (p : Part) (n s : ℕ) → p ≡ record { number = n; size = s } → 1 ≤ s → s ≤ 8 → n < 2 ^ s
    → IsTrue (is_part p)
part_fits p n s e h k l =
    subst (λ q. IsTrue (is_part q)) (sym e) (both_true _ _ (both_true _ _ (le-leb 1 s h) (le-leb s 8 k)) (lt-ltb n
    (2 ^ s) l))

-- one part more
bits_more : (ps : List Part) (p : Part) → bits_in (ps ++ p ∷ []) ≡ bits_in ps ++ bits_of p.size p.number
bits_more [] p = append-nil (bits_of p.size p.number)
bits_more (q ∷ ps) p =
    ap (λ bs. bits_of q.size q.number ++ bs) (bits_more ps p)
    ∙ sym (append_assoc (bits_of q.size q.number) (bits_in ps) (bits_of p.size p.number))

pub part_read : (ps new : List Part) (p : Part) (first rest left all : List Bool) → new ≡ ps ++ p ∷ []
    → bits_of p.size p.number ≡ first → left ≡ first ++ rest → bits_in ps ++ left ≡ all
    → bits_in new ++ rest ≡ all
part_read ps new p first rest left all e f g h =
    ap (λ qs. bits_in qs ++ rest) e ∙ ap (λ bs. bs ++ rest) (bits_more ps p)
    ∙ append_assoc (bits_in ps) (bits_of p.size p.number) rest
    ∙ ap (λ bs. bits_in ps ++ (bs ++ rest)) f ∙ ap (λ bs. bits_in ps ++ bs) (sym g) ∙ h

pub last_part_read : (ps new : List Part) (p : Part) (left all : List Bool) → new ≡ ps ++ p ∷ []
    → bits_of p.size p.number ≡ left → bits_in ps ++ left ≡ all → bits_in new ≡ all
last_part_read ps new p left all e f h =
    ap bits_in e ∙ bits_more ps p ∙ ap (λ bs. bits_in ps ++ bs) f ∙ h

all_more : {A : Type 0} (f : A → Bool) (xs : List A) (x : A) → IsTrue (list_all f xs) → IsTrue (f x)
    → IsTrue (list_all f (xs ++ x ∷ []))
all_more f [] x h k = both_true (f x) true k refl
all_more f (y ∷ xs) x h k =
    both_true (f y) _ (left_true (f y) (list_all f xs) h) (all_more f xs x (right_true (f y) (list_all f xs) h) k)

pub all_parts : (ps new : List Part) (p : Part) → new ≡ ps ++ p ∷ [] → AreParts ps → IsTrue (is_part p) → AreParts new
all_parts ps new p e h k = subst AreParts (sym e) (all_more is_part ps p h k)

abbrev is_byte : Part → Bool
is_byte p = nat_eq p.size 8

pub all_bytes : (ps new : List Part) (p : Part) → new ≡ ps ++ p ∷ [] → IsTrue (list_all (λ q. nat_eq q.size 8) ps)
    → p.size ≡ 8 → IsTrue (list_all (λ q. nat_eq q.size 8) new)
all_bytes ps new p e h k =
    subst (λ qs. IsTrue (list_all (λ q. nat_eq q.size 8) qs)) (sym e)
    (all_more is_byte ps p h (ap (λ n. nat_eq n 8) k))

bytes_then : (ps : List Part) (p : Part) → IsTrue (list_all is_byte ps) → IsTrue (whole_before_last (ps ++ p ∷ []))
bytes_then [] p h = refl
bytes_then (q ∷ []) p h = both_true (is_byte q) true (left_true (is_byte q) true h) refl
bytes_then (q ∷ r ∷ ps) p h =
    both_true (is_byte q) _ (left_true (is_byte q) (list_all is_byte (r ∷ ps)) h)
    (bytes_then (r ∷ ps) p (right_true (is_byte q) (list_all is_byte (r ∷ ps)) h))

pub bytes_and_last : (ps new : List Part) (p : Part) → new ≡ ps ++ p ∷ [] → IsTrue (list_all (λ q. nat_eq q.size 8) ps)
    → IsTrue (whole_before_last new)
bytes_and_last ps new p e h = subst (λ qs. IsTrue (whole_before_last qs)) (sym e) (bytes_then ps p h)

pub bytes_alone : (ps : List Part) → IsTrue (list_all (λ q. nat_eq q.size 8) ps) → IsTrue (whole_before_last ps)
bytes_alone [] h = refl
bytes_alone (q ∷ []) h = refl
bytes_alone (q ∷ r ∷ ps) h =
    both_true (is_byte q) _ (left_true (is_byte q) (list_all is_byte (r ∷ ps)) h)
    (bytes_alone (r ∷ ps) (right_true (is_byte q) (list_all is_byte (r ∷ ps)) h))
