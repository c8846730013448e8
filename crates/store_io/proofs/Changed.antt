-- What a store in memory tells after one slot was written.
use Rattle.std.proofs.Common.{◌≡◌, ◌≢◌, ℕ, List, Option, None, Some, cond, refl, sym, ap, ◌∙◌, string_bytes, rules, inl, inr, subst, String, Global, Result, Ok, Err, OnErr}
use Rattle.std.proofs.lemmas.Bool.{cases_Bool}
use Rattle.std.specs.Str.{bytes_eq}
use Rattle.std.specs.String.{string_cmp}
use Rattle.std.specs.Ordering.{nat_cmp}
use Rattle.std.specs.Cmp.Lexicographic.{slice_cmp}
use Rattle.std.specs.BTreeMap.{get_by_text, UpdatesBy}
use Rattle.std.proofs.lemmas.Map.Text.{btree_map_updates_text}
use Rattle.std.proofs.lemmas.Slice.Eq.{bytes_eq-Decides}
use Rattle.store_io.specs.declared.slot.Slot.{Slot}
use Rattle.store_io.specs.Slots.{Slots, in_slot}

pub changed_at : (name : List ℕ) (m m' : Slots) (s : Slot)
    → UpdatesBy string_cmp (λ k. slice_cmp nat_cmp name (string_bytes k)) m m' (Some s)
    → get_by_text m' name ≡ Some s
changed_at name m m' s u = btree_map_updates_text name m m' (Some s) u name ∙ search (rules, bytes_eq-Decides)

pub changed_others : (name : List ℕ) (m m' : Slots) (s : Slot)
    → UpdatesBy string_cmp (λ k. slice_cmp nat_cmp name (string_bytes k)) m m' (Some s)
    → (n : List ℕ) → n ≢ name → get_by_text m' n ≡ get_by_text m n
changed_others name m m' s u n other = btree_map_updates_text name m m' (Some s) u n ∙ search (rules, bytes_eq-Decides)

-- Everything that a slot tells, after it was written.
pub others_stay : {A : Type 0} (f : Slot → Option A) (name : List ℕ) (m m' : Slots) (s : Slot)
    → UpdatesBy string_cmp (λ k. slice_cmp nat_cmp name (string_bytes k)) m m' (Some s)
    → (n : List ℕ) → n ≢ name → in_slot f (get_by_text m' n) ≡ in_slot f (get_by_text m n)
others_stay f name m m' s u n other = ap (in_slot f) (changed_others name m m' s u n other)

pub named_has : {A : Type 0} (f : Slot → Option A) (name : List ℕ) (m m' : Slots) (s : Slot)
    → UpdatesBy string_cmp (λ k. slice_cmp nat_cmp name (string_bytes k)) m m' (Some s)
    → in_slot f (get_by_text m' name) ≡ f s
named_has f name m m' s u = ap (in_slot f) (changed_at name m m' s u)

pub stays_if : {A : Type 0} (f : Slot → Option A) (name : List ℕ) (m m' : Slots) (new : Slot)
    → UpdatesBy string_cmp (λ k. slice_cmp nat_cmp name (string_bytes k)) m m' (Some new)
    → f new ≡ in_slot f (get_by_text m name)
    → (n : List ℕ) → in_slot f (get_by_text m' n) ≡ in_slot f (get_by_text m n)
stays_if f name m m' new u same n =
    elim (cases_Bool (bytes_eq name n)) [
      | inl h ↦
          let e : name ≡ n = search (rules, bytes_eq-Decides) in
          let P : List ℕ → Type 0 = λ k. in_slot f (get_by_text m' k) ≡ in_slot f (get_by_text m k) in
          subst P e (named_has f name m m' new u ∙ same)
      | inr h ↦ ap (in_slot f)
          (btree_map_updates_text name m m' (Some new) u n ∙ ap (λ b. cond b (Some new) (get_by_text m n)) h)
    ]

pub all_stay : {A : Type 0} (f : Slot → Option A) (name : List ℕ) (m m' : Slots) (old new : Slot)
    → UpdatesBy string_cmp (λ k. slice_cmp nat_cmp name (string_bytes k)) m m' (Some new)
    → get_by_text m name ≡ Some old → f new ≡ f old
    → (n : List ℕ) → in_slot f (get_by_text m' n) ≡ in_slot f (get_by_text m n)
all_stay f name m m' old new u was same = stays_if f name m m' new u (same ∙ sym (ap (in_slot f) was))

-- a name that isn't known has no slot, so it has nothing
pub unknown_has : {A : Type 0} (f : Slot → Option A) (o : Option Slot) → in_slot (λ s. Some s.room) o ≡ None
    → in_slot f o ≡ None
unknown_has f None e = refl
unknown_has f (Some s) e = cc

-- a key that has the characters of a name stands for it
pub updates_at : (name : List ℕ) (key : String Global) (m m' : Slots) (s : Slot) → string_bytes key ≡ name
    → UpdatesBy string_cmp (λ k. slice_cmp nat_cmp (string_bytes key) (string_bytes k)) m m' (Some s)
    → UpdatesBy string_cmp (λ k. slice_cmp nat_cmp name (string_bytes k)) m m' (Some s)
updates_at name key m m' s e u =
    subst (λ (n : List ℕ). UpdatesBy string_cmp (λ k. slice_cmp nat_cmp n (string_bytes k)) m m' (Some s)) e u

pub on_err_then : {A E : Type 0} (r : Result A E) (P Q : Type 0) → (P → Q) → OnErr r P → OnErr r Q
on_err_then (Ok a) P Q f h = tt
on_err_then (Err e) P Q f h = f h
