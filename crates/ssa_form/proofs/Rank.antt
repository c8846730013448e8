-- How much a run has left: entries, replies, messages, and messages ahead of the save place, in this order.
use Rattle.std.proofs.Common.{◌≡◌, ◌≤◌, ◌<◌, ◌⊎◌, inl, inr, ⊎_elim, ℕ, zero, suc, ◌+◌, ◌-◌, length, Option, Some, None, refl, sym, subst, arith, slice_get}
use Rattle.world_model.specs.World.{Message}
use Rattle.world_model.specs.Run.{State}
use Rattle.ssa_form.specs.Storage.{Frame}

pub record Rank : Type 0 where
  pub left : ℕ
  pub replies : ℕ
  pub mailbox : ℕ
  pub ahead : ℕ

pub data Lower (a b : Rank) : Type 0 where
  by_left : a.left < b.left → Lower a b
  by_replies : a.left ≡ b.left → a.replies < b.replies → Lower a b
  by_mailbox : a.left ≡ b.left → a.replies ≡ b.replies → a.mailbox < b.mailbox → Lower a b
  by_ahead : a.left ≡ b.left → a.replies ≡ b.replies → a.mailbox ≡ b.mailbox → a.ahead < b.ahead → Lower a b

pub data AtMost (a b : Rank) : Type 0 where
  lower : Lower a b → AtMost a b
  same : a.left ≡ b.left → a.replies ≡ b.replies → a.mailbox ≡ b.mailbox → a.ahead ≡ b.ahead → AtMost a b

pub lower_same : (a b c : Rank) → b.left ≡ c.left → b.replies ≡ c.replies → b.mailbox ≡ c.mailbox → b.ahead ≡ c.ahead
    → Lower a b → Lower a c
lower_same a b c e f g h (by_left l) = by_left (omega (arith, l, e))
lower_same a b c e f g h (by_replies p l) = by_replies (omega (arith, p, e)) (omega (arith, l, f))
lower_same a b c e f g h (by_mailbox p q l) =
    by_mailbox (omega (arith, p, e)) (omega (arith, q, f)) (omega (arith, l, g))
lower_same a b c e f g h (by_ahead p q r l) =
    by_ahead (omega (arith, p, e)) (omega (arith, q, f)) (omega (arith, r, g)) (omega (arith, l, h))

pub same_lower : (a b c : Rank) → a.left ≡ b.left → a.replies ≡ b.replies → a.mailbox ≡ b.mailbox → a.ahead ≡ b.ahead
    → Lower b c → Lower a c
same_lower a b c e f g h (by_left l) = by_left (omega (arith, l, e))
same_lower a b c e f g h (by_replies p l) = by_replies (omega (arith, p, e)) (omega (arith, l, f))
same_lower a b c e f g h (by_mailbox p q l) =
    by_mailbox (omega (arith, p, e)) (omega (arith, q, f)) (omega (arith, l, g))
same_lower a b c e f g h (by_ahead p q r l) =
    by_ahead (omega (arith, p, e)) (omega (arith, q, f)) (omega (arith, r, g)) (omega (arith, l, h))

pub lower_twice : (a b c : Rank) → Lower a b → Lower b c → Lower a c
lower_twice a b c (by_left l) (by_left m) = by_left (omega (arith, l, m))
lower_twice a b c (by_left l) (by_replies p m) = by_left (omega (arith, l, p))
lower_twice a b c (by_left l) (by_mailbox p q m) = by_left (omega (arith, l, p))
lower_twice a b c (by_left l) (by_ahead p q r m) = by_left (omega (arith, l, p))
lower_twice a b c (by_replies e l) (by_left m) = by_left (omega (arith, e, m))
lower_twice a b c (by_replies e l) (by_replies p m) = by_replies (omega (arith, e, p)) (omega (arith, l, m))
lower_twice a b c (by_replies e l) (by_mailbox p q m) = by_replies (omega (arith, e, p)) (omega (arith, l, q))
lower_twice a b c (by_replies e l) (by_ahead p q r m) = by_replies (omega (arith, e, p)) (omega (arith, l, q))
lower_twice a b c (by_mailbox e f l) (by_left m) = by_left (omega (arith, e, m))
lower_twice a b c (by_mailbox e f l) (by_replies p m) = by_replies (omega (arith, e, p)) (omega (arith, f, m))
lower_twice a b c (by_mailbox e f l) (by_mailbox p q m) =
    by_mailbox (omega (arith, e, p)) (omega (arith, f, q)) (omega (arith, l, m))
lower_twice a b c (by_mailbox e f l) (by_ahead p q r m) =
    by_mailbox (omega (arith, e, p)) (omega (arith, f, q)) (omega (arith, l, r))
lower_twice a b c (by_ahead e f g l) (by_left m) = by_left (omega (arith, e, m))
lower_twice a b c (by_ahead e f g l) (by_replies p m) = by_replies (omega (arith, e, p)) (omega (arith, f, m))
lower_twice a b c (by_ahead e f g l) (by_mailbox p q m) =
    by_mailbox (omega (arith, e, p)) (omega (arith, f, q)) (omega (arith, g, m))
lower_twice a b c (by_ahead e f g l) (by_ahead p q r m) =
    by_ahead (omega (arith, e, p)) (omega (arith, f, q)) (omega (arith, g, r)) (omega (arith, l, m))

pub then_most : (a b c : Rank) → Lower a b → AtMost b c → Lower a c
then_most a b c l (lower m) = lower_twice a b c l m
then_most a b c l (same e f g h) = lower_same a b c e f g h l

pub most_then : (a b c : Rank) → AtMost a b → Lower b c → Lower a c
most_then a b c (lower l) m = lower_twice a b c l m
most_then a b c (same e f g h) m = same_lower a b c e f g h m

pub most_twice : (a b c : Rank) → AtMost a b → AtMost b c → AtMost a c
most_twice a b c (lower l) m = lower (then_most a b c l m)
most_twice a b c (same e f g h) (lower m) = lower (same_lower a b c e f g h m)
most_twice a b c (same e f g h) (same p q r s) =
    same (omega (arith, e, p)) (omega (arith, f, q)) (omega (arith, g, r)) (omega (arith, h, s))

-- Induction on ranks.

below_or_at : (P : ℕ → Type 0) (m n : ℕ) → ((k : ℕ) → k < n → P k) → P n → m ≤ n → P m
below_or_at P m n h p l = ⊎_elim (λ i. h m i) (λ e. subst P (sym e) p) (split m n l)
  where
    split : (a b : ℕ) → a ≤ b → (a < b) ⊎ (a ≡ b)
    split zero zero l = inr refl
    split zero (suc b) l = inl (omega arith)
    split (suc a) zero l = inr (omega (arith, l))
    split (suc a) (suc b) l =
        ⊎_elim (λ h. inl (omega (arith, h))) (λ e. inr (omega (arith, e))) (split a b (omega (arith, l)))

strong : (P : ℕ → Type 0) → ((n : ℕ) → ((m : ℕ) → m < n → P m) → P n) → (n : ℕ) → P n
strong P h n = h n (all_below n)
  where
    all_below : (n m : ℕ) → m < n → P m
    all_below zero m l = absurd (omega (arith, l))
    all_below (suc n) m l = below_or_at P m n (all_below n) (h n (all_below n)) (omega (arith, l))

pub by_rank : (P : Rank → Type 0) → ((a : Rank) → ((b : Rank) → Lower b a → P b) → P a) → (a : Rank) → P a
by_rank P h a =
    strong (λ l. (r m d : ℕ) → P (record { left = l; replies = r; mailbox = m; ahead = d })) (λ l hl.
    strong (λ r. (m d : ℕ) → P (record { left = l; replies = r; mailbox = m; ahead = d })) (λ r hr.
    strong (λ m. (d : ℕ) → P (record { left = l; replies = r; mailbox = m; ahead = d })) (λ m hm.
    strong (λ d. P (record { left = l; replies = r; mailbox = m; ahead = d })) (λ d hd.
    h (record { left = l; replies = r; mailbox = m; ahead = d }) (lowers l r m d hl hr hm hd)))))
    a.left a.replies a.mailbox a.ahead
  where
    lowers : (l r m d : ℕ)
        → ((k : ℕ) → k < l → (r m d : ℕ) → P (record { left = k; replies = r; mailbox = m; ahead = d }))
        → ((k : ℕ) → k < r → (m d : ℕ) → P (record { left = l; replies = k; mailbox = m; ahead = d }))
        → ((k : ℕ) → k < m → (d : ℕ) → P (record { left = l; replies = r; mailbox = k; ahead = d }))
        → ((k : ℕ) → k < d → P (record { left = l; replies = r; mailbox = m; ahead = k }))
        → (b : Rank) → Lower b (record { left = l; replies = r; mailbox = m; ahead = d }) → P b
    lowers l r m d hl hr hm hd b (by_left i) = hl b.left i b.replies b.mailbox b.ahead
    lowers l r m d hl hr hm hd b (by_replies e i) = subst
        (λ x. P (record { left = x; replies = b.replies; mailbox = b.mailbox; ahead = b.ahead })) (sym e)
        (hr b.replies i b.mailbox b.ahead)
    lowers l r m d hl hr hm hd b (by_mailbox e f i) =
        subst (λ x. P (record { left = x; replies = b.replies; mailbox = b.mailbox; ahead = b.ahead })) (sym e)
        (subst (λ x. P (record { left = l; replies = x; mailbox = b.mailbox; ahead = b.ahead })) (sym f)
        (hm b.mailbox i b.ahead))
    lowers l r m d hl hr hm hd b (by_ahead e f g i) =
        subst (λ x. P (record { left = x; replies = b.replies; mailbox = b.mailbox; ahead = b.ahead })) (sym e)
        (subst (λ x. P (record { left = l; replies = x; mailbox = b.mailbox; ahead = b.ahead })) (sym f)
        (subst (λ x. P (record { left = l; replies = r; mailbox = x; ahead = b.ahead })) (sym g) (hd b.ahead i)))

-- A run's rank. A message that is looked at is no longer ahead.

abbrev pub closed : Option Message → ℕ
closed None = 1
closed (Some m) = 0

abbrev pub rank : {S : Type 0} → Frame S → State → Rank
rank f s = record {
  left = s.left;
  replies = length s.replies;
  mailbox = length s.mailbox;
  ahead = (length s.mailbox - f.save) + (length s.mailbox - f.save) + closed f.window;
}

-- the message in the window stands at the save place
abbrev pub Fits : {S : Type 0} → Frame S → State → Type 0
Fits f s = (m : Message) → f.window ≡ Some m → slice_get s.mailbox f.save ≡ Some m
