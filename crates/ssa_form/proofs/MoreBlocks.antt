-- What is over stays over.
use Rattle.std.proofs.Common.{◌≡◌, ◌≢◌, ◌≤◌, ◌⊎◌, inl, inr, ⊎_elim, ℕ, zero, suc, List, Bool, true, false, Option, Some, None, refl, sym, ap, ◌∙◌, arith, eqb}
use Rattle.erl_term.specs.Term.{Term, Class}
use Rattle.erl_term.specs.Terms.{Values}
use Rattle.world_model.specs.World.{Message}
use Rattle.world_model.specs.Run.{State, Outcome}
use Rattle.step_machine.specs.Bodies.{Here}
use Rattle.ssa_form.specs.Ssa.{Last, br, succeeded, switch, ret, Block, Body, block_at}
use Rattle.ssa_form.specs.Storage.{Held, term, Handler, Storage, Frame, After, next, choose, raise, finish, Ended, done, unfinished, Around}
use Rattle.ssa_form.specs.Operations.{held}
use Rattle.ssa_form.specs.SsaRun.{Raised, picked, truth_in, choice_of, leave, leave_next, leave_choose, raised_to, switched, goes_by, either_end, unless_looking, block_does, entered_by, blocks, in_vars, ssa_run, SsaGives}

either_more : (b : Bool) (p q r t : Ended) → (p ≢ unfinished → r ≡ p) → (q ≢ unfinished → t ≡ q)
    → either_end b p q ≢ unfinished → either_end b r t ≡ either_end b p q
either_more true p q r t h g u = h u
either_more false p q r t h g u = g u

looking_more : (w : Option Message) (p q : Ended) → (p ≢ unfinished → q ≡ p) → unless_looking w p ≢ unfinished
    → unless_looking w q ≡ unless_looking w p
looking_more None p q h u = h u
looking_more (Some m) p q h u = refl

module _ {S : Type 0} (o : Storage S) (around : Around) (here : Here) where
  -- where f ends, g ends so too
  abbrev Extends : (f g : Option Raised → ℕ → ℕ → Frame S → State → Ended) → Type 0
  Extends f g = (e : Option Raised) (m n : ℕ) (x : Frame S) (s : State) → f e m n x s ≢ unfinished
      → g e m n x s ≡ f e m n x s

  module _ (f g : Option Raised → ℕ → ℕ → Frame S → State → Ended) (h : Extends f g) where
    by_more : (b : Option Bool) (n t e : ℕ) (x : Frame S) (s : State) → goes_by o around here b f n t e x s ≢ unfinished
        → goes_by o around here b g n t e x s ≡ goes_by o around here b f n t e x s
    by_more None n t e x s u = refl
    by_more (Some b) n t e x s u = h None n (picked b t e) x s u

    switch_more : (v : Held) (n d : ℕ) (cs : List (Term × ℕ)) (x : Frame S) (s : State)
        → switched o around here v f n d cs x s ≢ unfinished
        → switched o around here v g n d cs x s ≡ switched o around here v f n d cs x s
    unfolding switched
    switch_more (term t) n d cs x s u = h None n (choice_of cs t d) x s u
    switch_more _ n d cs x s u = refl

    on_more : (n : ℕ) (l : Last) (x : Frame S) (s : State) → leave_next o around here f n l x s ≢ unfinished
        → leave_next o around here g n l x s ≡ leave_next o around here f n l x s
    on_more n (br a t e) x s u =
        either_more (eqb t e) _ _ _ _ (h None n t x s) (by_more (truth_in (held o around here x a)) n t e x s) u
    on_more n (succeeded v t e) x s u = refl
    on_more n (switch a d cs) x s u = switch_more (held o around here x a) n d cs x s u
    on_more n (ret a) x s u = refl

    pick_more : (n : ℕ) (l : Last) (b : Bool) (x : Frame S) (s : State)
        → leave_choose o around here f n l b x s ≢ unfinished
        → leave_choose o around here g n l b x s ≡ leave_choose o around here f n l b x s
    pick_more n (br a t e) b x s u = refl
    pick_more n (succeeded v t e) b x s u = h None n (picked b t e) x s u
    pick_more n (switch a d cs) b x s u = refl
    pick_more n (ret a) b x s u = refl

    raised_more : (i : Option Handler) (n : ℕ) (c : Class) (r : Term) (x : Frame S) (s : State)
        → raised_to o around here i f n c r x s ≢ unfinished
        → raised_to o around here i g n c r x s ≡ raised_to o around here i f n c r x s
    raised_more (Some i) n c r x s u = h _ n _ _ s u
    raised_more None n c r x s u = refl

    leave_more : (n : ℕ) (l : Last) (a : After S) → leave o around here f n l a ≢ unfinished
        → leave o around here g n l a ≡ leave o around here f n l a
    leave_more n l (next x s) u = on_more n l x s u
    leave_more n l (choose b x s) u = pick_more n l b x s u
    leave_more n l (raise c r x s) u = looking_more x.window _ _ (raised_more (o.handler x.store) n c r x s) u
    leave_more n l (finish s r) u = refl
    leave_more n l After.bad u = refl

    block_more : (b : Option Block) (e : Option Raised) (m n : ℕ) (x : Frame S) (s : State)
        → block_does o around here b f e m n x s ≢ unfinished
        → block_does o around here b g e m n x s ≡ block_does o around here b f e m n x s
    block_more None e m n x s u = refl
    block_more (Some b) e m n x s u = leave_more n b.last (entered_by o around here m n b e x s) u

  one_more : (b : Body) (k : ℕ) → Extends (blocks o around here b k) (blocks o around here b (suc k))
  unfolding blocks
  one_more b zero e m n x s u = absurd (u refl)
  one_more b (suc k) e m n x s u = block_more _ _ (one_more b k) (block_at b n) e m n x s u

  pub more : (b : Body) (k j : ℕ) → k ≤ j → Extends (blocks o around here b k) (blocks o around here b j)
  more b k zero le e m n x s u = ap (λ z. blocks o around here b z e m n x s) (omega (arith, le))
  more b k (suc j) le e m n x s u = ⊎_elim
      (λ l. let p = more b k j l e m n x s u in one_more b j e m n x s (λ q. u (sym p ∙ q)) ∙ p)
      (λ q. ap (λ z. blocks o around here b z e m n x s) q)
      (split k j le)
    where
      split : (a b : ℕ) → a ≤ suc b → (a ≤ b) ⊎ (suc b ≡ a)
      split zero b l = inl (omega arith)
      split (suc a) zero l = inr (omega (arith, l))
      split (suc a) (suc b) l =
          ⊎_elim (λ h. inl (omega (arith, h))) (λ e. inr (omega (arith, e))) (split a b (omega (arith, l)))

order : (a b : ℕ) → (a ≤ b) ⊎ (b ≤ a)
order zero b = inl (omega arith)
order (suc a) zero = inr (omega arith)
order (suc a) (suc b) = ⊎_elim (λ h. inl (omega (arith, h))) (λ h. inr (omega (arith, h))) (order a b)

result_in : Ended → State × Outcome Term → State × Outcome Term
result_in (done s p) d = (s, p)
result_in _ d = d

same_done : (r q : State × Outcome Term) → done r.0 r.1 ≡ done q.0 q.1 → r ≡ q
unfolding result_in
same_done r q e = ap (λ x. result_in x r) e

not_unfinished : (s : State) (p : Outcome Term) (x : Ended) → x ≡ done s p → x ≢ unfinished
not_unfinished s p x e u = let d : done s p ≡ unfinished = sym e ∙ u in cc

pub one_result : (around : Around) (here : Here) (b : Body) (vs : Values) (s : State) (r q : State × Outcome Term)
    → SsaGives around here b vs s r → SsaGives around here b vs s q → r ≡ q
unfolding ssa_run
one_result around here b vs s r q g h = ⊎_elim
    (λ l. sym (same_done _ _
    (sym h.ends ∙ more in_vars around here b g.within h.within l _ _ _ _ _ (not_unfinished _ _ _ g.ends) ∙ g.ends)))
    (λ l. same_done _ _ (sym g.ends
    ∙ more in_vars around here b h.within g.within l _ _ _ _ _ (not_unfinished _ _ _ h.ends) ∙ h.ends))
    (order g.within h.within)
