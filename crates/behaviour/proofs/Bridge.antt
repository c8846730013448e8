-- From a machine that follows a meaning one way to what is said of modules.
use Rattle.std.proofs.Common.{◌≡◌, ◌+◌, inl, inr, ⊎_elim, ℕ, List, [], ◌∷◌, ◌++◌, length, map, ltb, if◌then◌else◌, Bool, false, IsFalse, Some, None, refl, sym, ap, ◌∙◌, subst, arith}
use mathlib.Core.List.{reverse, reverse-cons, reverse-append}
use lib.ListN.{length-reverse}
use Rattle.world_model.specs.Run as Run
use Rattle.world_model.specs.Run.{Entry, Looked, Outcome}
use Rattle.world_model.specs.World.{Happening}
use Rattle.world_model.specs.References.{after_note, serial_of, used}
use Rattle.core_meaning.specs.CoreRun.{Result, result_of}
use Rattle.core_meaning.specs.ReceiveCost.{examined}
use Rattle.step_machine.specs.Follows as Ways
use Rattle.step_machine.specs.Follows.{Meant, Noted, Reaches, LeavesOut, KeepsTails, site_list, OneWay, bound_of}
use Rattle.step_machine.specs.Steps.{Ran, sites}
use Rattle.behaviour.specs.Realizes.{CostsNoted}
use Rattle.behaviour.specs.Matched as Said
use Rattle.behaviour.specs.Matched.{happened_in, entered_in, sites_in, examined_in}
use Rattle.behaviour.specs.SameBehaviour as Whole

-- what a meaning noted, in order
abbrev pub ordered : List Bool → Meant → Result
ordered choices e = result_of choices (reverse e.notes) e.end

append_nil : {A : Type 0} (l : List A) → l ++ [] ≡ l
append_nil [] = refl
append_nil (x ∷ l) = ap (λ z. x ∷ z) (append_nil l)

-- Notes in order, part by part.

happenings-append : (a b : List Run.Note) → Run.happenings (a ++ b) ≡ Run.happenings a ++ Run.happenings b
happenings-append [] b = refl
happenings-append (Run.happened h ∷ a) b = ap (λ l. h ∷ l) (happenings-append a b)
happenings-append (_ ∷ a) b = happenings-append a b

happenings-reverse : (ns : List Run.Note) → Run.happenings (reverse ns) ≡ reverse (Run.happenings ns)
happenings-reverse [] = refl
happenings-reverse (Run.happened h ∷ ns) =
    ap Run.happenings (reverse-cons (Run.happened h) ns) ∙ happenings-append (reverse ns) (Run.happened h ∷ [])
    ∙ ap (λ l. l ++ h ∷ []) (happenings-reverse ns) ∙ sym (reverse-cons h (Run.happenings ns))
happenings-reverse (n ∷ ns) =
    ap Run.happenings (reverse-cons n ns) ∙ happenings-append (reverse ns) (n ∷ []) ∙ append_nil _
    ∙ happenings-reverse ns

entries-append : (a b : List Run.Note) → Run.entries (a ++ b) ≡ Run.entries a ++ Run.entries b
entries-append [] b = refl
entries-append (Run.entered e ∷ a) b = ap (λ l. e ∷ l) (entries-append a b)
entries-append (_ ∷ a) b = entries-append a b

entries-reverse : (ns : List Run.Note) → Run.entries (reverse ns) ≡ reverse (Run.entries ns)
entries-reverse [] = refl
entries-reverse (Run.entered e ∷ ns) =
    ap Run.entries (reverse-cons (Run.entered e) ns) ∙ entries-append (reverse ns) (Run.entered e ∷ [])
    ∙ ap (λ l. l ++ e ∷ []) (entries-reverse ns) ∙ sym (reverse-cons e (Run.entries ns))
entries-reverse (n ∷ ns) =
    ap Run.entries (reverse-cons n ns) ∙ entries-append (reverse ns) (n ∷ []) ∙ append_nil _ ∙ entries-reverse ns

looks-append : (a b : List Run.Note) → Run.looks (a ++ b) ≡ Run.looks a ++ Run.looks b
looks-append [] b = refl
looks-append (Run.looked e ∷ a) b = ap (λ l. e ∷ l) (looks-append a b)
looks-append (_ ∷ a) b = looks-append a b

looks-reverse : (ns : List Run.Note) → Run.looks (reverse ns) ≡ reverse (Run.looks ns)
looks-reverse [] = refl
looks-reverse (Run.looked e ∷ ns) =
    ap Run.looks (reverse-cons (Run.looked e) ns) ∙ looks-append (reverse ns) (Run.looked e ∷ [])
    ∙ ap (λ l. l ++ e ∷ []) (looks-reverse ns) ∙ sym (reverse-cons e (Run.looks ns))
looks-reverse (n ∷ ns) =
    ap Run.looks (reverse-cons n ns) ∙ looks-append (reverse ns) (n ∷ []) ∙ append_nil _ ∙ looks-reverse ns

marks-append : (a b : List Run.Note) → Run.marks (a ++ b) ≡ Run.marks a ++ Run.marks b
marks-append [] b = refl
marks-append (Run.marked x ∷ a) b = ap (λ l. x ∷ l) (marks-append a b)
marks-append (_ ∷ a) b = marks-append a b

pub marks-reverse : (ns : List Run.Note) → Run.marks (reverse ns) ≡ reverse (Run.marks ns)
marks-reverse [] = refl
marks-reverse (Run.marked x ∷ ns) =
    ap Run.marks (reverse-cons (Run.marked x) ns) ∙ marks-append (reverse ns) (Run.marked x ∷ [])
    ∙ ap (λ l. l ++ x ∷ []) (marks-reverse ns) ∙ sym (reverse-cons x (Run.marks ns))
marks-reverse (n ∷ ns) =
    ap Run.marks (reverse-cons n ns) ∙ marks-append (reverse ns) (n ∷ []) ∙ append_nil _ ∙ marks-reverse ns

site_list-append : (xs ys : List Entry) → site_list (xs ++ ys) ≡ site_list xs ++ site_list ys
site_list-append [] ys = refl
site_list-append (x ∷ xs) ys = ap (λ l. x.site ∷ l) (site_list-append xs ys)

site_list-reverse : (xs : List Entry) → site_list (reverse xs) ≡ reverse (site_list xs)
site_list-reverse [] = refl
site_list-reverse (x ∷ xs) =
    ap site_list (reverse-cons x xs) ∙ site_list-append (reverse xs) (x ∷ [])
    ∙ ap (λ l. l ++ x.site ∷ []) (site_list-reverse xs) ∙ sym (reverse-cons x.site (site_list xs))

sites-reverse : (ns : List Run.Note) → site_list (Run.entries (reverse ns)) ≡ reverse (site_list (Run.entries ns))
sites-reverse ns = ap site_list (entries-reverse ns) ∙ site_list-reverse (Run.entries ns)

tails-append : (xs xs' ys ys' : List Entry) → KeepsTails xs xs' → KeepsTails ys ys' → KeepsTails (xs ++ ys) (xs' ++ ys')
tails-append [] [] ys ys' h g = g
tails-append [] (x ∷ xs') ys ys' h g = absurd h
tails-append (x ∷ xs) [] ys ys' h g = absurd h
tails-append (x ∷ xs) (x' ∷ xs') ys ys' h g = (h.0, tails-append xs xs' ys ys' h.1 g)

tails-reverse : (xs ys : List Entry) → KeepsTails xs ys → KeepsTails (reverse xs) (reverse ys)
tails-reverse [] [] h = tt
tails-reverse [] (y ∷ ys) h = absurd h
tails-reverse (x ∷ xs) [] h = absurd h
tails-reverse (x ∷ xs) (y ∷ ys) h =
    subst (λ l. KeepsTails l (reverse (y ∷ ys))) (sym (reverse-cons x xs))
    (subst (λ l. KeepsTails (reverse xs ++ x ∷ []) l) (sym (reverse-cons y ys))
    (tails-append (reverse xs) (reverse ys) (x ∷ []) (y ∷ []) (tails-reverse xs ys h.1) (h.0, tt)))

leaves-append : (xs : List Looked) (ns : List ℕ) (ys : List Looked) (ms : List ℕ) → LeavesOut xs ns → LeavesOut ys ms
    → LeavesOut (xs ++ ys) (ns ++ ms)
leaves-append [] [] ys ms h g = g
leaves-append [] (n ∷ ns) ys ms h g = absurd h
leaves-append (x ∷ xs) [] ys [] h g = (h.0, leaves-append xs [] ys [] h.1 g)
leaves-append (x ∷ xs) [] ys (m ∷ ms) h g = inr (h.0, leaves-append xs [] ys (m ∷ ms) h.1 g)
leaves-append (x ∷ xs) (n ∷ ns) ys ms h g = ⊎_elim
    (λ e. inl (e.0, leaves-append xs ns ys ms e.1 g))
    (λ e. inr (e.0, leaves-append xs (n ∷ ns) ys ms e.1 g)) h

-- one more look that isn't accepted
skip_last : (xs : List Looked) (ns : List ℕ) (x : Looked) → LeavesOut xs ns → IsFalse x.accepted
    → LeavesOut (xs ++ x ∷ []) ns
skip_last [] [] x h e = (e, tt)
skip_last [] (n ∷ ns) x h e = absurd h
skip_last (y ∷ xs) [] x h e = (h.0, skip_last xs [] x h.1 e)
skip_last (y ∷ xs) (n ∷ ns) x h e = ⊎_elim
    (λ f. inl (f.0, skip_last xs ns x f.1 e))
    (λ f. inr (f.0, skip_last xs (n ∷ ns) x f.1 e)) h

one_look : (x : Looked) (n : ℕ) → x.serial ≡ n → LeavesOut (x ∷ []) (n ∷ [])
one_look x n e = inl (e, tt)

leaves-reverse : (xs : List Looked) (ns : List ℕ) → LeavesOut xs ns → LeavesOut (reverse xs) (reverse ns)
leaves-reverse [] [] h = tt
leaves-reverse [] (n ∷ ns) h = absurd h
leaves-reverse (x ∷ xs) [] h =
    subst (λ l. LeavesOut l []) (sym (reverse-cons x xs)) (skip_last (reverse xs) [] x (leaves-reverse xs [] h.1) h.0)
leaves-reverse (x ∷ xs) (n ∷ ns) h = ⊎_elim
    (λ e. subst (λ l. LeavesOut l (reverse (n ∷ ns))) (sym (reverse-cons x xs))
    (subst (λ l. LeavesOut (reverse xs ++ x ∷ []) l) (sym (reverse-cons n ns))
    (leaves-append (reverse xs) (reverse ns) (x ∷ []) (n ∷ []) (leaves-reverse xs ns e.1) (one_look x n e.0))))
    (λ e. subst (λ l. LeavesOut l (reverse (n ∷ ns))) (sym (reverse-cons x xs))
    (skip_last (reverse xs) (reverse (n ∷ ns)) x (leaves-reverse xs (n ∷ ns) e.1) e.0)) h

module _ (choices : List Bool) where
  reaches_said : (r : Ran) (e : Meant) → Ways.Reaches r e → Said.ReachesResult r (ordered choices e)
  reaches_said r e w = record {
    happenings = ap reverse w.noted.happened ∙ sym (happenings-reverse e.notes);
    sites = ap reverse w.noted.entered ∙ sym (sites-reverse e.notes);
    end = w.end;
    examined = subst (λ l. LeavesOut l (examined_in r)) (sym (looks-reverse e.notes))
        (leaves-reverse _ _ w.noted.looked);
  }

  module _ (run : ℕ → Ran) (eval : ℕ → Meant) where
    same_bound : (k : ℕ) → bound_of (run k) ≡ length (sites_in (run k))
    same_bound k = sym (length-reverse (sites (run k).log))

    prefix_said : (xs ys : List Happening) → Ways.IsSuffix xs ys → Said.IsPrefix (reverse xs) (reverse ys)
    prefix_said xs ys h = (reverse h.0, sym (reverse-append h.0 xs) ∙ sym (ap reverse h.1))

    pub follows_said : Ways.Follows run eval → Whole.FollowsResults run (λ n. ordered choices (eval n))
    follows_said w = record {
      core_run_is_matched = λ n. let v = w.reaches n in (v.0, reaches_said _ _ v.1);
      machine_run_is_matched = λ k. let v = w.within k in record {
        happenings = subst (λ n. Said.IsPrefix (happened_in (run k)) (ordered choices (eval n)).happenings)
            (same_bound k)
            (subst (λ l. Said.IsPrefix (happened_in (run k)) l)
            (sym (happenings-reverse (eval (bound_of (run k))).notes)) (prefix_said _ _ v.0));
        sites = subst (λ n. sites_in (run k) ≡ site_list (ordered choices (eval n)).entries) (same_bound k)
            (ap reverse v.1 ∙ sym (sites-reverse (eval (bound_of (run k))).notes));
        ends = λ o q.
            let z = w.ends k o q in (
              subst (λ n. happened_in (run k) ≡ (ordered choices (eval n)).happenings) (same_bound k)
                  (ap reverse z.0 ∙ sym (happenings-reverse (eval (bound_of (run k))).notes)),
              subst (λ n. (eval n).end ≡ o) (same_bound k) z.1,
            );
      };
      never_bad = w.never_bad;
    }

    pub tails_said : OneWay run eval → Said.FollowsTails run (λ n. ordered choices (eval n))
    tails_said w n =
        let v = w.reaches n in (
          v.0,
          reaches_said _ _ v.1,
          subst (λ l. KeepsTails l (entered_in (run v.0)))
              (sym (entries-reverse (eval n).notes)) (tails-reverse _ _ v.1.noted.tails),
        )

-- Costs, where no reference is bound: no message is passed over.

sub_binaries-append : (a b : List Run.Note) → Run.sub_binaries (a ++ b) ≡ Run.sub_binaries a + Run.sub_binaries b
sub_binaries-append [] b = omega arith
sub_binaries-append (Run.cut n ∷ a) b =
    let e : Run.sub_binaries (a ++ b) ≡ Run.sub_binaries a + Run.sub_binaries b = sub_binaries-append a b in
    omega (arith, e)
sub_binaries-append (_ ∷ a) b = sub_binaries-append a b

sub_binaries-reverse : (ns : List Run.Note) → Run.sub_binaries (reverse ns) ≡ Run.sub_binaries ns
sub_binaries-reverse [] = refl
sub_binaries-reverse (Run.cut n ∷ ns) =
    let e : Run.sub_binaries (reverse ns) ≡ Run.sub_binaries ns = sub_binaries-reverse ns in
    ap Run.sub_binaries (reverse-cons (Run.cut n) ns) ∙ sub_binaries-append (reverse ns) (Run.cut n ∷ [])
    ∙ omega (arith, e)
sub_binaries-reverse (n ∷ ns) =
    let e : Run.sub_binaries (reverse ns) ≡ Run.sub_binaries ns = sub_binaries-reverse ns in
    ap Run.sub_binaries (reverse-cons n ns) ∙ sub_binaries-append (reverse ns) (n ∷ []) ∙ omega (arith, e)

serials-append : (xs ys : List Looked)
    → map (λ l. l.serial) (xs ++ ys) ≡ map (λ l. l.serial) xs ++ map (λ l. l.serial) ys
serials-append [] ys = refl
serials-append (x ∷ xs) ys = ap (λ l. x.serial ∷ l) (serials-append xs ys)

serials-reverse : (xs : List Looked) → map (λ l. l.serial) (reverse xs) ≡ reverse (map (λ l. l.serial) xs)
serials-reverse [] = refl
serials-reverse (x ∷ xs) =
    ap (λ z. map (λ l. l.serial) z) (reverse-cons x xs) ∙ serials-append (reverse xs) (x ∷ [])
    ∙ ap (λ l. l ++ x.serial ∷ []) (serials-reverse xs) ∙ sym (reverse-cons x.serial (map (λ l. l.serial) xs))

not_below : (n : ℕ) → ltb n 0 ≡ false
not_below n = grind arith

all_examined : (ns : List Run.Note) (cs : List Bool) → Run.marks ns ≡ []
    → examined ns (record { bound = []; choices = cs; low = 0 }) ≡ map (λ l. l.serial) (Run.looks ns)
unfolding examined after_note serial_of used
all_examined [] cs e = refl
all_examined (Run.happened h ∷ ns) cs e = all_examined ns cs e
all_examined (Run.entered x ∷ ns) cs e = all_examined ns cs e
all_examined (Run.looked l ∷ ns) cs e =
    ap (λ b. if b then examined ns (record { bound = []; choices = cs; low = 0 })
    else l.serial ∷ examined ns (record { bound = []; choices = cs; low = 0 })) (not_below l.serial)
    ∙ ap (λ z. l.serial ∷ z) (all_examined ns cs e)
all_examined (Run.marked x ∷ ns) cs e = absurd cc
all_examined (Run.began None ∷ ns) cs e = all_examined ns cs e
all_examined (Run.began (Some r) ∷ ns) cs e = all_examined ns cs e
all_examined (Run.cut n ∷ ns) cs e = all_examined ns cs e

leaves_none : (ls : List Looked) → LeavesOut ls (map (λ l. l.serial) ls)
leaves_none [] = tt
leaves_none (l ∷ ls) = inl (refl, leaves_none ls)

module _ (choices : List Bool) where
  costs_kept : (r : Ran) (e : Meant) → CostsNoted e.notes r.log → (ordered choices e).marks ≡ []
      → Said.Costs r (ordered choices e)
  costs_kept r e w unmarked = record {
    examined = ap reverse w.looked ∙ sym (serials-reverse (Run.looks e.notes))
        ∙ ap (λ z. map (λ l. l.serial) z) (sym (looks-reverse e.notes))
        ∙ sym (all_examined (reverse e.notes) choices unmarked);
    passed = subst (λ z. LeavesOut (Run.looks (reverse e.notes)) z)
        (sym (all_examined (reverse e.notes) choices unmarked)) (leaves_none (Run.looks (reverse e.notes)));
    subs = let q : Run.sub_binaries (reverse e.notes) ≡ Run.sub_binaries e.notes = sub_binaries-reverse e.notes in
        omega (arith, w.subs, q);
  }

  pub costs_said : (run : ℕ → Ran) (eval : ℕ → Meant)
      → ((n : ℕ) → (k : ℕ) × Reaches (run k) (eval n) × CostsNoted (eval n).notes (run k).log)
      → ((n : ℕ) → (ordered choices (eval n)).marks ≡ [])
      → Said.FollowsCosts run (λ n. ordered choices (eval n))
  costs_said run eval w unmarked n = (
    (w n).0,
    reaches_said choices _ _ (w n).1,
    costs_kept (run (w n).0) (eval n) (w n).2 (unmarked n),
  )
