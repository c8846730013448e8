-- Runs of a module's function with a bound, and with a larger one.
use Rattle.std.proofs.Common.{◌≡◌, ◌≢◌, ◌≤◌, sym, subst, slice_get, ℕ, zero, suc, ◌+◌, List, [], ◌∷◌, ◌++◌, length, reverse, Bool, refl, ◌∙◌, arith, ap}
use Rattle.std.proofs.lemmas.List.{reverse-append, length-append}
use Rattle.erl_base.specs.declared.ids.FunKey.{FunKey}
use Rattle.erl_term.specs.Term.{Term}
use Rattle.erl_term.specs.Terms.{Values}
use Rattle.world_model.specs.World.{Script}
use Rattle.world_model.specs.Run.{State, Note, happened, entered, looked, marked, began, cut, happenings, entries, Outcome, gives, raises, waits, spent}
use Rattle.core_form.specs.Core.{Module}
use Rattle.core_meaning.specs.CoreRun.{Known, deep, start, known, known_export, evaluated, ended}
use Rattle.core_meaning.specs.RunLaws.{Begins, SameWithMore, HappensFirst, EntersFirst, EntersWithin, SpentAtBound}
use Rattle.core_meaning.proofs.EveryRule.{site_ok}
use Rattle.core_meaning.proofs.Kept.{Grown, deep_kept, entries_within, entries_spent, entries_are_spent}
use Rattle.core_meaning.proofs.Longer.{up, Prolonged, Longer, prolonging, entry_longer}

-- deeper, and with more entries
pub deep_longer : (m : Known) (d j n : ℕ) (vs : Values) → Longer d j (deep m d n vs) (deep m (up j d) n vs)
unfolding deep prolonging
deep_longer m zero j n vs = record {
  low = λ s. omega arith;
  grows = λ s. (deep_kept m j n vs s).grows;
  long = λ s l. absurd (omega (arith, l));
  none = λ s l. absurd (omega (arith, l));
}
deep_longer m (suc d) j n vs =
    site_ok (prolonging d j) _ (deep m (up j d))
    (λ e k ws. entry_longer d j (deep m d k ws) (deep m (up j d) k ws) (deep_longer m d j k ws) e)
    (slice_get m.sites n) vs

up_to : (n k : ℕ) → n ≤ k → (j : ℕ) × (k ≡ up j n)
up_to zero k h = (k, refl)
up_to (suc n) zero h = absurd (omega (arith, h))
up_to (suc n) (suc k) h =
    let r = up_to n k (omega (arith, h)) in
    (r.0, ap suc r.1)

ended_same : (cs : List Bool) (j : ℕ) (u : State) (o : Outcome Term) (r : State × Outcome Term) → Prolonged j u o r
    → o ≢ spent → ended cs r ≡ ended cs (u, o)
ended_same cs j u (gives a) r e h = ap (ended cs) e
ended_same cs j u (raises c t) r e h = ap (ended cs) e
ended_same cs j u (waits q) r e h = ap (ended cs) e
ended_same cs j u spent r e h = absurd (h refl)

notes_grow : (j : ℕ) (u : State) (o : Outcome Term) (r : State × Outcome Term) → Prolonged j u o r
    → Grown u.notes r.0.notes
notes_grow j u (gives a) r e = ([], ap (λ q. q.0.notes) e)
notes_grow j u (raises c t) r e = ([], ap (λ q. q.0.notes) e)
notes_grow j u (waits q) r e = ([], ap (λ p. p.0.notes) e)
notes_grow j u spent r e = e

happenings-append : (ns ms : List Note) → happenings (ns ++ ms) ≡ happenings ns ++ happenings ms
happenings-append [] ms = refl
happenings-append (happened h ∷ ns) ms = ap (λ x. h ∷ x) (happenings-append ns ms)
happenings-append (entered e ∷ ns) ms = happenings-append ns ms
happenings-append (looked l ∷ ns) ms = happenings-append ns ms
happenings-append (marked x ∷ ns) ms = happenings-append ns ms
happenings-append (began o ∷ ns) ms = happenings-append ns ms
happenings-append (cut n ∷ ns) ms = happenings-append ns ms

entries-append : (ns ms : List Note) → entries (ns ++ ms) ≡ entries ns ++ entries ms
entries-append [] ms = refl
entries-append (happened h ∷ ns) ms = entries-append ns ms
entries-append (entered e ∷ ns) ms = ap (λ x. e ∷ x) (entries-append ns ms)
entries-append (looked l ∷ ns) ms = entries-append ns ms
entries-append (marked x ∷ ns) ms = entries-append ns ms
entries-append (began o ∷ ns) ms = entries-append ns ms
entries-append (cut n ∷ ns) ms = entries-append ns ms

entries-reverse : (ns : List Note) → length (entries (reverse ns)) ≡ length (entries ns)
entries-reverse [] = refl
entries-reverse (n ∷ ns) =
    ap (λ x. length (entries x)) (reverse-append (n ∷ []) ns) ∙ ap length (entries-append (reverse ns) (n ∷ []))
    ∙ length-append (entries (reverse ns)) (entries (n ∷ []))
    ∙ one n (entries-reverse ns)
  where
    one : (k : Note) → length (entries (reverse ns)) ≡ length (entries ns)
        → length (entries (reverse ns)) + length (entries (k ∷ [])) ≡ length (entries (k ∷ ns))
    one (happened h) e = omega (arith, e)
    one (entered f) e = omega (arith, e)
    one (looked l) e = omega (arith, e)
    one (marked x) e = omega (arith, e)
    one (began o) e = omega (arith, e)
    one (cut n) e = omega (arith, e)

module _ (m : Module) (f : FunKey) (vs : Values) (x : Script) (n : ℕ) where
  run_prolonged : (j : ℕ) →
      let r = deep (known m x.own) (suc n) (known_export m f) vs (start x n) in
      Prolonged j r.0 r.1 (deep (known m x.own) (suc (up j n)) (known_export m f) vs (start x (up j n)))
  run_prolonged j = (deep_longer (known m x.own) (suc n) j (known_export m f) vs).long (start x n) (omega arith)

  same_by : (j : ℕ) → (evaluated m f vs x n).end ≢ spent → evaluated m f vs x (up j n) ≡ evaluated m f vs x n
  unfolding evaluated
  same_by j h = ended_same x.choices j _ _ _ (run_prolonged j) h

  happens_by : (j : ℕ) → Begins (evaluated m f vs x n).happenings (evaluated m f vs x (up j n)).happenings
  unfolding evaluated
  happens_by j =
      let r = deep (known m x.own) (suc n) (known_export m f) vs (start x n) in
      let g = notes_grow j r.0 r.1 (deep (known m x.own) (suc (up j n)) (known_export m f) vs (start x (up j n)))
      (run_prolonged j) in (
        happenings (reverse g.0),
        ap (λ ns. happenings (reverse ns)) g.1 ∙ ap happenings (reverse-append g.0 r.0.notes)
            ∙ happenings-append (reverse r.0.notes) (reverse g.0),
      )

  enters_by : (j : ℕ) → Begins (evaluated m f vs x n).entries (evaluated m f vs x (up j n)).entries
  unfolding evaluated
  enters_by j =
      let r = deep (known m x.own) (suc n) (known_export m f) vs (start x n) in
      let g = notes_grow j r.0 r.1 (deep (known m x.own) (suc (up j n)) (known_export m f) vs (start x (up j n)))
      (run_prolonged j) in (
        entries (reverse g.0),
        ap (λ ns. entries (reverse ns)) g.1 ∙ ap entries (reverse-append g.0 r.0.notes)
            ∙ entries-append (reverse r.0.notes) (reverse g.0),
      )

pub same_with_more : SameWithMore
same_with_more m f vs x n k l h =
    let u = up_to n k l in
    subst (λ i. evaluated m f vs x i ≡ evaluated m f vs x n) (sym u.1) (same_by m f vs x n u.0 h)

pub happens_first : HappensFirst
happens_first m f vs x n k l =
    let u = up_to n k l in
    subst (λ i. Begins (evaluated m f vs x n).happenings (evaluated m f vs x i).happenings) (sym u.1)
    (happens_by m f vs x n u.0)

pub enters_first : EntersFirst
enters_first m f vs x n k l =
    let u = up_to n k l in
    subst (λ i. Begins (evaluated m f vs x n).entries (evaluated m f vs x i).entries) (sym u.1)
    (enters_by m f vs x n u.0)

pub enters_within : EntersWithin
unfolding evaluated
enters_within m f vs x n = omega (
  arith,
  entries_within (known m x.own) n (known_export m f) vs x,
  entries-reverse (deep (known m x.own) (suc n) (known_export m f) vs (start x n)).0.notes,
)

pub spent_at_bound : SpentAtBound
unfolding evaluated
spent_at_bound m f vs x n e = entries-reverse (deep (known m x.own) (suc n) (known_export m f) vs (start x n)).0.notes
    ∙ entries_spent (known m x.own) n (known_export m f) vs x e

pub ruleset staying_within = (entries_are_spent, enters_within, spent_at_bound)

pub ruleset larger_prolongs = (same_with_more, happens_first, enters_first)
