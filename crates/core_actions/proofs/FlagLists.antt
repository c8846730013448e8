-- Flags of a list that is held as items and what is behind them.
use Rattle.std.proofs.Common.{◌≡◌, List, [], ◌∷◌, ℕ, Bool, true, false, ◌&&◌, ◌||◌, if◌then◌else◌, map, codes, IsTrue, refl, ap, ◌∙◌, subst}
use Rattle.std.specs.List.{list_all, list_any}
use Rattle.erl_base.specs.Names.{same_name}
use Rattle.erl_term.specs.declared.term.Term.{Term}
use Rattle.erl_term.specs.declared.term.Term.TheOpen as form
use Rattle.erl_term.specs.declared.term.Term.TheVariants as V
use Rattle.erl_term.specs.Term as Plain
use Rattle.erl_term.specs.Terms.{list_of}
use Rattle.erl_term.specs.Segments.{has_flag}
use Rattle.erl_term.specs.View.{view}
use Rattle.erl_term.proofs.Forms.{view_as, left_true, right_true}
use Rattle.core_form.specs.SourceTree.{is_flag, are_flags}
use Rattle.core_actions.specs.SegmentBits.{is_little}

listed : (t : Term) (items : List Term) (tail : Term) → t ≡ V.List items tail
    → view t ≡ list_of (map view items) (view tail)
listed t items tail e = ap view e ∙ view_as (V.List items tail) (form.List items tail) (V.outs-List items tail)

and_last : (a b c : Bool) → (a && (b && c)) ≡ ((a && b) && c)
and_last true b c = refl
and_last false b c = refl

flags_of_list : (ts : List Plain.Term) (t : Plain.Term)
    → are_flags (list_of ts t) ≡ (list_all is_flag ts && are_flags t)
flags_of_list [] t = refl
flags_of_list (x ∷ xs) t = ap (λ b. is_flag x && b) (flags_of_list xs t)
    ∙ and_last (is_flag x) (list_all is_flag xs) (are_flags t)

pub flags_in : (t : Term) (items : List Term) (tail : Term) → t ≡ V.List items tail
    → are_flags (view t) ≡ (list_all is_flag (map view items) && are_flags (view tail))
flags_in t items tail e = ap are_flags (listed t items tail e) ∙ flags_of_list (map view items) (view tail)

pub flags_behind : (t : Term) (items : List Term) (tail : Term) → t ≡ V.List items tail → IsTrue (are_flags (view t))
    → IsTrue (are_flags (view tail))
flags_behind t items tail e h =
    right_true (list_all is_flag (map view items)) (are_flags (view tail)) (subst IsTrue (flags_in t items tail e) h)

if_little : (a : List ℕ) (b c d : Bool) → c ≡ (b || d)
    → (if same_name a (codes "little") then true else c) ≡ ((same_name a (codes "little") || b) || d)
if_little a b c d h = by (same_name a (codes "little"))
  where
    by : (x : Bool) → (if x then true else c) ≡ ((x || b) || d)
    by true = refl
    by false = h

little_of_list : (ts : List Plain.Term) (t : Plain.Term) → IsTrue (list_all is_flag ts)
    → has_flag (codes "little") (list_of ts t) ≡ (list_any is_little ts || has_flag (codes "little") t)
little_of_list [] t h = refl
little_of_list (Plain.atom a ∷ ts) t h = if_little a (list_any is_little ts)
    (has_flag (codes "little") (list_of ts t)) (has_flag (codes "little") t)
    (little_of_list ts t (right_true (is_flag (Plain.atom a)) (list_all is_flag ts) h))
little_of_list (x ∷ ts) t h = absurd cc

pub little_in : (t : Term) (items : List Term) (tail : Term) → t ≡ V.List items tail → IsTrue (are_flags (view t))
    → has_flag (codes "little") (view t)
    ≡ (list_any is_little (map view items) || has_flag (codes "little") (view tail))
little_in t items tail e h =
    ap (has_flag (codes "little")) (listed t items tail e)
    ∙ little_of_list (map view items) (view tail)
    (left_true (list_all is_flag (map view items)) (are_flags (view tail)) (subst IsTrue (flags_in t items tail e) h))
