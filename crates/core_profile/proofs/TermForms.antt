-- Terms that are lists: their items and what is behind them.
use Rattle.std.proofs.Common.{◌≡◌, List, [], ◌∷◌, false, ◌&&◌, ◌||◌, map, codes, refl, sym, ap, ◌∙◌}
use Rattle.std.specs.List.{list_all, list_any}
use Rattle.erl_base.specs.Names.{same_name}
use Rattle.erl_base.specs.declared.ids.Place.{Place}
use Rattle.erl_term.specs.declared.term.Term.{Term, fold-roll-Term}
use Rattle.erl_term.specs.declared.term.Term.TheOpen as form
use Rattle.erl_term.specs.declared.term.Term.TheVariants as V
use Rattle.erl_term.specs.Term as Plain
use Rattle.erl_term.specs.Terms.{list_of}
use Rattle.erl_term.specs.View.{view, view_step, pair_step}
use Rattle.core_form.specs.Core.{literal}
use Rattle.core_form.specs.Walks.{literal_name}
use Rattle.core_names.specs.Readings.{atom_in}
use Rattle.core_profile.specs.ProfileFaults.{is_segment_flag, is_flag_list, is_proper_list, is_native, has_native, is_unit}
use Rattle.core_profile.proofs.Flags.{flags_of_list, end_of_list, native_in_list}

view-list : (items : List Term) (tail : Term) → view (V.List items tail) ≡ list_of (map view items) (view tail)
view-list items tail = ap view (sym (V.rolls-List items tail))
    ∙ fold-roll-Term Plain.Term (Plain.Term × Plain.Term) view_step pair_step (form.List items tail)

listed : (t : Term) (items : List Term) (tail : Term) → t ≡ V.List items tail
    → view t ≡ list_of (map view items) (view tail)
listed t items tail e = ap view e ∙ view-list items tail

pub unit_of_list : (t : Term) (items : List Term) (tail : Term) → t ≡ V.List items tail → (items ≡ [] → ⊥)
    → is_unit (view t) ≡ false
unit_of_list t [] tail e h = absurd (h refl)
unit_of_list t (x ∷ xs) tail e h = ap is_unit (listed t (x ∷ xs) tail e)

pub flags_in : (t : Term) (items : List Term) (tail : Term) → t ≡ V.List items tail
    → is_flag_list (view t) ≡ (list_all is_segment_flag (map view items) && is_flag_list (view tail))
flags_in t items tail e = ap is_flag_list (listed t items tail e) ∙ flags_of_list (map view items) (view tail)

pub proper_in : (t : Term) (items : List Term) (tail : Term) → t ≡ V.List items tail
    → is_proper_list (view t) ≡ is_proper_list (view tail)
proper_in t items tail e = ap is_proper_list (listed t items tail e) ∙ end_of_list (map view items) (view tail)

pub native_in : (t : Term) (items : List Term) (tail : Term) → t ≡ V.List items tail
    → has_native (view t) ≡ (list_any is_native (map view items) || has_native (view tail))
native_in t items tail e = ap has_native (listed t items tail e) ∙ native_in_list (map view items) (view tail)

pub native_named : (t : Plain.Term) → is_native t ≡ same_name (atom_in t) (codes "native")
native_named (Plain.atom a) = refl
native_named t = refl
