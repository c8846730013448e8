-- Flags of a list that is held as items and what is behind them.
use Rattle.std.proofs.Common.{◌≡◌, List, [], ◌∷◌, Bool, true, false, ◌&&◌, ◌||◌, refl, ap, ◌∙◌}
use Rattle.std.specs.List.{list_all, list_any}
use Rattle.erl_term.specs.Term.{Term}
use Rattle.erl_term.specs.Terms.{list_of}
use Rattle.core_profile.specs.ProfileFaults.{is_segment_flag, is_flag_list, is_proper_list, is_native, has_native}

and_last : (a b c : Bool) → (a && (b && c)) ≡ ((a && b) && c)
and_last true b c = refl
and_last false b c = refl

or_last : (a b c : Bool) → (a || (b || c)) ≡ ((a || b) || c)
or_last true b c = refl
or_last false b c = refl

pub flags_of_list : (ts : List Term) (t : Term)
    → is_flag_list (list_of ts t) ≡ (list_all is_segment_flag ts && is_flag_list t)
flags_of_list [] t = refl
flags_of_list (x ∷ xs) t = ap (λ b. is_segment_flag x && b) (flags_of_list xs t)
    ∙ and_last (is_segment_flag x) (list_all is_segment_flag xs) (is_flag_list t)

pub end_of_list : (ts : List Term) (t : Term) → is_proper_list (list_of ts t) ≡ is_proper_list t
end_of_list [] t = refl
end_of_list (x ∷ xs) t = end_of_list xs t

pub native_in_list : (ts : List Term) (t : Term) → has_native (list_of ts t) ≡ (list_any is_native ts || has_native t)
native_in_list [] t = refl
native_in_list (x ∷ xs) t = ap (λ b. is_native x || b) (native_in_list xs t)
    ∙ or_last (is_native x) (list_any is_native xs) (has_native t)
