use Rattle.std.proofs.Common.{◌≡◌, ◌∙◌, refl, sym, ap, Some, length}
use Rattle.std.specs.declared.alloc.Global.{Global}
use Rattle.std.specs.declared.rc.Rc.{Rc}
use Rattle.shared_term.specs.Parts.{key_count_of}
use Rattle.shared_term.specs.View.{view, pairs_of}
use Rattle.shared_term.specs.declared.value.MapPairs.{MapPairs}
use Rattle.shared_term.specs.declared.value.Value.{Value}
use Rattle.shared_term.specs.declared.value.Value.TheVariants as V
use Rattle.shared_term.proofs.Comparing.{pair_count-row}
use Rattle.shared_term.proofs.Pairs.{map_reads}
use Rattle.shared_term.proofs.value.Value.map_len.Goals as goal

keys_counted : (v : Value) (m : Rc MapPairs Global) (mp : MapPairs) → v ≡ V.Map m → mp ≡ m.value
    → Some (length (pairs_of mp)) ≡ key_count_of (view v)
keys_counted v m mp e f =
    ap Some (sym (pair_count-row (pairs_of mp))) ∙ ap key_count_of (sym (map_reads v m mp (pairs_of mp) e f refl))

pub returns-in-Map : goal.returns-in-Map
returns-in-Map c = ap Some c.len.ensures.value ∙ keys_counted _ _ _ c.in-Map.is c.deref.ensures
