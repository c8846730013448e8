-- The greatest of the labels, function by function.
use Rattle.std.proofs.Common.{◌≡◌, ℕ, List, [], ◌∷◌, ◌++◌, map, max, subst, arith}
use Rattle.beam_table.specs.declared.asm.AsmFun.{AsmFun}
use Rattle.beam_table.specs.ModuleForms.{greatest}
use Rattle.beam_table.specs.ValidModule.{all_labels, labels_in}
use Rattle.beam_table.specs.View.{insn_view, fun_view}

greatest-append : (ks ls : List ℕ) → greatest (ks ++ ls) ≡ max (greatest ks) (greatest ls)
greatest-append [] ls = omega arith
greatest-append (k ∷ ks) ls = omega (arith, greatest-append ks ls)

pub function_counted : (fs others : List AsmFun) (f : AsmFun) (most more total : ℕ) → fs ≡ f ∷ others
    → more ≡ max most (max (max f.info.0 f.entry.0) (greatest (labels_in (map insn_view f.code))))
    → max most (greatest (all_labels (map fun_view fs))) ≡ total
    → max more (greatest (all_labels (map fun_view others))) ≡ total
function_counted fs others f most more total e m h =
    let whole : max most (greatest (all_labels (map fun_view (f ∷ others)))) ≡ total =
    subst (λ l. max most (greatest (all_labels (map fun_view l))) ≡ total) e h in
    omega (arith, m, whole, greatest-append (labels_in (map insn_view f.code)) (all_labels (map fun_view others)))
