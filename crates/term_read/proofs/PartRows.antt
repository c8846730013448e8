-- Rows of parts of bit strings.
use Rattle.std.proofs.Common.{◌≡◌, sym, subst, refl, List, [], ◌∷◌, ◌++◌, IsTrue}
use Rattle.std.specs.List.{list_all}
use Rattle.erl_term.proofs.Forms.{left_true, right_true, both_true}
use Rattle.term_read.specs.declared.flat.Part.{Part}
use Rattle.term_read.specs.TermGrammar.{part_at}
use Rattle.term_read.specs.BitParts.{is_part, AreParts}
use Rattle.term_read.proofs.ItemRows.{Consumes}
use Rattle.term_read.proofs.Shorter.{part_shorter}

pub part_consumes : Consumes part_at
part_consumes = record { shorter = part_shorter }

pushed : (ps : List Part) (p : Part) → AreParts ps → IsTrue (is_part p) → AreParts (ps ++ p ∷ [])
pushed [] p h k = both_true (is_part p) _ k refl
pushed (q ∷ ps) p h k = both_true (is_part q) _ (left_true (is_part q) (list_all is_part ps) h)
    (pushed ps p (right_true (is_part q) (list_all is_part ps) h) k)

pub part_pushed : (ps new : List Part) (p : Part) → new ≡ ps ++ p ∷ [] → AreParts ps → IsTrue (is_part p) → AreParts new
part_pushed ps new p e h k = subst AreParts (sym e) (pushed ps p h k)
