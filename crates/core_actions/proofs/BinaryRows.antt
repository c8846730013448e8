-- Segments and binaries of what was read are those of the grammar.
use Rattle.std.proofs.Common.{◌≡◌, refl, ap, ◌∙◌, List, append_assoc, Bool, false, if◌then◌else◌, Option, None, Some, codes}
use Rattle.erl_base.specs.Names.{same_name}
use Rattle.erl_base.specs.declared.ids.Place.{Place}
use Rattle.erl_term.specs.Segments.{joined}
use Rattle.core_form.specs.Core as C
use Rattle.core_grammar.specs.WrittenTree.{Tree, atom, noted, segment}
use Rattle.core_grammar.specs.ConstantTerms.{is_integer_kind, bits_written, constant_of, bits_of}
use Rattle.core_grammar.specs.ModuleOf as M
use Rattle.core_grammar.specs.ModuleOf.{atom_name, term_or_nil, constant_term, expr_of, pattern_of}
use Rattle.core_actions.specs.Read.{read_expr, read_pattern}
use Rattle.core_actions.specs.Joining.{literal_term, closed}
use Rattle.core_actions.specs.Binaries.{constant_in, segment_of, bits_in, seg_of}
use Rattle.core_actions.specs.ReadLaws.{parts_read, ReadsBinaries}
use Rattle.core_actions.proofs.Constants.{term_read, closed_read, integer_read, count_read, closed_pattern_read}

term_in_read : (t : Tree) → literal_term (closed (read_expr t)) ≡ constant_of false t
term_in_read t = ap literal_term (closed_read t) ∙ term_read t

constant_read : (t : Tree) → constant_in (read_expr t) ≡ constant_term t
constant_read t = ap term_or_nil (term_in_read t)

kind_read : (k : Tree) → same_name (atom_name k) (codes "integer") ≡ is_integer_kind k
kind_read (atom p a) = refl
kind_read (noted p t n) = kind_read t
kind_read _ = refl

segment_read : (p : Place) (t u n k f : Tree)
    → segment_of p (read_expr t) (parts_read u n k f) ≡ M.segment_of (segment p t u n k f)
segment_read p t u n k f i =
    C.segment p (closed_read t i) (closed_read u i) (constant_read n i) (atom_name k) (constant_read f i)

seg_read : (p : Place) (t u n k f : Tree)
    → seg_of p (read_pattern t) (parts_read u n k f) ≡ M.seg_of (segment p t u n k f)
seg_read p t u n k f i =
    C.seg_pattern p (closed_pattern_read t i) (closed_read u i) (constant_read n i) (atom_name k) (constant_read f i)

bits_read : (p : Place) (t u n k f : Tree)
    → bits_in (read_expr t) (parts_read u n k f) ≡ bits_of false (segment p t u n k f)
bits_read p t u n k f i =
    if kind_read k i
    then bits_written (integer_read t i) (count_read u i) (count_read n i) (term_in_read f i) else None

joined_together : (a b c : Option (List Bool)) → joined (joined a b) c ≡ joined a (joined b c)
joined_together None b c = refl
joined_together (Some xs) None c = refl
joined_together (Some xs) (Some ys) None = refl
joined_together (Some xs) (Some ys) (Some zs) = ap Some (append_assoc xs ys zs)

pub reads_binaries : ReadsBinaries
reads_binaries = record {
  segments = segment_read;
  bits = bits_read;
  patterns = seg_read;
  binaries = λ p gs. refl;
  together = joined_together;
}
