-- Rows of segments of a binary, whose bits are put together as they are.
use Rattle.std.proofs.Common.{◌≡◌, refl, sym, ap, ap₂, ◌∙◌, subst, ℕ, List, [], ◌∷◌, ◌++◌, append_assoc, Bool, Option, None, Some}
use Rattle.std.proofs.lemmas.List.{append-nil}
use Rattle.erl_term.specs.Segments.{joined}
use Rattle.core_lex.specs.declared.token.Symbol.TheVariants as S
use Rattle.core_form.specs.Core as C
use Rattle.core_form.specs.View as Rows
use Rattle.core_grammar.specs.Signs.{Sign, symbol}
use Rattle.core_build.specs.declared.item.Item.TheVariants as I
use Rattle.core_build.specs.declared.item.Row.TheVariants as R
use Rattle.core_build.specs.Values.{segment, segments}
use Rattle.core_build.proofs.Fronts.{any_kind}
use Rattle.core_build.proofs.Leads.{Reads, Begins, Gathers}
use Rattle.core_build.proofs.RowParts.{Rest, no_rest, rest_on, row_of_none, row_of_some, segment_part}

-- bits are put together in any order
abbrev pub Together : Type 0
Together = (a b c : Option (List Bool)) → joined (joined a b) c ≡ joined a (joined b c)

-- the rest of a row of segments, which have these bits
pub record AddsBits (f : List Sign → List Sign) (gs : C.Segments) (bs : Option (List Bool)) : Type 0 where
  pub kept : List C.Segment
  pub adds : (xs : List C.Segment) (os : Option (List Bool))
      → Rest f (I.More R.Segments) (segments xs os) (segments (xs ++ kept) (joined os bs))
  pub is : Rows.segments kept ≡ gs

no_bits : (os : Option (List Bool)) → joined os (Some []) ≡ os
no_bits None = refl
no_bits (Some bs) = ap Some (append-nil bs)

all_bits : (os : Option (List Bool)) → joined (Some []) os ≡ os
all_bits None = refl
all_bits (Some bs) = refl

segments_as : {f : List Sign → List Sign} {xs ys zs : List C.Segment} {os bs cs : Option (List Bool)} → ys ≡ zs
    → bs ≡ cs → Rest f (I.More R.Segments) (segments xs os) (segments ys bs)
    → Rest f (I.More R.Segments) (segments xs os) (segments zs cs)
segments_as {f = f} {xs = xs} {os = os} e h F =
    subst (λ v. Rest f (I.More R.Segments) (segments xs os) v) (ap₂ segments e h) F

pub bits_none : AddsBits (λ r. r) C.no_segment (Some [])
bits_none = record {
  kept = [];
  adds = λ xs os.
      segments_as (sym (append-nil xs)) (sym (no_bits os)) (no_rest R.Segments (segments xs os));
  is = refl;
}

pub bits_one : Together → (d : ℕ) {f g : List Sign → List Sign} {x : C.Segment} {gs : C.Segments}
    {o bs : Option (List Bool)} → Reads any_kind f I.Segment (segment x o) → AddsBits g gs bs
    → AddsBits (λ r. symbol d S.Comma (f (g r))) (C.and_segment x gs) (joined o bs)
bits_one together d {x = x} {o = o} {bs = bs} F G = record {
  kept = x ∷ G.kept;
  adds = λ xs os.
      segments_as (append_assoc xs (x ∷ []) G.kept) (together os o bs)
      (rest_on d R.Segments (segment_part xs os F) (G.adds (xs ++ x ∷ []) (joined os o)));
  is = ap (C.and_segment x) G.is;
}

pub bits_of_none : Gathers R.Segments (λ gs. segments gs (Some [])) Rows.segments (λ r. r) C.no_segment
bits_of_none = record { kept = []; reads = row_of_none R.Segments; is = refl }

pub bits_of_some : Together → {f g : List Sign → List Sign} {x : C.Segment} {gs : C.Segments}
    {o bs : Option (List Bool)} → Begins f → Reads any_kind f I.Segment (segment x o) → AddsBits g gs bs
    → Gathers R.Segments (λ gs. segments gs (joined o bs)) Rows.segments (λ r. f (g r)) (C.and_segment x gs)
bits_of_some together {x = x} {o = o} {bs = bs} B F G = record {
  kept = x ∷ G.kept;
  reads =
      row_of_some R.Segments (I.More R.Segments) B (segment_part [] (Some []) F)
      (segments_as refl (together (Some []) o bs ∙ all_bits (joined o bs)) (G.adds (x ∷ []) (joined (Some []) o)));
  is = ap (C.and_segment x) G.is;
}
