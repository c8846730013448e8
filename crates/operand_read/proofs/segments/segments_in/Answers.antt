use Rattle.std.proofs.Common.{rules, None, ◌≡◌, sym, ap, ◌∙◌, subst, [], ◌∷◌, ◌++◌, map}
use Rattle.std.proofs.lemmas.List.{map-append}
use Rattle.erl_term.specs.View.{view}
use Rattle.erl_term.specs.Comparing.{AllNormal}
use Rattle.beam_table.specs.View.{segment_view}
use Rattle.insn_terms.specs.Reading.{segment_in, segments_in}
use Rattle.operand_read.proofs.ListRows.{front_normal, back_normal, joined, segment_step, segment_stop, no_segment}
use Rattle.operand_read.proofs.segments.segments_in.Goals as goal

pub segment_in-requires : goal.segment_in-requires
segment_in-requires c =
    front_normal c.in-Some.six.now c.in-Some.others.now (subst AllNormal c.in-Some.ensures.1 c.left.invariant.normal)

pub left-preserved : goal.left-preserved
left-preserved c =
    let done = map segment_view c.left.segments in
    let rest = map view c.in-Some.others.now in
    let pushed : map segment_view c.push.new.self ≡ done ++ segment_view c.in_ok-segment.segment ∷ [] =
    ap (map segment_view) c.in_ok-push.ensures.ok
    ∙ map-append segment_view c.left.segments (c.in_ok-segment.segment ∷ []) in
    record {
      normal = back_normal c.in-Some.six.now c.in-Some.others.now
          (subst AllNormal c.in-Some.ensures.1 c.left.invariant.normal);
      read = c.left.invariant.read ∙ ap (λ ts. joined done (segments_in (map view ts))) c.in-Some.ensures.1
          ∙ segment_step c.in-Some.six.now c.in-Some.others.now (segment_view c.in_ok-segment.segment) done
          c.in-Some.ensures.0 c.in_ok-segment.ensures
          ∙ ap (λ d. joined d (segments_in rest)) (sym pushed);
    }

pub returns-then-not-is_empty : goal.returns-then-not-is_empty
returns-then-not-is_empty c =
    c.left.invariant.read
    ∙ ap (joined (map segment_view c.left.segments))
    (no_segment c.left.left.now c.in_default.ensures (sym c.is_empty.ensures ∙ c.if-not-is_empty.true))

pub returns-in_err-segment : goal.returns-in_err-segment
returns-in_err-segment c =
    let stop : segment_in (map view c.in-Some.six.now) ≡ None → segments_in (map view c.args.terms.now) ≡ None = λ k.
    c.left.invariant.read
    ∙ ap (λ ts. joined (map segment_view c.left.segments) (segments_in (map view ts))) c.in-Some.ensures.1
    ∙ segment_stop c.in-Some.six.now c.in-Some.others.now (map segment_view c.left.segments) c.in-Some.ensures.0 k in
    search (rules, stop)
