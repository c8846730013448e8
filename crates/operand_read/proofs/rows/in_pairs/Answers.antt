use Rattle.std.proofs.Common.{◌≡◌, sym, ap, ◌∙◌, subst, [], ◌∷◌, ◌++◌, map}
use Rattle.std.proofs.lemmas.List.{map-append}
use Rattle.erl_term.specs.View.{view}
use Rattle.erl_term.specs.Comparing.{AllNormal}
use Rattle.insn_terms.specs.Reading.{value_of, in_pairs, both}
use Rattle.operand_read.proofs.ListRows.{others_normal, joined, pair_step, no_pair}
use Rattle.operand_read.proofs.rows.in_pairs.Goals as goal

pub left-preserved : goal.left-preserved
left-preserved g c =
    let f = both (value_of g.P.Pair.first) (value_of g.P.Pair.second) in
    let done = map g.P.Pair.plain c.left.pairs in
    let rest = map view c.in-Some.others.now in
    let pushed : map g.P.Pair.plain c.push.new.self ≡ done ++ g.P.Pair.plain c.in_ok-pair.pair ∷ [] =
    ap (map g.P.Pair.plain) c.in_ok-push.ensures.ok ∙ map-append g.P.Pair.plain c.left.pairs (c.in_ok-pair.pair ∷ []) in
    record {
      normal = others_normal c.in-Some.other.now c.in-Some.others.now
          (others_normal c.in-Some.one.now (c.in-Some.other.now ∷ c.in-Some.others.now)
          (subst AllNormal c.in-Some.ensures c.left.invariant.normal));
      read = c.left.invariant.read ∙ ap (λ ts. joined done (in_pairs f (map view ts))) c.in-Some.ensures
          ∙ pair_step f (view c.in-Some.one.now) (view c.in-Some.other.now) rest
          (g.P.Pair.plain c.in_ok-pair.pair) done c.in_ok-pair.ensures
          ∙ ap (λ d. joined d (in_pairs f rest)) (sym pushed);
    }

pub returns-then-not-is_empty : goal.returns-then-not-is_empty
returns-then-not-is_empty g c =
    let f = both (value_of g.P.Pair.first) (value_of g.P.Pair.second) in
    c.left.invariant.read
    ∙ ap (joined (map g.P.Pair.plain c.left.pairs))
    (no_pair f c.left.left.now c.in_default.ensures (sym c.is_empty.ensures ∙ c.if-not-is_empty.true))
