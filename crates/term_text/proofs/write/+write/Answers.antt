use Rattle.std.proofs.Common.{rules, IsTrue, not, sym, ap, ◌∙◌, ◌++◌}
use Rattle.erl_term.specs.declared.term.Term.{the_lemmas}
use Rattle.erl_term.specs.WellFormed.{layout, IsNormal}
use Rattle.erl_term.proofs.Forms.{tail_normal, tail_not_listed, value_normal}
use Rattle.term_text.proofs.Growth.{on_ok}
use Rattle.term_text.proofs.ListText.{integer_at, nil_rest, other_rest, list_at, tuple_at, map_at, fun_at}
use Rattle.term_text.proofs.write.+write.Goals as goal

pub push_pair-push_term-requires-2 : goal.push_pair-push_term-requires-2
push_pair-push_term-requires-2 t c =
    let n : IsNormal c.args.pair.now.value = value_normal _ c.requires in
    search (rules, the_lemmas)

pub push_term-push_rest-requires : goal.push_term-push_rest-requires
push_term-push_rest-requires t c =
    let n : IsNormal c.get.result.now = tail_normal _ _ _ _ c.in-List.is c.get.ensures c.requires in
    let l : IsTrue (not (layout c.get.result.now).listed) =
    tail_not_listed _ _ _ _ c.in-List.is c.get.ensures c.requires in
    search (rules, the_lemmas)

pub push_rest-returns-then-rank-eq-NIL : goal.push_rest-returns-then-rank-eq-NIL
push_rest-returns-then-rank-eq-NIL t c r =
    c.in_ok-push_bytes.ensures.added r
    ∙ sym (ap (λ x. c.args.out.now ++ x) (nil_rest _ _ c.rank.ensures c.if-rank-eq-NIL.true r))

pub push_rest-returns : goal.push_rest-returns
push_rest-returns t c r =
    c.in_ok-push_bytes-3.ensures.added r ∙ c.in_ok-push_term.ensures _ ∙ c.in_ok-push_bytes-2.ensures.added _
    ∙ sym (ap (λ x. c.args.out.now ++ x) (other_rest _ _ c.requires.no_list c.rank.ensures c.if-rank-eq-NIL.false r))

pub push_term-returns-in_ok-push_row-in-List : goal.push_term-returns-in_ok-push_row-in-List
push_term-returns-in_ok-push_row-in-List t c =
    on_ok c.push_rest.result
    (λ e r. e r ∙ c.in_ok-push_row-in-List.ensures _ ∙ c.in_ok-push_bytes-in-List.ensures.added _
    ∙ ap (λ x. c.args.out.now ++ x) (list_at _ _ _ _ _ c.in-List.is c.as_slice.ensures c.get.ensures c.requires r))
    c.push_rest.ensures

pub push_term-returns-in_ok-push_row-in-Tuple : goal.push_term-returns-in_ok-push_row-in-Tuple
push_term-returns-in_ok-push_row-in-Tuple t c =
    on_ok c.push_bytes-in-Tuple-2.result
    (λ e r. e r ∙ c.in_ok-push_row-in-Tuple.ensures _ ∙ c.in_ok-push_bytes-in-Tuple.ensures.added _
    ∙ ap (λ x. c.args.out.now ++ x) (tuple_at _ _ _ c.in-Tuple.is c.as_slice-in-Tuple.ensures r))
    c.push_bytes-in-Tuple-2.ensures.added

pub push_term-returns-in_ok-push_pairs-in-Map : goal.push_term-returns-in_ok-push_pairs-in-Map
push_term-returns-in_ok-push_pairs-in-Map t c =
    on_ok c.push_bytes-in-Map-2.result
    (λ e r. e r ∙ c.in_ok-push_pairs-in-Map.ensures _ ∙ c.in_ok-push_bytes-in-Map.ensures.added _
    ∙ ap (λ x. c.args.out.now ++ x) (map_at _ _ _ c.in-Map.is c.as_slice-in-Map.ensures r))
    c.push_bytes-in-Map-2.ensures.added

pub push_term-returns-in_ok-push_row-in-Fun : goal.push_term-returns-in_ok-push_row-in-Fun
push_term-returns-in_ok-push_row-in-Fun t c =
    on_ok c.push_bytes-in-Fun.result
    (λ e r. e r ∙ c.in_ok-push_row-in-Fun.ensures _ ∙ c.in_ok-push_fun_head-in-Fun.ensures _
    ∙ ap (λ x. c.args.out.now ++ x) (fun_at _ _ _ _ _ _ c.in-Fun.is c.as_slice-in-Fun.ensures r))
    c.push_bytes-in-Fun.ensures.added

pub push_term-returns-in-Int : goal.push_term-returns-in-Int
push_term-returns-in-Int t c =
    on_ok c.push_whole.result
    (λ e r. e r ∙ ap (λ x. c.args.out.now ++ x) (integer_at _ _ c.in-Int.is r)) c.push_whole.ensures
