use Rattle.std.proofs.Common.{rules, ◌||◌, map, codes, sym, ◌∙◌, subst, IsTrue}
use Rattle.std.specs.List.{list_any}
use Rattle.erl_term.specs.Segments.{has_flag}
use Rattle.erl_term.specs.View.{view}
use Rattle.core_form.specs.SourceTree.{are_flags}
use Rattle.erl_term.specs.declared.term.Term.{the_lemmas}
use Rattle.core_actions.specs.SegmentBits.{is_little}
use Rattle.core_actions.proofs.FlagLists.{flags_behind, little_in}
use Rattle.core_actions.proofs.flags.+has_little.Goals as goal

pub returns-in-List : goal.returns-in-List
returns-in-List t c =
    (λ i. c.any_little.ensures i || c.has_little.ensures i)
    ∙ (λ i. list_any is_little (map view (c.as_slice.ensures i)) || has_flag (codes "little") (view (c.get.ensures i)))
    ∙ sym (little_in _ _ _ c.in-List.is c.requires)

pub has_little-requires : goal.has_little-requires
has_little-requires t c =
    let h : IsTrue (are_flags (view c.get.result.now)) =
    subst (λ x. IsTrue (are_flags (view x))) (sym c.get.ensures) (flags_behind _ _ _ c.in-List.is c.requires) in
    search (rules, h, the_lemmas)
