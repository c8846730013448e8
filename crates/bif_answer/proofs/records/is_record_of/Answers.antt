use Rattle.std.proofs.Common.{rules, SFits, subst, sym, ◌∙◌}
use Rattle.std.specs.Int.{w128}
use Rattle.std.proofs.lemmas.Int.{to_z-of_z}
use Rattle.bif_answer.specs.Answers.{Answers}
use Rattle.bif_answer.proofs.Plain.{recorded_of}
use Rattle.bif_answer.proofs.records.is_record_of.Goals as goal

pub returns-in-Some-clause-answers : goal.returns-in-Some-clause-answers
returns-in-Some-clause-answers c =
    let f : SFits w128 c.in-Some.size = search rules in
    subst (Answers c.truth.result)
    (sym (recorded_of _ _ _ _ _ _ (sym c.is_of_type.ensures ∙ c.if-is_of_type.true) c.in-Some.ensures
    (to_z-of_z w128 c.in-Some.size f) c.has_tag_and_size.ensures))
    c.truth.ensures.answers
