use Rattle.core_profile.proofs.laws.a_lawful_text_has_one_module.Goals as goal

pub returns : goal.returns
returns c = λ bytes m n l k. c.a_text_has_one_tree.ensures _ m n l.text k.text
