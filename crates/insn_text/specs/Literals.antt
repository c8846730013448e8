-- Literals in normal form, as all terms of the program are.
use Rattle.std.specs.Prelude.{Bool, true, List, map}
use Rattle.std.specs.List.{list_all}
use Rattle.erl_term.specs.WellFormed.{layout}
use Rattle.beam_table.specs.declared.operand.Source.{Source}
use Rattle.beam_table.specs.declared.operand.Source.TheVariants.{Literal}
use Rattle.beam_table.specs.WellFormedModule.{put_sources, segment_sources}
use Rattle.insn_text.specs.declared.row.Single.{Single}
use Rattle.insn_text.specs.declared.row.Single.TheVariants as S
use Rattle.insn_text.specs.declared.row.Items.{Items}
use Rattle.insn_text.specs.declared.row.Items.TheVariants as I
use Rattle.insn_text.specs.declared.row.Operand.{Operand}
use Rattle.insn_text.specs.declared.row.Operand.TheVariants as O

-- a source whose literal is in normal form
abbrev pub source_normal : Source → Bool
source_normal (Literal t) = (layout t).normal
source_normal _ = true

-- sources with such literals
abbrev pub sources_normal : List Source → Bool
sources_normal ss = list_all source_normal ss

abbrev pub single_normal : Single → Bool
single_normal (S.Source s) = source_normal s.now
single_normal _ = true

abbrev pub items_normal : Items → Bool
items_normal (I.Singles ss) = list_all single_normal ss.now
items_normal (I.Sources ss) = sources_normal ss.now
items_normal (I.PutPairs ps) = sources_normal (put_sources ps.now)
items_normal (I.GetPairs ps) = sources_normal (map (λ p. p.key) ps.now)
items_normal (I.ValueChoices cs) = sources_normal (map (λ c. c.value) cs.now)
items_normal (I.Segments gs) = sources_normal (segment_sources gs.now)
items_normal _ = true

abbrev pub operand_normal : Operand → Bool
operand_normal (O.One s) = single_normal s
operand_normal (O.Bare items) = items_normal items
operand_normal (O.Listed items) = items_normal items
