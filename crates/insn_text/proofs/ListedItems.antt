-- The operands of the items of each list, and that their rows go on item by item.
use Rattle.std.proofs.Common.{refl, ℕ}
use Rattle.term_text.specs.TermText.{texts}
use Rattle.beam_table.specs.Code.{Reg, Source, Segment}
use Rattle.beam_table.specs.Operands.{Operands, ◌then◌, source, register, y_slot, own_label, amount, segment}
use Rattle.beam_table.specs.View.{source_view, put_view, get_view, choice_view, size_choice_view, segment_view}
use Rattle.insn_text.proofs.Loops.{Steps, listed, listed_one, listed_steps, bare, bare_one}

abbrev pub slot_on : ℕ → Operands → Operands
slot_on n r = y_slot n then r

abbrev pub source_on : Source → Operands → Operands
source_on s r = source s then r

abbrev pub put_on : Source × Source → Operands → Operands
put_on p r = source p.0 then source p.1 then r

abbrev pub get_on : Source × Reg → Operands → Operands
get_on p r = source p.0 then register p.1 then r

abbrev pub choice_on : Source × ℕ → Operands → Operands
choice_on c r = source c.0 then own_label c.1 then r

abbrev pub size_on : ℕ × ℕ → Operands → Operands
size_on c r = amount c.0 then own_label c.1 then r

abbrev pub segment_on : Segment → Operands → Operands
segment_on g r = segment g r

pub put_slots_steps : Steps (bare slot_on) (bare_one slot_on)
unfolding texts
put_slots_steps = record { none = λ b r. refl; some = λ b x xs r. refl }

pub put_sources_steps : Steps (listed source_on source_view) (listed_one source_on source_view)
unfolding texts
put_sources_steps = listed_steps source_on source_view (λ b y os r. refl)

pub put_put_pairs_steps : Steps (listed put_on put_view) (listed_one put_on put_view)
unfolding texts
put_put_pairs_steps = listed_steps put_on put_view (λ b y os r. refl)

pub put_get_pairs_steps : Steps (listed get_on get_view) (listed_one get_on get_view)
unfolding texts
put_get_pairs_steps = listed_steps get_on get_view (λ b y os r. refl)

pub put_value_choices_steps : Steps (listed choice_on choice_view) (listed_one choice_on choice_view)
unfolding texts
put_value_choices_steps = listed_steps choice_on choice_view (λ b y os r. refl)

pub put_size_choices_steps : Steps (listed size_on size_choice_view) (listed_one size_on size_choice_view)
unfolding texts
put_size_choices_steps = listed_steps size_on size_choice_view (λ b y os r. refl)

pub put_segments_steps : Steps (listed segment_on segment_view) (listed_one segment_on segment_view)
unfolding texts
put_segments_steps = listed_steps segment_on segment_view (λ b y os r. refl)
