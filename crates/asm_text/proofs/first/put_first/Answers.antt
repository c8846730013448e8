use Rattle.std.proofs.Common.{sym, ap, ◌∙◌, ◌++◌}
use Rattle.std.specs.Str.{chars}
use Rattle.term_text.proofs.Growth.{on_ok}
use Rattle.beam_table.specs.View.{module_view}
use Rattle.asm_text.proofs.Rows.{first_text}
use Rattle.asm_text.proofs.first.put_first.Goals as goal

pub put_attributes-requires : goal.put_attributes-requires
put_attributes-requires c = rw c.as_slice-2.ensures c.requires

pub returns : goal.returns
unfolding chars
returns c =
    let keys = rw c.as_slice.ensures at c.in_ok-put_keys.ensures in
    let attributes = rw c.as_slice-2.ensures at c.in_ok-put_attributes.ensures in
    let bound = rw (c.label_bound.ensures, c.as_slice-3.ensures) at c.in_ok-put_number.ensures in
    on_ok c.put_str-5.result
    (λ e r. e r ∙ bound _ ∙ c.in_ok-put_str-4.ensures _ ∙ attributes _ ∙ c.in_ok-put_str-3.ensures _ ∙ keys _
    ∙ c.in_ok-put_str-2.ensures _ ∙ c.in_ok-put_name.ensures _ ∙ c.in_ok-put_str.ensures _
    ∙ ap (λ x. c.args.out.now ++ x) (sym (first_text (module_view c.args.a.now) r)))
    c.put_str-5.ensures
