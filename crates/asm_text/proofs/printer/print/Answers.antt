use Rattle.std.proofs.Common.{◌≡◌, [], ◌∷◌, ◌∙◌, ◌+◌, ◌++◌, ◌<◌, true, drop, length, map, flat_map, sym, ap, arith, append-nil, encode_utf8_all}
use Rattle.std.proofs.lemmas.Grind.{common_steps}
use Rattle.beam_table.specs.View.{fun_view, module_view}
use Rattle.asm_forms.specs.ModuleOfText.{AssemblyText}
use Rattle.insn_text.proofs.Loops.{more, done}
use Rattle.asm_text.specs.PrintedModule.{function_lines, first_lines, module_lines, module_text, lines_on}
use Rattle.asm_text.proofs.ModuleLines.{lines_printed, lines_joined, has_bytes, has_text}
use Rattle.asm_text.proofs.Rows.{fun_row, fun_item, fun_steps}
use Rattle.asm_text.proofs.printer.print.Goals as goal

pub put_first-requires : goal.put_first-requires
put_first-requires c = c.requires.well_formed.attributes

pub loop-function-init : goal.loop-function-init
loop-function-init c r =
    let a = c.args.a.now in
    c.in_ok-put_first.ensures _
    ∙ ap (λ x. x ++ lines_on (first_lines (module_view a)) (fun_row a.name true a.funs r)) c.new-out.ensures
    ∙ sym (lines_joined (first_lines (module_view a)) (flat_map (function_lines a.name) (map fun_view a.funs)) r)

pub put_function-requires : goal.put_function-requires
put_function-requires c =
    let below : c.loop-function.function-index < length c.args.a.now.funs = grind (arith, common_steps) in
    record {
      literals = λ i t w l. c.requires.well_formed.literals c.function-item.result i t
          (c.loop-function.function-index, below, sym (rw c.as_slice-function-items.ensures at c.function-item.is)) w l;
    }

pub loop-function-preserved : goal.loop-function-preserved
loop-function-preserved c =
    let a = c.args.a.now in
    let cons : drop c.loop-function.function-index a.funs
    ≡ c.function-item.result ∷ drop (c.loop-function.function-index + 1) a.funs = grind (arith, common_steps) in
    more (fun_row a.name) (fun_item a.name) (fun_steps a.name) _ _ _ true _ _ _ cons
    c.in_ok-put_function.ensures c.loop-function.invariant

whole : (c : goal.After-text_has_one_module_of_forms) → c.loop-function.out ≡ module_text (module_view c.args.a.now)
unfolding module_text
whole c =
    let a = c.args.a.now in
    let none : drop c.loop-function.function-index a.funs ≡ [] = grind (arith, common_steps) in
    sym (append-nil c.loop-function.out)
    ∙ done (fun_row a.name) (fun_item a.name) (fun_steps a.name) _ true _ _ none c.loop-function.invariant []
    ∙ lines_printed (module_lines (module_view a))

is_own : (c : goal.After-text_has_one_module_of_forms)
    → AssemblyText (encode_utf8_all c.loop-function.out) (module_view c.args.a.now)
is_own c =
    let u = rw c.as_slice.ensures at c.are_characters.ensures in
    has_text c.loop-function.out (module_view c.args.a.now) (has_bytes c.loop-function.out u) (whole c)
    (c.printed_modules_are_read.ensures (module_view c.args.a.now) c.requires.valid c.requires.nests)

pub returns-clause-text : goal.returns-clause-text
returns-clause-text c = whole c

pub returns-clause-own : goal.returns-clause-own
returns-clause-own c = is_own c

pub returns-clause-no_other : goal.returns-clause-no_other
returns-clause-no_other c b h = c.text_has_one_module_of_forms.ensures _ b (module_view c.args.a.now) h (is_own c)
