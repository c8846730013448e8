use Rattle.std.proofs.Common.{◌≡◌, ℕ, List, sym, ap, ◌∙◌, subst, encode_utf8_all}
use Rattle.beam_table.specs.Code.{AsmModule}
use Rattle.beam_table.specs.View.{module_view}
use Rattle.asm_forms.specs.ModuleOfText.{AssemblyText}
use Rattle.erlc_cli.proofs.compile.compiled.Goals as goal

pub returns-clause-ok : goal.returns-clause-ok
returns-clause-ok c =
    let a : AsmModule = module_view c.in_ok-module.module in
    let e : c.in_ok-encoded.field-0 ≡ encode_utf8_all c.in_ok-printed.printed =
    c.in_ok-encoded.ensures ∙ ap encode_utf8_all c.as_slice.ensures in
    record {
      code = a;
      printed = e ∙ ap encode_utf8_all c.in_ok-printed.ensures.text;
      written = subst (λ (bs : List ℕ). AssemblyText bs a) (sym e) c.in_ok-printed.ensures.own;
      no_other = λ b h. c.in_ok-printed.ensures.no_other b (subst (λ (bs : List ℕ). AssemblyText bs b) e h);
      correct = c.in_ok-module.ensures.correct;
    }
