use Rattle.std.proofs.Common.{rules, ◌≡◌, true, false, Some, codes, ap, ap₂, ◌∙◌, Option, None}
use Rattle.std.specs.Option.{IsSomeAnd}
use Rattle.std.proofs.lemmas.Result.{IfOk-weaker}
use Rattle.clap.specs.Simple.{app_of, with_rule, on_top, new_app, new_rule}
use Rattle.clap.specs.Built.{AddsArg}
use Rattle.clap.specs.Lexer.{usize_max}
use Rattle.clap.specs.Walk.{Rule, rule_of}
use Rattle.clap.specs.declared.builder.range.ValueRange.{ValueRange}
use Rattle.clap.specs.declared.builder.action.ArgAction.TheVariants.{Append}
use Rattle.erlc_cli.specs.Command.{words_rule}
use Rattle.erlc_cli.proofs.action.command.Goals as goal

range_is : (r : Option ValueRange) (v : ValueRange) → IsSomeAnd r (λ x. x ≡ v) → r ≡ Some v
range_is (Some x) v is = ap Some is
range_is None v is = absurd is

pub returns : goal.returns
returns c =
    let new_one : rule_of c.new.result ≡ new_rule (codes "words") = c.new.ensures.rule in
    let appends : rule_of c.action.result ≡ record (new_rule (codes "words")) { action = Some Append }
    = ap rule_of c.action.ensures ∙ ap (λ (r : Rule). record r { action = Some Append }) new_one in
    let range = range_is c.num_args-words.result.num_vals (record { start_inclusive = 0; end_inclusive = usize_max })
    c.num_args-words.ensures.1 in
    let rule : rule_of c.num_args-words.result ≡ words_rule
    = ap rule_of c.num_args-words.ensures.0
    ∙ ap₂ (λ (r : Rule) (range : Option ValueRange). record r { range = range }) appends range in
    let local : c.num_args-words.result.global ≡ false = search rules in
    let top : app_of c.disable_version_flag.result
    ≡ on_top (λ s. record s { no_binary_name = true; disable_help_flag = true; disable_version_flag = true })
    (new_app (codes "erlc_core"))
    = rw (c.disable_version_flag.ensures, c.disable_help_flag.ensures, c.no_binary_name.ensures)
    (ap (on_top (λ s. record s { no_binary_name = true; disable_help_flag = true; disable_version_flag = true }))
    c.new-2.ensures.app) in
    IfOk-weaker c.arg.result (AddsArg c.disable_version_flag.result c.num_args-words.result) _
    (λ new adds. adds.shape local ∙ ap₂ with_rule top rule) c.arg.ensures
