use Rattle.std.proofs.Common.{arith, ◌≡◌, ◌∙◌, sym, true, refl}
use Rattle.clap.specs.Words.{app_of}
use Rattle.erlc_cli.proofs.Asked.{asked_of_matches, none_asked, named_where}
use Rattle.erlc_cli.proofs.action.action_in.Goals as goal

pub returns-in-Ok : goal.returns-in-Ok
returns-in-Ok c =
    named_where c.get_raw.result _ c.and_then.result c.get_raw.ensures c.and_then.ensures
    ∙ asked_of_matches (app_of c.in_ok-command.command) c.args.words.now c.in-Ok.matches c.in_ok-command.ensures
    c.in-Ok.ensures.kinds c.in-Ok.ensures.matches

pub returns : goal.returns
returns c =
    sym (none_asked (app_of c.in_ok-command.command) c.args.words.now (omega arith) c.in-Err.error
    c.in_ok-command.ensures c.in-Err.ensures.kinds
    (λ memory. let same : c.eq.result ≡ true = rw (c.eq.ensures, c.kind.ensures, memory) refl in absurd cc))
