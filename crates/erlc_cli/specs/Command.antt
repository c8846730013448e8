-- The command that reads the words, as clap's definitions see it.
use Rattle.std.specs.Prelude.{[], ◌∷◌, true, Some, codes}
use Rattle.clap.specs.Simple.{App, new_rule, new_app, on_top}
use Rattle.clap.specs.Walk.{Rule}
use Rattle.clap.specs.Lexer.{usize_max}
use Rattle.clap.specs.declared.builder.action.ArgAction.TheVariants.{Append}

-- its one positional, which has any number of values
abbrev pub words_rule : Rule
words_rule = record (new_rule (codes "words")) {
  action = Some Append;
  range = Some (record { start_inclusive = 0; end_inclusive = usize_max });
}

-- no word is the name of the program, and no flag is known, `--help` and `--version` included
abbrev pub words_command : App
words_command = on_top (λ s. record s {
  no_binary_name = true;
  disable_help_flag = true;
  disable_version_flag = true;
  rules = words_rule ∷ [];
}) (new_app (codes "erlc_core"))
