-- An action, and words, as the code has them.
use Rattle.std.specs.Prelude.{ℕ, List, Option, map, string_bytes}
use Rattle.std.specs.declared.string.String.{String}
use Rattle.std.specs.declared.alloc.Global.{Global}
use Rattle.erlc_cli.specs.declared.action.Action as declared
use Rattle.erlc_cli.specs.declared.action.Action.TheVariants as variants
use Rattle.erlc_cli.specs.Actions.{Action, compile, action_of}

-- the bytes of each word
abbrev pub texts : List (String Global) → List (List ℕ)
texts = map string_bytes

-- an action in the code
abbrev pub action_view : declared.Action → Action
action_view (variants.Compile input output) = compile input.now output.now

-- what words ask for
abbrev pub asked : List (String Global) → Option Action
asked words = action_of (texts words)
