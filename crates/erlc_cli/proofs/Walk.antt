-- The walk of clap over the words of the command: it ends with the words that are taken.
use Rattle.std.proofs.Common.{◌≡◌, ℕ, Bool, List, [], ◌∷◌, ◌++◌, true, false, refl, codes, Some, None, append_assoc, ap, ◌∙◌, sym, option_and_then, if◌then◌else◌, ◌==◌, fold}
use Rattle.std.specs.Str.{bytes_eq}
use Rattle.std.proofs.lemmas.List.{append-nil}
use Rattle.clap.specs.Lexer.{long_of, long_of_rest, short_of, short_of_rest, strip_byte}
use Rattle.clap.specs.Walk.{Text, Held, Walk, Waiting, idle, positional, walked, nothing_held}
use Rattle.clap.specs.Simple.{Shape, built}
use Rattle.erlc_cli.specs.Actions.{is_flag, taken}
use Rattle.erlc_cli.specs.Command.{words_command}
use Rattle.erlc_cli.proofs.Taken.{by_taken}

-- the command once it is built
abbrev pub shape : Shape
shape = (built words_command).top

-- what is held behind those values
abbrev pub held_at : List Text → Held
held_at [] = nothing_held
held_at (value ∷ values) = record { rows = []; pending = Some (codes "words", value ∷ values); skip = 0 }

-- what the walk waits for behind those values
abbrev pub waiting_at : List Text → Waiting
waiting_at [] = idle
waiting_at (value ∷ values) = positional

-- the walk behind those values, past a lone `--` or not
abbrev pub at : Bool → List Text → Walk
at is_trailing values = record {
  held = held_at values;
  waiting = waiting_at values;
  position = 1;
  is_trailing = is_trailing;
  stopped = None;
}

-- behind the dashes a word is one value more
pub trailing_step : (values : List Text) (word : Text) → walked shape.rules [] (at true values) word
    ≡ at true (values ++ word ∷ [])
unfolding walked
trailing_step [] word = refl
trailing_step (value ∷ values) word = refl

-- a word of one character is no long flag
long_one : (x : ℕ) → long_of (x ∷ []) ≡ None
long_one x = go (x == 45)
  where
    go : (b : Bool)
        → option_and_then long_of_rest (option_and_then (strip_byte 45) (if b then Some [] else None)) ≡ None
    go true = refl
    go false = refl

-- and no short one
short_one : (x : ℕ) → short_of (x ∷ []) ≡ None
short_one x = go (x == 45)
  where
    go : (b : Bool) → option_and_then short_of_rest (if b then Some [] else None) ≡ None
    go true = refl
    go false = refl

-- a word that is no flag is no long one
pub no_long : (word : Text) → is_flag word ≡ false → long_of word ≡ None
no_long [] plain = refl
no_long (x ∷ []) plain = long_one x
no_long (x ∷ y ∷ rest) plain = rw plain refl

-- nor a short one
pub no_short : (word : Text) → is_flag word ≡ false → short_of word ≡ None
no_short [] plain = refl
no_short (x ∷ []) plain = short_one x
no_short (x ∷ y ∷ rest) plain = rw plain refl

-- such a word is one value more
pub plain_step : (values : List Text) (word : Text) → bytes_eq word (codes "--") ≡ false → is_flag word ≡ false
    → walked shape.rules [] (at false values) word ≡ at false (values ++ word ∷ [])
unfolding walked
plain_step [] word dashes plain = rw (dashes, no_long word plain, no_short word plain) refl
plain_step (value ∷ values) word dashes plain = rw (dashes, no_long word plain, no_short word plain) refl

-- the dashes are no value
pub dashes_step : (values : List Text) (word : Text) → bytes_eq word (codes "--") ≡ true
    → walked shape.rules [] (at false values) word ≡ at true values
unfolding walked
dashes_step [] word dashes = rw dashes refl
dashes_step (value ∷ values) word dashes = rw dashes refl

-- behind the dashes each word is taken
trailing_end : (words values : List Text) → fold (walked shape.rules []) (at true values) words
    ≡ at true (values ++ words)
trailing_end [] values = ap (at true) (sym (append-nil values))
trailing_end (word ∷ words) values =
    rw (trailing_step values word)
    (trailing_end words (values ++ word ∷ []) ∙ ap (at true) (append_assoc values (word ∷ []) words))

-- the walk ends behind the values so far and the words that are taken
abbrev EndsBehind : List Text → List Text → Type 0
EndsBehind words rest = (values : List Text)
    → (is_trailing : Bool) × (fold (walked shape.rules []) (at false values) words ≡ at is_trailing (values ++ rest))

-- a plain word first
plain_end : (word : Text) (words rest : List Text) → bytes_eq word (codes "--") ≡ false → is_flag word ≡ false
    → EndsBehind words rest → EndsBehind (word ∷ words) (word ∷ rest)
plain_end word words rest dashes plain ends values =
    let end = ends (values ++ word ∷ []) in (
      end.0,
      rw (plain_step values word dashes plain)
          (end.1 ∙ ap (at end.0) (append_assoc values (word ∷ []) rest)),
    )

-- it does for all words that are taken
pub ends : (words rest : List Text) → taken words ≡ Some rest → EndsBehind words rest
ends =
    by_taken EndsBehind (record {
      none = λ values. (false, ap (at false) (sym (append-nil values)));
      dashes = λ word words dashes values. (true, rw (dashes_step values word dashes) (trailing_end words values));
      plain = plain_end;
    })
