-- What a parse of words tells of the action that they ask for.
use Rattle.std.proofs.Common.{◌≡◌, ℕ, List, [], ◌∷◌, length, true, false, refl, codes, Some, None, Option, option_map, unwrap_or, ap, ◌∙◌, sym, subst, rules, arith, zero, suc, All, string_bytes, IsUtf8, ◌≤◌, nat_lt, String, Global, inl, inr, map, Bor, MatchOption}
use Rattle.std.proofs.lemmas.List.{length-map}
use Rattle.std.proofs.lemmas.Str.{IsUtf8-string_bytes}
use Rattle.clap.specs.Faults.{is_simple_and_free, fault_of, values_fault, defaults_fault}
use Rattle.clap.specs.Kinds.{HasKind, IsAmong}
use Rattle.clap.specs.Lexer.{usize_max}
use Rattle.clap.specs.Matches.{found_of, matched_of, raw_values}
use Rattle.clap.specs.Simple.{App, HasMatchesOf, matches_of}
use Rattle.clap.specs.Values.{kind_of}
use Rattle.clap.specs.Walk.{Text, all_of, rows_of}
use Rattle.clap.specs.declared.error.Error.{Error}
use Rattle.clap.specs.declared.error.kind.ErrorKind.TheVariants.{UnknownArgument, OutOfMemory}
use Rattle.clap.specs.declared.parser.matches.ArgMatches.{ArgMatches}
use Rattle.clap.proofs.WalkLemmas.{raw_values-rows}
use Rattle.erlc_cli.specs.declared.action.Action as declared
use Rattle.erlc_cli.specs.Actions.{taken, named}
use Rattle.erlc_cli.specs.ActionView.{texts, asked, action_view}
use Rattle.erlc_cli.specs.Command.{words_command, words_rule}
use Rattle.erlc_cli.proofs.Taken.{taken_length}
use Rattle.erlc_cli.proofs.Walk.{ends}
use Rattle.erlc_cli.proofs.WalkFaults.{walk_faults}

-- the values of the positional: none where there is no word
abbrev given : List Text → Option (List Text)
given [] = None
given (value ∷ values) = Some (value ∷ values)

-- any text is a value
no_value_fault : (values : List Text) → values_fault words_rule values ≡ []
no_value_fault [] = refl
no_value_fault (value ∷ values) = no_value_fault values

not_more : (n : ℕ) → n ≤ usize_max → nat_lt usize_max n ≡ false
not_more n short = search rules

not_fewer : (n : ℕ) → nat_lt n 0 ≡ false
not_fewer n = search rules

-- words that are taken have no fault, where their number fits
fault_of_taken : (words rest : List Text) → All IsUtf8 words → length rest ≤ usize_max → taken words ≡ Some rest
    → fault_of words_command words ≡ []
unfolding defaults_fault
fault_of_taken words [] utf8 short there =
    let end = ends words [] there [] in rw (walk_faults words utf8 [], there, end.1) refl
fault_of_taken words (value ∷ values) utf8 short there =
    let end = ends words (value ∷ values) there [] in
    rw (walk_faults words utf8 [], there, end.1)
    (rw (
      not_more (length (value ∷ values)) short,
      no_value_fault (value ∷ values),
      not_fewer (length (value ∷ values)),
    ) refl)

-- other words have one
fault_of_others : (words : List Text) → All IsUtf8 words → taken words ≡ None
    → fault_of words_command words ≡ UnknownArgument ∷ []
fault_of_others words utf8 there = rw (walk_faults words utf8 [], there) refl

-- the values of the positional are the words that are taken
values_of_taken : (words rest : List Text) → taken words ≡ Some rest
    → all_of (codes "words") (matches_of words_command words) ≡ given rest
values_of_taken words [] there = let end = ends words [] there [] in rw end.1 refl
values_of_taken words (value ∷ values) there = let end = ends words (value ∷ values) there [] in rw end.1 refl

-- words are texts
words_utf8 : (words : List (String Global)) → All IsUtf8 (texts words)
words_utf8 [] k d below = absurd (omega (arith, below))
words_utf8 (word ∷ words) zero d below = IsUtf8-string_bytes word
words_utf8 (word ∷ words) (suc k) d below = words_utf8 words k d (omega (arith, below))

given_or : (values : List Text) → unwrap_or (given values) [] ≡ values
given_or [] = refl
given_or (value ∷ values) = refl

-- no fault: the values of the positional name the action
asked_by : (words : List (String Global)) → fault_of words_command (texts words) ≡ []
    → (o : Option (List Text)) → taken (texts words) ≡ o
    → named (unwrap_or (all_of (codes "words") (matches_of words_command (texts words))) []) ≡ asked words
asked_by words free None there =
    let bad : UnknownArgument ∷ [] ≡ [] = sym (fault_of_others (texts words) (words_utf8 words) there) ∙ free in
    absurd cc
asked_by words free (Some rest) there =
    rw there (ap named (ap (λ o. unwrap_or o []) (values_of_taken (texts words) rest there) ∙ given_or rest))

-- a fault, and not want of memory: no action is asked for
none_by : (words : List (String Global)) → length words ≤ usize_max → (e : Error)
    → HasKind (fault_of words_command (texts words)) e → (kind_of e ≡ OutOfMemory → ⊥)
    → (o : Option (List Text)) → taken (texts words) ≡ o → asked words ≡ None
none_by words fits e kind other None there = rw there refl
none_by words fits e (inl memory) other (Some rest) there = absurd (other memory)
none_by words fits e (inr among) other (Some rest) there =
    let short : length rest ≤ length (texts words) = taken_length (texts words) rest there in
    let same : length (texts words) ≡ length words = length-map words string_bytes in
    absurd (subst (IsAmong (kind_of e))
    (fault_of_taken (texts words) rest (words_utf8 words) (omega (arith, short, same, fits)) there) among)

-- a parse that succeeded has the action that the words ask for
pub asked_of_matches : (a : App) (words : List (String Global)) (m : ArgMatches) → a ≡ words_command
    → (is_simple_and_free a ≡ true → fault_of a (texts words) ≡ []) → HasMatchesOf a (texts words) m
    → named (unwrap_or (option_map raw_values (matched_of (found_of m) (codes "words"))) []) ≡ asked words
asked_of_matches a words m e free has =
    let clean : fault_of words_command (texts words) ≡ []
    = subst (λ a. is_simple_and_free a ≡ true → fault_of a (texts words) ≡ []) e free refl in
    let rows : rows_of (found_of m) ≡ matches_of words_command (texts words)
    = (subst (λ a. HasMatchesOf a (texts words) m) e has refl).0 in
    ap (λ o. named (unwrap_or o [])) (raw_values-rows (found_of m) (codes "words") ∙ ap (all_of (codes "words")) rows)
    ∙ asked_by words clean (taken (texts words)) refl

-- a parse that failed, and not for want of memory, has words that ask for none
pub none_asked : (a : App) (words : List (String Global)) → length words ≤ usize_max → (error : Error)
    → a ≡ words_command → (is_simple_and_free a ≡ true → HasKind (fault_of a (texts words)) error)
    → (kind_of error ≡ OutOfMemory → ⊥) → asked words ≡ None
none_asked a words fits error e kinds other =
    none_by words fits error
    (subst (λ a. is_simple_and_free a ≡ true → HasKind (fault_of a (texts words)) error) e kinds refl) other
    (taken (texts words)) refl

-- the action that is named where the values are there
pub named_where : (r : Option (Bor (List (Bor Text)))) (o : Option (List Text)) (action : Option declared.Action)
    → option_map (λ s. map (λ v. v.now) s.now) r ≡ o
    → MatchOption r (action ≡ None) (λ s. option_map action_view action ≡ named (map (λ v. v.now) s.now))
    → option_map action_view action ≡ named (unwrap_or o [])
named_where None o action e m = rw (← e, m) refl
named_where (Some s) o action e m = rw (← e) m
