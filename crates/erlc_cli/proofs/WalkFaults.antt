-- The faults of the walk over the words: none where they are taken, and else that a flag is not known.
use Rattle.std.proofs.Common.{◌≡◌, ℕ, Bool, List, [], ◌∷◌, ◌++◌, true, false, refl, codes, Some, None, ap, ◌∙◌, sym, subst, ◌==◌, rules, arith, slice_get, length, suc, IsUtf8, Option, option_map, All, ◌⊎◌, inl, inr, ◌<◌}
use Rattle.std.specs.Str.{chars, bytes_eq}
use Rattle.std.proofs.lemmas.Str.{encodes-chars}
use Rattle.std.proofs.Math.Utf8.{encodes}
use Rattle.clap.specs.Faults.{turn_fault, walk_fault, flags_fault}
use Rattle.clap.specs.Kinds.{Kinds}
use Rattle.clap.specs.Lexer.{long_of, short_of, name_and_value}
use Rattle.clap.specs.Walk.{Text, walked}
use Rattle.clap.specs.declared.error.kind.ErrorKind.TheVariants.{UnknownArgument}
use Rattle.erlc_cli.specs.Actions.{is_flag, taken}
use Rattle.erlc_cli.proofs.Walk.{shape, at, no_long, no_short, plain_step, dashes_step}

hyphen_of : (x : ℕ) → (x == 45) ≡ true → x ≡ 45
hyphen_of x h = search rules

-- a flag of a text has a character behind its hyphen
first_of : (cs : List ℕ) (y : ℕ) (rest : Text) → encodes (45 ∷ cs) ≡ 45 ∷ y ∷ rest
    → (c : ℕ) × (slice_get cs 0 ≡ Some c)
unfolding lib.Utf8.encode
first_of [] y rest same = let bad : 1 ≡ suc (suc (length rest)) = ap length same in absurd (omega arith)
first_of (c ∷ cs) y rest same = (c, refl)

-- the same of a flag that is a text
character_of : (y : ℕ) (rest : Text) → IsUtf8 (45 ∷ y ∷ rest)
    → (c : ℕ) × (slice_get (chars (y ∷ rest)) 0 ≡ Some c)
unfolding chars
character_of y rest utf8 = first_of (chars (y ∷ rest)) y rest (encodes-chars (45 ∷ y ∷ rest) utf8)

-- a long flag, or a short one with a character
abbrev FlagForm : Text → Type 0
FlagForm word = ((p : Text × Option Text) × (long_of word ≡ Some p))
    ⊎ ((long_of word ≡ None)
    × ((f : Text) × (c : ℕ) × (short_of word ≡ Some f) × (0 < length f) × (slice_get (chars f) 0 ≡ Some c)))

-- by the character behind the hyphen
form_behind : (y : ℕ) (rest : Text) → bytes_eq (45 ∷ y ∷ rest) (codes "--") ≡ false → IsUtf8 (45 ∷ y ∷ rest)
    → (long : Bool) → (y == 45) ≡ long → FlagForm (45 ∷ y ∷ rest)
form_behind y [] dashes utf8 true e =
    let bad : true ≡ false = subst (λ (h : ℕ). bytes_eq (45 ∷ h ∷ []) (codes "--") ≡ false) (hyphen_of y e) dashes in
    absurd cc
form_behind y (z ∷ zs) dashes utf8 true e = inl (name_and_value (z ∷ zs), rw e refl)
form_behind y rest dashes utf8 false e =
    let c = character_of y rest utf8 in inr (rw e refl, (y ∷ rest, c.0, rw e refl, search rules, c.1))

-- each flag but the dashes has a form
form_of : (word : Text) → bytes_eq word (codes "--") ≡ false → is_flag word ≡ true → IsUtf8 word → FlagForm word
form_of [] dashes flag utf8 = cc
form_of (x ∷ []) dashes flag utf8 = cc
form_of (x ∷ y ∷ rest) dashes flag utf8 =
    let e : x ≡ 45 = hyphen_of x flag in
    subst (λ (h : ℕ). FlagForm (h ∷ y ∷ rest)) (sym e)
    (form_behind y rest (subst (λ (h : ℕ). bytes_eq (h ∷ y ∷ rest) (codes "--") ≡ false) e dashes)
    (subst (λ (h : ℕ). IsUtf8 (h ∷ y ∷ rest)) e utf8) (y == 45) refl)

-- behind the dashes no word is a fault
trailing_fault : (values words : List Text) → walk_fault shape [] (at true values) words ≡ []
unfolding walk_fault walked
trailing_fault values [] = refl
trailing_fault [] (word ∷ words) = trailing_fault (word ∷ []) words
trailing_fault (value ∷ values) (word ∷ words) = trailing_fault (value ∷ values ++ word ∷ []) words

-- a word that is no flag is none
plain_fault : (values : List Text) (word : Text) → bytes_eq word (codes "--") ≡ false → is_flag word ≡ false
    → turn_fault shape [] (at false values) word ≡ []
plain_fault [] word dashes plain = rw (dashes, no_long word plain, no_short word plain) refl
plain_fault (value ∷ values) word dashes plain = rw (dashes, no_long word plain, no_short word plain) refl

-- nor are the dashes
dashes_fault : (values : List Text) (word : Text) → bytes_eq word (codes "--") ≡ true
    → turn_fault shape [] (at false values) word ≡ []
dashes_fault [] word dashes = rw dashes refl
dashes_fault (value ∷ values) word dashes = rw dashes refl

-- a flag before the dashes is refused
flag_fault : (values : List Text) (word : Text) → bytes_eq word (codes "--") ≡ false → FlagForm word
    → turn_fault shape [] (at false values) word ≡ UnknownArgument ∷ []
unfolding flags_fault
flag_fault [] word dashes (inl long) = rw (dashes, long.1) refl
flag_fault (value ∷ values) word dashes (inl long) = rw (dashes, long.1) refl
flag_fault [] word dashes (inr (l, ([], c, s, h, g))) = absurd (omega (arith, h))
flag_fault (value ∷ values) word dashes (inr (l, ([], c, s, h, g))) = absurd (omega (arith, h))
flag_fault [] word dashes (inr (l, (x ∷ f, c, s, h, g))) = rw (dashes, l, s) (rw g refl)
flag_fault (value ∷ values) word dashes (inr (l, (x ∷ f, c, s, h, g))) = rw (dashes, l, s) (rw g refl)

-- the faults of words, by what of them is taken
abbrev pub faults : Option (List Text) → Kinds
faults None = UnknownArgument ∷ []
faults (Some rest) = []

faults_map : (word : Text) (o : Option (List Text)) → faults (option_map (λ rest. word ∷ rest) o) ≡ faults o
faults_map word None = refl
faults_map word (Some rest) = refl

-- the walk on from any values has the faults of the words
abbrev pub HasFaults : List Text → Type 0
HasFaults words = (values : List Text) → walk_fault shape [] (at false values) words ≡ faults (taken words)

faults_with : (values : List Text) (word : Text) (words : List Text) → IsUtf8 word → HasFaults words
    → (dashes : Bool) → bytes_eq word (codes "--") ≡ dashes → (flag : Bool) → is_flag word ≡ flag
    → walk_fault shape [] (at false values) (word ∷ words) ≡ faults (taken (word ∷ words))
unfolding walk_fault
faults_with values word words utf8 has true d flag f =
    rw (dashes_fault values word d, dashes_step values word d, trailing_fault values words, d) refl
faults_with values word words utf8 has false d true f =
    rw (flag_fault values word d (form_of word d f utf8), d, f) refl
faults_with values word words utf8 has false d false f =
    rw (plain_fault values word d f, plain_step values word d f, d, f)
    (has (values ++ word ∷ []) ∙ sym (faults_map word (taken words)))

-- the walk has the faults of the words
pub walk_faults : (words : List Text) → All IsUtf8 words → HasFaults words
unfolding walk_fault
walk_faults [] utf8 values = refl
walk_faults (word ∷ words) utf8 values =
    faults_with values word words (utf8 0 [] (omega arith))
    (walk_faults words (λ k d h. utf8 (suc k) d (omega (arith, h))))
    (bytes_eq word (codes "--")) refl (is_flag word) refl
