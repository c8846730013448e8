-- The plans of a constant segment's parts.
use Rattle.std.proofs.Common.{◌≡◌, refl, ℕ, suc, ◌+◌, leb, List, [], ◌∷◌, Bool, true, false, ◌&&◌, pos, Some, codes}
use Rattle.erl_base.specs.Names.{same_name}
use Rattle.erl_base.specs.declared.ids.Place.{Place}
use Rattle.erl_term.specs.Ranges.{is_within_128}
use Rattle.erl_term.specs.Term as T
use Rattle.core_lex.specs.declared.token.TokenKind.{TokenKind}
use Rattle.core_lex.specs.declared.token.TokenKind.TheVariants.{Symbol, Atom, Number, Wide, Character, Letters}
use Rattle.core_lex.specs.declared.token.Symbol as Symbols
use Rattle.core_lex.specs.declared.token.Symbol.TheVariants as S
use Rattle.core_form.specs.SourceTree.{is_flag}
use Rattle.core_grammar.specs.WrittenTree.{atom, number, wide, character, string, noted, list, list_on, Row, none, more}
use Rattle.core_grammar.specs.Standing.{constant, is_code, RowStands}
use Rattle.core_grammar.specs.ConstantTerms.{constant_of}
use Rattle.core_grammar.specs.Signs.{Sign, at_place, plain_sign, token_at, row_on}
use Rattle.core_texts.proofs.Fronts.{opens, is_bar, is_comma}
use Rattle.core_texts.proofs.Truths.{never, and_left, and_right, and_in}
use Rattle.core_texts.proofs.Bits.{flags_list}
use Rattle.core_texts.proofs.Parts.{Part, value_part, size_part, unit_part, kind_part, flags_part, flag_part, flag_items_part, is_unit, all_flags, here}
use Rattle.core_texts.proofs.Plans.{Plan, done, symbol_next, call, if_next, Looked}
use Rattle.core_texts.proofs.Steps.{note_plan}

abbrev pub is_open_paren : Symbols.Symbol → Bool
is_open_paren S.OpenParen = true
is_open_paren _ = false

-- Depths: a constant counts one, an atom of a kind nothing.

abbrev pub constant_symbol_depth : ℕ → Symbols.Symbol → ℕ
constant_symbol_depth d S.OpenParen = suc (1 + d)
constant_symbol_depth d _ = suc d

abbrev pub constant_depth : ℕ → Place → TokenKind → ℕ
constant_depth d p (Atom a) = 1 + d
constant_depth d p (Number g z) = 1 + d
constant_depth d p (Wide n) = 1 + d
constant_depth d p (Symbol x) = constant_symbol_depth d x
constant_depth d p _ = suc d

abbrev pub kind_symbol_depth : ℕ → Symbols.Symbol → ℕ
kind_symbol_depth d S.OpenParen = suc (0 + d)
kind_symbol_depth d _ = suc d

abbrev pub kind_depth : ℕ → Place → TokenKind → ℕ
kind_depth d p (Atom a) = 0 + d
kind_depth d p (Symbol x) = kind_symbol_depth d x
kind_depth d p _ = suc d

-- The value.

abbrev pub takes_value : TokenKind → Bool
takes_value (Number g z) = is_within_128 z
takes_value (Wide n) = true
takes_value (Character c) = is_code c
takes_value (Symbol x) = is_open_paren x
takes_value _ = false

abbrev pub value_looked : ℕ → Looked
value_looked d = record {
  takes = takes_value;
  depth = constant_depth d;
  no_bad = refl;
  no_end = refl;
  place = here;
  kind = Wide 0;
  one = refl;
}

abbrev pub BehindOf : Part → ℕ → Place → TokenKind → Type 0
BehindOf v d p x = Plan v (λ r. plain_sign (constant_depth d p x) (at_place p x) ∷ r)

abbrev pub value_symbol : (d : ℕ) (p : Place) (x : Symbols.Symbol) → is_open_paren x ≡ true
    → BehindOf (value_part d) d p (Symbol x)
value_symbol d p S.OpenParen h =
    call (value_part (suc d)) λ t i. note_plan (suc (1 + d)) λ n j. done (noted p t n) ((i.0, j), i.1) (λ r. refl)
value_symbol d p _ h = never h

abbrev pub value_behind : (d : ℕ) (p : Place) (x : TokenKind) → takes_value x ≡ true → BehindOf (value_part d) d p x
value_behind d p (Number g z) h = done (number p g z) ((refl, h), refl) (λ r. refl)
value_behind d p (Wide n) h = done (wide p n) (refl, refl) (λ r. refl)
value_behind d p (Character c) h = done (character p c) ((refl, h), refl) (λ r. refl)
value_behind d p (Symbol x) h = value_symbol d p x h
value_behind d p _ h = never h

-- The size.

abbrev pub takes_size : TokenKind → Bool
takes_size (Number g (pos n)) = is_within_128 (pos n) && leb n 256
takes_size (Character c) = is_code c && leb c 256
takes_size (Symbol x) = is_open_paren x
takes_size _ = false

abbrev pub size_looked : ℕ → Looked
size_looked d = record {
  takes = takes_size;
  depth = constant_depth d;
  no_bad = refl;
  no_end = refl;
  place = here;
  kind = Symbol S.OpenParen;
  one = refl;
}

abbrev pub size_symbol : (d : ℕ) (p : Place) (x : Symbols.Symbol) → is_open_paren x ≡ true
    → BehindOf (size_part d) d p (Symbol x)
size_symbol d p S.OpenParen h =
    call (size_part (suc d)) λ t i. note_plan (suc (1 + d)) λ n j. done (noted p t n) ((i.0, j), i.1) (λ r. refl)
size_symbol d p _ h = never h

abbrev pub size_behind : (d : ℕ) (p : Place) (x : TokenKind) → takes_size x ≡ true → BehindOf (size_part d) d p x
size_behind d p (Number g (pos n)) h =
    done (number p g (pos n)) (
      (refl, and_left (is_within_128 (pos n)) (leb n 256) h),
      and_right (is_within_128
          (pos n)) (leb n 256) h,
    )
    (λ r. refl)
size_behind d p (Character c) h =
    done (character p c) ((refl, and_left (is_code c) (leb c 256) h), and_right (is_code c) (leb c 256) h) (λ r. refl)
size_behind d p (Symbol x) h = size_symbol d p x h
size_behind d p _ h = never h

-- The unit.

abbrev pub takes_unit : ℕ → TokenKind → Bool
takes_unit m (Number g (pos n)) = is_within_128 (pos n) && is_unit m (Some n)
takes_unit m (Character c) = is_code c && is_unit m (Some c)
takes_unit m (Symbol x) = is_open_paren x
takes_unit m _ = false

abbrev pub unit_looked : ℕ → ℕ → Looked
unit_looked m d = record {
  takes = takes_unit m;
  depth = constant_depth d;
  no_bad = refl;
  no_end = refl;
  place = here;
  kind = Symbol S.OpenParen;
  one = refl;
}

abbrev pub unit_symbol : (m d : ℕ) (p : Place) (x : Symbols.Symbol) → is_open_paren x ≡ true
    → BehindOf (unit_part m d) d p (Symbol x)
unit_symbol m d p S.OpenParen h =
    call (unit_part m (suc d)) λ t i. note_plan (suc (1 + d)) λ n j. done (noted p t n) ((i.0, j), i.1) (λ r. refl)
unit_symbol m d p _ h = never h

abbrev pub unit_behind : (m d : ℕ) (p : Place) (x : TokenKind) → takes_unit m x ≡ true → BehindOf (unit_part m d) d p x
unit_behind m d p (Number g (pos n)) h =
    done (number p g (pos n)) (
      (refl, and_left (is_within_128 (pos n)) (is_unit m (Some n)) h),
      and_right (is_within_128 (pos n)) (is_unit m
          (Some n)) h,
    )
    (λ r. refl)
unit_behind m d p (Character c) h =
    done (character p c) (
      (refl, and_left (is_code c) (is_unit m (Some c)) h),
      and_right (is_code c) (is_unit m
          (Some c)) h,
    )
    (λ r. refl)
unit_behind m d p (Symbol x) h = unit_symbol m d p x h
unit_behind m d p _ h = never h

-- The type.

abbrev pub takes_kind : TokenKind → Bool
takes_kind (Atom a) = same_name a (codes "integer")
takes_kind (Symbol x) = is_open_paren x
takes_kind _ = false

abbrev pub kind_looked : ℕ → Looked
kind_looked d = record {
  takes = takes_kind;
  depth = kind_depth d;
  no_bad = refl;
  no_end = refl;
  place = here;
  kind = Symbol S.OpenParen;
  one = refl;
}

abbrev pub KindBehind : ℕ → Place → TokenKind → Type 0
KindBehind d p x = Plan (kind_part d) (λ r. plain_sign (kind_depth d p x) (at_place p x) ∷ r)

abbrev pub kind_symbol : (d : ℕ) (p : Place) (x : Symbols.Symbol) → is_open_paren x ≡ true → KindBehind d p (Symbol x)
kind_symbol d p S.OpenParen h =
    call (kind_part (suc d)) λ t i. note_plan (suc (0 + d)) λ n j. done (noted p t n) ((i.0, j), i.1) (λ r. refl)
kind_symbol d p _ h = never h

abbrev pub kind_behind : (d : ℕ) (p : Place) (x : TokenKind) → takes_kind x ≡ true → KindBehind d p x
kind_behind d p (Atom a) h = done (atom p a) (refl, h) (λ r. refl)
kind_behind d p (Symbol x) h = kind_symbol d p x h
kind_behind d p _ h = never h

-- The flags.

abbrev pub is_empty : List ℕ → Bool
is_empty [] = true
is_empty (c ∷ cs) = false

abbrev pub opens_flags : Symbols.Symbol → Bool
opens_flags S.OpenParen = true
opens_flags S.OpenBracket = true
opens_flags _ = false

abbrev pub takes_flags : TokenKind → Bool
takes_flags (Letters cs) = is_empty cs
takes_flags (Symbol x) = opens_flags x
takes_flags _ = false

abbrev pub flags_looked : ℕ → Looked
flags_looked d = record {
  takes = takes_flags;
  depth = constant_depth d;
  no_bad = refl;
  no_end = refl;
  place = here;
  kind = Symbol S.OpenBracket;
  one = refl;
}

abbrev pub flag_rows : {w : Part} {k : List Sign → List Sign} (d : ℕ)
    → ((ts : Row) → RowStands constant ts → all_flags ts ≡ true → Plan w (λ r. k (row_on true true constant d ts r)))
    → Plan w k
flag_rows d f = if_next opens (call (flag_items_part d) λ b h. f (more b.0 b.1) h.0 h.1) (f none tt refl)

abbrev pub flags_end : (d : ℕ) (p : Place) (ts : Row) → RowStands constant ts → all_flags ts ≡ true
    → Plan (flags_part d) (λ r. token_at (suc d) p (Symbol S.OpenBracket) (row_on true true constant (suc d) ts r))
flags_end d p none i h =
    symbol_next true (suc d) S.CloseBracket (done (list p none) ((refl, tt), refl) (λ r. refl))
flags_end d p (more t ts) i h =
    if_next is_bar
    (symbol_next true (suc d) S.Bar (call (flags_part (suc d)) λ u j.
    symbol_next true (suc d) S.CloseBracket
    (done (list_on p t ts u) ((refl, i.0, i.1, j.0), flags_list (more t ts) (constant_of false u) h j.1) (λ r. refl))))
    (symbol_next true (suc d) S.CloseBracket
    (done (list p (more t ts)) ((refl, i), flags_list (more t ts) (Some T.nil) h refl) (λ r. refl)))

abbrev pub flags_symbol : (d : ℕ) (p : Place) (x : Symbols.Symbol) → opens_flags x ≡ true
    → BehindOf (flags_part d) d p (Symbol x)
flags_symbol d p S.OpenParen h =
    call (flags_part (suc d)) λ t i. note_plan (suc (1 + d)) λ n j. done (noted p t n) ((i.0, j), i.1) (λ r. refl)
flags_symbol d p S.OpenBracket h = flag_rows (suc d) λ ts i j. flags_end d p ts i j
flags_symbol d p _ h = never h

abbrev pub flags_behind : (d : ℕ) (p : Place) (x : TokenKind) → takes_flags x ≡ true → BehindOf (flags_part d) d p x
flags_behind d p (Letters []) h = done (string p []) ((refl, refl), refl) (λ r. refl)
flags_behind d p (Symbol x) h = flags_symbol d p x h
flags_behind d p _ h = never h

-- A flag.

abbrev pub takes_flag : TokenKind → Bool
takes_flag (Atom a) = is_flag (T.atom a)
takes_flag (Symbol x) = is_open_paren x
takes_flag _ = false

abbrev pub flag_looked : ℕ → Looked
flag_looked d = record {
  takes = takes_flag;
  depth = constant_depth d;
  no_bad = refl;
  no_end = refl;
  place = here;
  kind = Symbol S.OpenParen;
  one = refl;
}

abbrev pub flag_symbol : (d : ℕ) (p : Place) (x : Symbols.Symbol) → is_open_paren x ≡ true
    → BehindOf (flag_part d) d p (Symbol x)
flag_symbol d p S.OpenParen h =
    call (flag_part (suc d)) λ t i. note_plan (suc (1 + d)) λ n j. done (noted p t n) ((i.0, j), i.1) (λ r. refl)
flag_symbol d p _ h = never h

abbrev pub flag_behind : (d : ℕ) (p : Place) (x : TokenKind) → takes_flag x ≡ true → BehindOf (flag_part d) d p x
flag_behind d p (Atom a) h = done (atom p a) (refl, h) (λ r. refl)
flag_behind d p (Symbol x) h = flag_symbol d p x h
flag_behind d p _ h = never h

abbrev pub flag_items_plan : (d : ℕ) → Plan (flag_items_part d) (λ r. r)
flag_items_plan d =
    call (flag_part d) λ t i.
    if_next is_comma
    (symbol_next true d S.Comma (call (flag_items_part d) λ b j.
    done (t, more b.0 b.1) ((i.0, j.0), and_in _ _ i.1 j.1) (λ r. refl)))
    (done (t, none) ((i.0, tt), and_in _ _ i.1 refl) (λ r. refl))
