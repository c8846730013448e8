-- What is to be read for a constant segment's parts follows their plans.
use Rattle.std.proofs.Common.{◌≡◌, refl, sym, ◌∙◌, ℕ, suc, ◌+◌, List, [], ◌∷◌, true, pos}
use Rattle.std.specs.Bool.{⊤}
use Rattle.erl_base.specs.declared.ids.Place.{Place}
use Rattle.core_lex.specs.declared.token.TokenKind.{TokenKind}
use Rattle.core_lex.specs.declared.token.TokenKind.TheVariants as K
use Rattle.core_lex.specs.declared.token.Symbol as Symbols
use Rattle.core_lex.specs.declared.token.Symbol.TheVariants as S
use Rattle.core_texts.proofs.Truths.{never}
use Rattle.core_syntax.specs.declared.sort.Sort.TheVariants as O
use Rattle.core_syntax.specs.declared.item.Shape.{Shape}
use Rattle.core_syntax.specs.declared.item.Shape.TheVariants.{Other, Size}
use Rattle.core_syntax.specs.declared.item.Part.TheVariants as P
use Rattle.core_syntax.specs.declared.item.Item.TheVariants as I
use Rattle.core_syntax.specs.declared.item.Entry.{Entry}
use Rattle.core_texts.proofs.Constants.{is_open_paren, takes_value, value_symbol, value_behind, takes_size, size_symbol, size_behind, takes_unit, unit_symbol, unit_behind, takes_kind, kind_symbol, kind_behind, opens_flags, takes_flags, flags_symbol, flags_behind, takes_flag, flag_symbol, flag_behind, flag_items_plan}
use Rattle.core_texts.proofs.Parts.{value_part, size_part, unit_part, kind_part, flags_part, flag_part}
use Rattle.core_texts.proofs.Bodies.{body}
use Rattle.core_syntax.specs.Beginnings.{at, constant_depth, kind_depth, constant_next, size_shape}
use Rattle.core_syntax.proofs.Choosing.{is_comma, is_bar, chosen, chosen_take, not_chosen, kept, left_out}
use Rattle.core_syntax.proofs.Following.{Follows, a_tree, a_value, a_size, a_unit, a_kind, flags, a_flag, flag_items}

-- The value.

value_symbol_follows : (d : ℕ) (p : Place) (x : Symbols.Symbol) (h : is_open_paren x ≡ true) (es : List Entry)
    → Follows P.Value es (value_symbol d p x h) (λ x. ⊤)
    (constant_next P.Value (constant_depth d (K.Symbol x)) d (K.Symbol x) es) Other
value_symbol_follows d p S.OpenParen h es = (
  P.Value,
  suc d,
  _,
  a_value (suc d),
  λ t i. refl,
  λ b h now c. (
    _,
    Other,
    λ t i. refl,
    (
      P.Tree O.Note,
      suc (1 + d),
      _,
      a_tree O.Note (suc (1 + d)),
      λ t i. refl,
      λ n k last m. (_, now, λ t i. refl, (now, λ t i. refl, tt)),
    ),
  ),
)
value_symbol_follows d p _ h es = never h

value_behind_follows : (d : ℕ) (p : Place) (x : TokenKind) (h : takes_value x ≡ true) (es : List Entry)
    → Follows P.Value es (value_behind d p x h) (λ x. ⊤) (constant_next P.Value (constant_depth d x) d x es) Other
value_behind_follows d p (K.Number g z) h es = (Other, λ t i. refl, tt)
value_behind_follows d p (K.Wide n) h es = (Other, λ t i. refl, tt)
value_behind_follows d p (K.Character c) h es = (Other, λ t i. refl, tt)
value_behind_follows d p (K.Symbol x) h es = value_symbol_follows d p x h es
value_behind_follows d p _ h es = never h

pub value_follows : (d : ℕ) (es : List Entry) (sh : Shape)
    → Follows P.Value es (body (value_part d)) (λ x. ⊤) (at d (I.Part P.Value) ∷ es) sh
value_follows d es sh = (
  λ x. constant_next P.Value (constant_depth d x) d x es,
  λ x. Other,
  λ t i. refl,
  λ p x h. value_behind_follows d p x h es,
)

-- The size.

size_symbol_follows : (d : ℕ) (p : Place) (x : Symbols.Symbol) (h : is_open_paren x ≡ true) (es : List Entry)
    → Follows P.Size es (size_symbol d p x h) (λ x. ⊤)
    (constant_next P.Size (constant_depth d (K.Symbol x)) d (K.Symbol x) es) Other
size_symbol_follows d p S.OpenParen h es = (
  P.Size,
  suc d,
  _,
  a_size (suc d),
  λ t i. refl,
  λ b h now c. (
    _,
    Other,
    λ t i. refl,
    (
      P.Tree O.Note,
      suc (1 + d),
      _,
      a_tree O.Note (suc (1 + d)),
      λ t i. refl,
      λ n k last m. (_, now, λ t i. refl, (now, λ t i. refl, c)),
    ),
  ),
)
size_symbol_follows d p _ h es = never h

size_behind_follows : (d : ℕ) (p : Place) (x : TokenKind) (h : takes_size x ≡ true) (es : List Entry)
    → Follows P.Size es (size_behind d p x h) (λ x. ⊤) (constant_next P.Size (constant_depth d x) d x es) (size_shape x)
size_behind_follows d p (K.Number g (pos n)) h es = (Size n, λ t i. refl, refl)
size_behind_follows d p (K.Character c) h es = (Size c, λ t i. refl, refl)
size_behind_follows d p (K.Symbol x) h es = size_symbol_follows d p x h es
size_behind_follows d p _ h es = never h

pub size_follows : (d : ℕ) (es : List Entry) (sh : Shape)
    → Follows P.Size es (body (size_part d)) (λ x. ⊤) (at d (I.Part P.Size) ∷ es) sh
size_follows d es sh = (
  λ x. constant_next P.Size (constant_depth d x) d x es,
  size_shape,
  λ t i. refl,
  λ p x h. size_behind_follows d p x h es,
)

-- The unit.

unit_symbol_follows : (m d : ℕ) (p : Place) (x : Symbols.Symbol) (h : is_open_paren x ≡ true) (es : List Entry)
    → Follows (P.Unit m) es (unit_symbol m d p x h) (λ x. ⊤)
    (constant_next (P.Unit m) (constant_depth d (K.Symbol x)) d (K.Symbol x) es) Other
unit_symbol_follows m d p S.OpenParen h es = (
  P.Unit m,
  suc d,
  _,
  a_unit m (suc d),
  λ t i. refl,
  λ b h now c. (
    _,
    Other,
    λ t i. refl,
    (
      P.Tree O.Note,
      suc (1 + d),
      _,
      a_tree O.Note (suc (1 + d)),
      λ t i. refl,
      λ n k last m. (_, now, λ t i. refl, (now, λ t i. refl, tt)),
    ),
  ),
)
unit_symbol_follows m d p _ h es = never h

unit_behind_follows : (m d : ℕ) (p : Place) (x : TokenKind) (h : takes_unit m x ≡ true) (es : List Entry)
    → Follows (P.Unit m) es (unit_behind m d p x h) (λ x. ⊤) (constant_next (P.Unit m) (constant_depth d x) d x es)
    Other
unit_behind_follows m d p (K.Number g (pos n)) h es = (Other, λ t i. refl, tt)
unit_behind_follows m d p (K.Character c) h es = (Other, λ t i. refl, tt)
unit_behind_follows m d p (K.Symbol x) h es = unit_symbol_follows m d p x h es
unit_behind_follows m d p _ h es = never h

pub unit_follows : (m d : ℕ) (es : List Entry) (sh : Shape)
    → Follows (P.Unit m) es (body (unit_part m d)) (λ x. ⊤) (at d (I.Part (P.Unit m)) ∷ es) sh
unit_follows m d es sh = (
  λ x. constant_next (P.Unit m) (constant_depth d x) d x es,
  λ x. Other,
  λ t i. refl,
  λ p x h. unit_behind_follows m d p x h es,
)

-- The kind.

kind_symbol_follows : (d : ℕ) (p : Place) (x : Symbols.Symbol) (h : is_open_paren x ≡ true) (es : List Entry)
    → Follows P.Kind es (kind_symbol d p x h) (λ x. ⊤)
    (constant_next P.Kind (kind_depth d (K.Symbol x)) d (K.Symbol x) es) Other
kind_symbol_follows d p S.OpenParen h es = (
  P.Kind,
  suc d,
  _,
  a_kind (suc d),
  λ t i. refl,
  λ b h now c. (
    _,
    Other,
    λ t i. refl,
    (
      P.Tree O.Note,
      suc (0 + d),
      _,
      a_tree O.Note (suc (0 + d)),
      λ t i. refl,
      λ n k last m. (_, now, λ t i. refl, (now, λ t i. refl, tt)),
    ),
  ),
)
kind_symbol_follows d p _ h es = never h

kind_behind_follows : (d : ℕ) (p : Place) (x : TokenKind) (h : takes_kind x ≡ true) (es : List Entry)
    → Follows P.Kind es (kind_behind d p x h) (λ x. ⊤) (constant_next P.Kind (kind_depth d x) d x es) Other
kind_behind_follows d p (K.Atom a) h es = (Other, λ t i. refl, tt)
kind_behind_follows d p (K.Symbol x) h es = kind_symbol_follows d p x h es
kind_behind_follows d p _ h es = never h

pub kind_follows : (d : ℕ) (es : List Entry) (sh : Shape)
    → Follows P.Kind es (body (kind_part d)) (λ x. ⊤) (at d (I.Part P.Kind) ∷ es) sh
kind_follows d es sh = (
  λ x. constant_next P.Kind (kind_depth d x) d x es,
  λ x. Other,
  λ t i. refl,
  λ p x h. kind_behind_follows d p x h es,
)

-- The flags.

flags_symbol_follows : (d : ℕ) (p : Place) (x : Symbols.Symbol) (h : opens_flags x ≡ true) (es : List Entry)
    → Follows P.Flags es (flags_symbol d p x h) (λ x. ⊤)
    (constant_next P.Flags (constant_depth d (K.Symbol x)) d (K.Symbol x) es) Other
flags_symbol_follows d p S.OpenParen h es = (
  P.Flags,
  suc d,
  _,
  flags (suc d),
  λ t i. refl,
  λ b h now c. (
    _,
    Other,
    λ t i. refl,
    (
      P.Tree O.Note,
      suc (1 + d),
      _,
      a_tree O.Note (suc (1 + d)),
      λ t i. refl,
      λ n k last m. (_, now, λ t i. refl, (now, λ t i. refl, tt)),
    ),
  ),
)
flags_symbol_follows d p S.OpenBracket h es = (
  (
    P.FlagItems,
    suc d,
    _,
    flag_items (suc d),
    λ t i. chosen _ _ _ i.1,
    λ b h now c. (
      (
        _,
        Other,
        λ t i. chosen_take _ _ _ _ _ (sym (is_bar t.kind) ∙ i.1),
        (
          P.Flags,
          suc d,
          _,
          flags (suc d),
          λ t i. refl,
          λ b h now c. (_, Other, λ t i. refl, (Other, λ t i. refl, tt)),
        ),
      ),
      (_, Other, λ t i. not_chosen _ _ _ (sym (is_bar t.kind) ∙ i.1), (Other, λ t i. refl, tt)),
    ),
  ),
  (_, Other, λ t i. not_chosen _ _ _ i.1, (Other, λ t i. refl, tt)),
)
flags_symbol_follows d p _ h es = never h

flags_behind_follows : (d : ℕ) (p : Place) (x : TokenKind) (h : takes_flags x ≡ true) (es : List Entry)
    → Follows P.Flags es (flags_behind d p x h) (λ x. ⊤) (constant_next P.Flags (constant_depth d x) d x es) Other
flags_behind_follows d p (K.Letters []) h es = (Other, λ t i. refl, tt)
flags_behind_follows d p (K.Symbol x) h es = flags_symbol_follows d p x h es
flags_behind_follows d p _ h es = never h

pub flags_follow : (d : ℕ) (es : List Entry) (sh : Shape)
    → Follows P.Flags es (body (flags_part d)) (λ x. ⊤) (at d (I.Part P.Flags) ∷ es) sh
flags_follow d es sh = (
  λ x. constant_next P.Flags (constant_depth d x) d x es,
  λ x. Other,
  λ t i. refl,
  λ p x h. flags_behind_follows d p x h es,
)

-- The flag.

flag_symbol_follows : (d : ℕ) (p : Place) (x : Symbols.Symbol) (h : is_open_paren x ≡ true) (es : List Entry)
    → Follows P.Flag es (flag_symbol d p x h) (λ x. ⊤)
    (constant_next P.Flag (constant_depth d (K.Symbol x)) d (K.Symbol x) es) Other
flag_symbol_follows d p S.OpenParen h es = (
  P.Flag,
  suc d,
  _,
  a_flag (suc d),
  λ t i. refl,
  λ b h now c. (
    _,
    Other,
    λ t i. refl,
    (
      P.Tree O.Note,
      suc (1 + d),
      _,
      a_tree O.Note (suc (1 + d)),
      λ t i. refl,
      λ n k last m. (_, now, λ t i. refl, (now, λ t i. refl, tt)),
    ),
  ),
)
flag_symbol_follows d p _ h es = never h

flag_behind_follows : (d : ℕ) (p : Place) (x : TokenKind) (h : takes_flag x ≡ true) (es : List Entry)
    → Follows P.Flag es (flag_behind d p x h) (λ x. ⊤) (constant_next P.Flag (constant_depth d x) d x es) Other
flag_behind_follows d p (K.Atom a) h es = (Other, λ t i. refl, tt)
flag_behind_follows d p (K.Symbol x) h es = flag_symbol_follows d p x h es
flag_behind_follows d p _ h es = never h

pub flag_follows : (d : ℕ) (es : List Entry) (sh : Shape)
    → Follows P.Flag es (body (flag_part d)) (λ x. ⊤) (at d (I.Part P.Flag) ∷ es) sh
flag_follows d es sh = (
  λ x. constant_next P.Flag (constant_depth d x) d x es,
  λ x. Other,
  λ t i. refl,
  λ p x h. flag_behind_follows d p x h es,
)

pub flag_items_follow : (d : ℕ) (es : List Entry) (sh : Shape)
    → Follows P.FlagItems es (flag_items_plan d) (λ x. ⊤) (at d (I.Part P.FlagItems) ∷ es) sh
flag_items_follow d es sh = (
  P.Flag,
  d,
  _,
  a_flag d,
  λ t i. refl,
  λ b h now c. (
    (
      _,
      Other,
      λ t i. kept _ _ _ _ (sym (is_comma t.kind) ∙ i.1),
      (P.FlagItems, d, _, flag_items d, λ t i. refl, λ b h now c. (now, λ t i. refl, tt)),
    ),
    (Other, λ t i. left_out _ _ _ _ (sym (is_comma t.kind) ∙ i.1), tt),
  ),
)
