-- What is written is read along its plan: the parts of constant segments.
use Rattle.std.proofs.Common.{◌≡◌, refl, ℕ, suc, pos, negsuc, List, [], ◌∷◌, Bool, true, false, Option, None, Some}
use Rattle.erl_term.specs.Term as T
use Rattle.erl_term.specs.Term.{Term}
use Rattle.core_lex.specs.declared.token.TokenKind.TheVariants.{Symbol, Atom, Number, Wide, Character, Letters}
use Rattle.core_lex.specs.declared.token.Symbol.TheVariants as S
use Rattle.core_grammar.specs.WrittenTree.{Tree, atom, number, wide, character, string, noted, list, list_on, tuple, new_map, binary, Row, none, more}
use Rattle.core_grammar.specs.Standing.{constant, an_atom}
use Rattle.core_grammar.specs.ConstantTerms.{and_item, constant_list, constant_tuple, constant_map, constant_bits, constant_of, constants_of, constant_pairs_of, segment_bits}
use Rattle.core_grammar.specs.Signs.{Sign, on, row_on}
use Rattle.core_texts.proofs.Truths.{never, and_left, and_right, and_in}
use Rattle.core_texts.proofs.Opens.{opens_tree}
use Rattle.core_texts.proofs.Bits.{all_of_flags, tail_flags}
use Rattle.core_texts.proofs.Parts.{value_part, size_part, unit_part, kind_part, flags_part, flag_part, flag_items_part, Right, Follows, flags_in, flag_in}
use Rattle.core_texts.proofs.Plans.{look}
use Rattle.core_texts.proofs.Complete.{Along, first_way, second_way}
use Rattle.core_texts.proofs.Constants.{value_looked, value_behind, size_looked, size_behind, unit_looked, unit_behind, kind_looked, kind_behind, flags_looked, flags_behind, flag_looked, flag_behind, flag_items_plan}

pub value_way : (d : ℕ) (t : Tree) (r : List Sign) → Right (value_part d) t
    → Along {k = λ x. x} (look (value_looked d) (value_behind d)) t (on true constant d t r) r
value_way d (number p g z) r h = (p, Number g z, h.0.1, r, refl, λ i. (refl, refl))
value_way d (wide p n) r h = (p, Wide n, refl, r, refl, λ i. (refl, refl))
value_way d (character p c) r h = (p, Character c, h.0.1, r, refl, λ i. (refl, refl))
value_way d (noted p t n) r h = (
  p,
  Symbol S.OpenParen,
  refl,
  _,
  refl,
  λ i. (
    t,
    (h.0.0, h.1),
    _,
    refl,
    tt,
    λ a. (
      _,
      refl,
      (n, h.0.1, _, refl, (refl, (refl, tt)), λ b. (r, refl, (refl, refl))),
    ),
  ),
)
value_way d _ r h = never h.1

pub size_way : (d : ℕ) (t : Tree) (r : List Sign) → Right (size_part d) t
    → Along {k = λ x. x} (look (size_looked d) (size_behind d)) t (on true constant d t r) r
size_way d (number p g (pos z)) r h = (p, Number g (pos z), and_in _ _ h.0.1 h.1, r, refl, λ i. (refl, refl))
size_way d (number p g (negsuc z)) r h = never h.1
size_way d (character p c) r h = (p, Character c, and_in _ _ h.0.1 h.1, r, refl, λ i. (refl, refl))
size_way d (noted p t n) r h = (
  p,
  Symbol S.OpenParen,
  refl,
  _,
  refl,
  λ i. (
    t,
    (h.0.0, h.1),
    _,
    refl,
    tt,
    λ a. (
      _,
      refl,
      (n, h.0.1, _, refl, (refl, (refl, tt)), λ b. (r, refl, (refl, refl))),
    ),
  ),
)
size_way d _ r h = never h.1

pub unit_way : (m d : ℕ) (t : Tree) (r : List Sign) → Right (unit_part m d) t
    → Along {k = λ x. x} (look (unit_looked m d) (unit_behind m d)) t (on true constant d t r) r
unit_way m d (number p g (pos z)) r h = (p, Number g (pos z), and_in _ _ h.0.1 h.1, r, refl, λ i. (refl, refl))
unit_way m d (number p g (negsuc z)) r h = never h.1
unit_way m d (character p c) r h = (p, Character c, and_in _ _ h.0.1 h.1, r, refl, λ i. (refl, refl))
unit_way m d (noted p t n) r h = (
  p,
  Symbol S.OpenParen,
  refl,
  _,
  refl,
  λ i. (
    t,
    (h.0.0, h.1),
    _,
    refl,
    tt,
    λ a. (
      _,
      refl,
      (n, h.0.1, _, refl, (refl, (refl, tt)), λ b. (r, refl, (refl, refl))),
    ),
  ),
)
unit_way m d _ r h = never h.1

pub kind_way : (d : ℕ) (t : Tree) (r : List Sign) → Right (kind_part d) t
    → Along {k = λ x. x} (look (kind_looked d) (kind_behind d)) t (on true an_atom d t r) r
kind_way d (atom p a) r h = (p, Atom a, h.1, r, refl, λ i. (refl, refl))
kind_way d (noted p t n) r h = (
  p,
  Symbol S.OpenParen,
  refl,
  _,
  refl,
  λ i. (
    t,
    (h.0.0, h.1),
    _,
    refl,
    tt,
    λ a. (
      _,
      refl,
      (n, h.0.1, _, refl, (refl, (refl, tt)), λ b. (r, refl, (refl, refl))),
    ),
  ),
)
kind_way d _ r h = never h.1

-- What are no flags.

no_tuple : (o : Option (List Term)) → flags_in (constant_tuple o) ≡ true → false ≡ true
no_tuple None h = h
no_tuple (Some x) h = h

no_map : (o : Option (List (Term × Term))) → flags_in (constant_map o) ≡ true → false ≡ true
no_map None h = h
no_map (Some x) h = h

no_bits : (o : Option (List Bool)) → flags_in (constant_bits o) ≡ true → false ≡ true
no_bits None h = h
no_bits (Some x) h = h

pub flags_way : (d : ℕ) (t : Tree) (r : List Sign) → Right (flags_part d) t
    → Along {k = λ x. x} (look (flags_looked d) (flags_behind d)) t (on true constant d t r) r
flags_way d (string p []) r h = (p, Letters [], refl, r, refl, λ i. (refl, refl))
flags_way d (string p (c ∷ cs)) r h = never h.1
flags_way d (list p none) r h =
    (p, Symbol S.OpenBracket, refl, _, refl, λ i. second_way (refl, (r, refl, (refl, refl))))
flags_way d (list p (more x xs)) r h = (
  p,
  Symbol S.OpenBracket,
  refl,
  _,
  refl,
  λ i. first_way (
    opens_tree constant (suc d) x _,
    (
      (x, xs),
      (h.0.1, all_of_flags (more x xs) (Some T.nil) h.1),
      _,
      refl,
      (refl, tt),
      λ j. second_way (refl, (r, refl, (refl, refl))),
    ),
  ),
)
flags_way d (list_on p x xs u) r h = (
  p,
  Symbol S.OpenBracket,
  refl,
  _,
  refl,
  λ i. first_way (
    opens_tree constant (suc d) x _,
    (
      (x, xs),
      ((h.0.1, h.0.2), all_of_flags (more x xs) (constant_of false u) h.1),
      _,
      refl,
      (refl, tt),
      λ j. first_way (
        refl,
        (
          _,
          refl,
          (
            u,
            (h.0.3, tail_flags (more x xs) (constant_of false u) h.1),
            _,
            refl,
            tt,
            λ y. (r, refl, (refl, refl)),
          ),
        ),
      ),
    ),
  ),
)
flags_way d (noted p t n) r h = (
  p,
  Symbol S.OpenParen,
  refl,
  _,
  refl,
  λ i. (
    t,
    (h.0.0, h.1),
    _,
    refl,
    tt,
    λ a. (
      _,
      refl,
      (n, h.0.1, _, refl, (refl, (refl, tt)), λ b. (r, refl, (refl, refl))),
    ),
  ),
)
flags_way d (tuple p ts) r h = never (no_tuple (constants_of false ts) h.1)
flags_way d (new_map p ps) r h = never (no_map (constant_pairs_of false ps) h.1)
flags_way d (binary p gs) r h = never (no_bits (segment_bits false gs) h.1)
flags_way d _ r h = never h.1

-- What is no flag.

no_list : (os : Option (List Term)) → flag_in (constant_list os (Some T.nil)) ≡ true → false ≡ true
no_list None h = h
no_list (Some []) h = h
no_list (Some (x ∷ xs)) h = h

no_longer : (o : Option Term) (os : Option (List Term)) (u : Option Term)
    → flag_in (constant_list (and_item o os) u) ≡ true → false ≡ true
no_longer None os u h = h
no_longer (Some x) None u h = h
no_longer (Some x) (Some xs) None h = h
no_longer (Some x) (Some xs) (Some u) h = h

no_flag_tuple : (o : Option (List Term)) → flag_in (constant_tuple o) ≡ true → false ≡ true
no_flag_tuple None h = h
no_flag_tuple (Some x) h = h

no_flag_map : (o : Option (List (Term × Term))) → flag_in (constant_map o) ≡ true → false ≡ true
no_flag_map None h = h
no_flag_map (Some x) h = h

no_flag_bits : (o : Option (List Bool)) → flag_in (constant_bits o) ≡ true → false ≡ true
no_flag_bits None h = h
no_flag_bits (Some x) h = h

pub flag_way : (d : ℕ) (t : Tree) (r : List Sign) → Right (flag_part d) t
    → Along {k = λ x. x} (look (flag_looked d) (flag_behind d)) t (on true constant d t r) r
flag_way d (atom p a) r h = (p, Atom a, h.1, r, refl, λ i. (refl, refl))
flag_way d (noted p t n) r h = (
  p,
  Symbol S.OpenParen,
  refl,
  _,
  refl,
  λ i. (
    t,
    (h.0.0, h.1),
    _,
    refl,
    tt,
    λ a. (
      _,
      refl,
      (n, h.0.1, _, refl, (refl, (refl, tt)), λ b. (r, refl, (refl, refl))),
    ),
  ),
)
flag_way d (string p []) r h = never h.1
flag_way d (string p (c ∷ cs)) r h = never h.1
flag_way d (list p ts) r h = never (no_list (constants_of false ts) h.1)
flag_way d (list_on p t ts u) r h =
    never (no_longer (constant_of false t) (constants_of false ts) (constant_of false u) h.1)
flag_way d (tuple p ts) r h = never (no_flag_tuple (constants_of false ts) h.1)
flag_way d (new_map p ps) r h = never (no_flag_map (constant_pairs_of false ps) h.1)
flag_way d (binary p gs) r h = never (no_flag_bits (segment_bits false gs) h.1)
flag_way d _ r h = never h.1

pub flag_items_way : (d : ℕ) (t : Tree) (ts : Row) (r : List Sign) → Right (flag_items_part d) (t, ts)
    → Follows (flag_items_part d) r → Along (flag_items_plan d) (t, ts) (row_on true true constant d (more t ts) r) r
flag_items_way d t none r h c =
    (t, (h.0.0, and_left _ _ h.1), r, refl, tt, λ i. second_way (c.0, (refl, refl)))
flag_items_way d t (more x xs) r h c = (
  t,
  (h.0.0, and_left _ _ h.1),
  _,
  refl,
  tt,
  λ i. first_way (
    refl,
    (
      _,
      refl,
      ((x, xs), (h.0.1, and_right (flag_in (constant_of false t)) _ h.1), r, refl, c, λ j. (refl, refl)),
    ),
  ),
)
