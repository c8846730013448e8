-- The tokens of what is written, and then the rest. Each comes with its depth: how many definitions, expressions,
-- patterns, clauses, constants and annotated parts hold it.
use Rattle.std.specs.Prelude.{◌≡◌, ◌+◌, ◌≤◌, ℕ, suc, pos, List, [], ◌∷◌, Bool, true, false, not, ◌||◌, eqb, ⊤, if◌then◌else◌}
use Rattle.erl_base.specs.declared.ids.Place.{Place}
use Rattle.core_lex.specs.declared.token.Token.{Token}
use Rattle.core_lex.specs.declared.token.TokenKind.{TokenKind}
use Rattle.core_lex.specs.declared.token.TokenKind.TheVariants.{Word, Symbol, Variable, Atom, Number, Wide, Float, Character, Letters, End}
use Rattle.core_lex.specs.declared.token.Word as Words
use Rattle.core_lex.specs.declared.token.Word.TheVariants as W
use Rattle.core_lex.specs.declared.token.Symbol as Symbols
use Rattle.core_lex.specs.declared.token.Symbol.TheVariants as S
use Rattle.core_grammar.specs.WrittenTree.{Spelled, Tree, variable, atom, number, wide, float, character, string, function_name, external, noted, alias, list, list_on, tuple, values, new_map, map_on, binary, fun, let_in, letrec, case, apply, call, primop, do_then, catch, try, receive, Row, none, more, Group, single, angled, Pairs, no_pair, pair, Segment, segment, noted_segment, Segments, no_segment, and_segment, Clause, clause, noted_clause, Clauses, no_clause, and_clause, Definitions, no_definition, definition, Attributes, no_attribute, attribute, Written, plain_module, noted_module}
use Rattle.core_grammar.specs.Standing.{Sort, expression, pattern, constant, note, key, segment_value, a_variable, a_name, an_atom, a_fun, inner_sort, item_sort, key_sort, value_sort}

-- what a token has to be: of a kind, of a kind at a place, or an arity
pub data Sight : Type 0 where
  of_kind : TokenKind → Sight
  at_place : Place → TokenKind → Sight
  an_arity : ℕ → Sight

-- a token that is written: what it has to be, its depth, and whether it is the `->` of a catch part that does not have
-- two or three variables
pub record Sign : Type 0 where
  pub sight : Sight
  pub depth : ℕ
  pub marked : Bool

-- An arity is unsigned and takes at most nine bytes, so it has at most nine digits.
pub record IsArityToken (n : ℕ) (t : Token) : Type 0 where
  pub kind : t.kind ≡ Number false (pos n)
  pub bytes : t.to ≤ t.from + 9

-- a token is what it has to be
abbrev pub Fits : Sight → Token → Type 0
Fits (of_kind k) t = t.kind ≡ k
Fits (at_place p k) t = (t.kind ≡ k) × (t.place ≡ p)
Fits (an_arity n) t = IsArityToken n t

-- a sign without a mark
abbrev pub plain_sign : ℕ → Sight → Sign
plain_sign d w = record { sight = w; depth = d; marked = false }

-- a symbol, and then the rest
abbrev pub symbol : ℕ → Symbols.Symbol → List Sign → List Sign
symbol d s r = plain_sign d (of_kind (Symbol s)) ∷ r

-- a word
abbrev pub kept_word : ℕ → Words.Word → List Sign → List Sign
kept_word d w r = plain_sign d (of_kind (Word w)) ∷ r

-- a token of a kind at a place
abbrev pub token_at : ℕ → Place → TokenKind → List Sign → List Sign
token_at d p k r = plain_sign d (at_place p k) ∷ r

-- an atom where it is spelled
abbrev pub spelled : ℕ → Spelled → List Sign → List Sign
spelled d a r = token_at d a.place (Atom a.name) r

-- a slash and an arity
abbrev pub arity : ℕ → ℕ → List Sign → List Sign
arity d n r = symbol d S.Slash (plain_sign d (an_arity n) ∷ r)

-- a comma, but before a first item
abbrev pub comma_before : (first : Bool) → ℕ → List Sign → List Sign
comma_before true d r = r
comma_before false d r = symbol d S.Comma r

-- ( inside )
abbrev pub in_parens : ℕ → (inside : List Sign → List Sign) → List Sign → List Sign
in_parens d inside r = symbol d S.OpenParen (inside (symbol d S.CloseParen r))

-- the arrow of a pair
abbrev pub pair_symbol : (exact : Bool) → Symbols.Symbol
pair_symbol true = S.ExactAssociation
pair_symbol false = S.Association

-- how many items there are
abbrev pub row_count : Row → ℕ
row_count none = 0
row_count (more t ts) = suc (row_count ts)

-- of a group
abbrev pub group_count : Group → ℕ
group_count (single t) = 1
group_count (angled p ts) = row_count ts

-- a catch part has a class and a reason, and maybe a trace
abbrev pub is_catch_count : ℕ → Bool
is_catch_count n = eqb n 2 || eqb n 3

-- the arrow of a catch part with so many variables
abbrev pub catch_arrow : ℕ → ℕ → List Sign → List Sign
catch_arrow d n r = record { sight = of_kind (Symbol S.Arrow); depth = d; marked = not (is_catch_count n) } ∷ r

-- a variable as a key counts nothing, a constant one
abbrev pub key_weight : Tree → ℕ
key_weight (variable p x) = 0
key_weight (noted p t n) = key_weight t
key_weight _ = 1

-- what a node itself counts: names and variables that are no expressions or patterns count nothing
abbrev pub weight : Sort → Tree → ℕ
weight key t = key_weight t
weight segment_value t = 0
weight a_variable t = 0
weight a_name t = 0
weight an_atom t = 0
weight _ t = 1

-- The tokens with those of annotations, or those outside of annotations alone.
module _ (with_notes : Bool) where
  -- ( inside -| note )
  abbrev pub annotated : ℕ → Sight → (inside noting : List Sign → List Sign) → List Sign → List Sign
  annotated d w inside noting r =
      if with_notes
      then plain_sign d w ∷ inside (symbol d S.AnnotationBar (noting (symbol d S.CloseParen r)))
      else inside r

  abbrev mutual
    -- of a node with d nodes around it
    pub on : Sort → ℕ → Tree → List Sign → List Sign
    on s d (variable p x) r = token_at (weight s (variable p x) + d) p (Variable x) r
    on s d (atom p a) r = token_at (weight s (atom p a) + d) p (Atom a) r
    on s d (number p g z) r = token_at (weight s (number p g z) + d) p (Number g z) r
    on s d (wide p n) r = token_at (weight s (wide p n) + d) p (Wide n) r
    on s d (float p) r = token_at (suc d) p Float r
    on s d (character p c) r = token_at (suc d) p (Character c) r
    on s d (string p cs) r = token_at (suc d) p (Letters cs) r
    on s d (function_name p a n) r =
        token_at (weight s (function_name p a n) + d) p (Atom a) (arity (weight s (function_name p a n) + d) n r)
    on s d (external p m f n) r =
        token_at (suc d) p (Word W.Fun) (spelled (suc d) m (symbol (suc d) S.Colon
        (spelled (suc d) f (arity (suc d) n r))))
    on s d (noted p t n) r =
        annotated (suc (weight s (noted p t n) + d)) (at_place p (Symbol S.OpenParen))
        (on (inner_sort s) (suc d) t) (on note (suc (weight s (noted p t n) + d)) n) r
    on s d (alias x t) r = on a_variable (suc d) x (symbol (suc d) S.Equals (on pattern (suc d) t r))
    on s d (list p ts) r =
        token_at (suc d) p (Symbol S.OpenBracket) (row_on true (item_sort s) (suc d) ts
        (symbol (suc d) S.CloseBracket r))
    on s d (list_on p t ts u) r =
        token_at (suc d) p (Symbol S.OpenBracket) (on (item_sort s) (suc d) t (row_on false (item_sort s) (suc d) ts
        (symbol (suc d) S.Bar (on (item_sort s) (suc d) u (symbol (suc d) S.CloseBracket r)))))
    on s d (tuple p ts) r =
        token_at (suc d) p (Symbol S.OpenBrace) (row_on true (item_sort s) (suc d) ts (symbol (suc d) S.CloseBrace r))
    on s d (values p ts) r =
        token_at (suc d) p (Symbol S.OpenAngle) (row_on true expression (suc d) ts (symbol (suc d) S.CloseAngle r))
    on s d (new_map p ps) r =
        token_at (suc d) p (Symbol S.OpenMap) (pairs_on true s (suc d) ps (symbol (suc d) S.CloseMap r))
    on s d (map_on p ps t) r =
        token_at (suc d) p (Symbol S.OpenMap) (pairs_on true s (suc d) ps
        (symbol (suc d) S.Bar (on expression (suc d) t (symbol (suc d) S.CloseMap r))))
    on s d (binary p gs) r =
        token_at (suc d) p (Symbol S.OpenBinary) (segments_on true s (suc d) gs (symbol (suc d) S.CloseBinary r))
    on s d (fun p xs t) r =
        token_at (suc d) p (Word W.Fun) (symbol (suc d) S.OpenParen (row_on true a_variable (suc d) xs
        (symbol (suc d) S.CloseParen (symbol (suc d) S.Arrow (on expression (suc d) t r)))))
    on s d (let_in p xs t u) r =
        token_at (suc d) p (Word W.Let) (group_on a_variable (suc d) xs
        (symbol (suc d) S.Equals (on expression (suc d) t (kept_word (suc d) W.In (on expression (suc d) u r)))))
    on s d (letrec p ds t) r =
        token_at (suc d) p (Word W.Letrec) (definitions_on (suc d) ds (kept_word (suc d) W.In
        (on expression (suc d) t r)))
    on s d (case p t c cs) r =
        token_at (suc d) p (Word W.Case) (on expression (suc d) t (kept_word (suc d) W.Of
        (clause_on (suc d) c (clauses_on (suc d) cs (kept_word (suc d) W.End r)))))
    on s d (apply p t ts) r =
        token_at (suc d) p (Word W.Apply)
        (on expression (suc d) t (in_parens (suc d) (row_on true expression (suc d) ts) r))
    on s d (call p m f ts) r =
        token_at (suc d) p (Word W.Call) (on expression (suc d) m
        (symbol (suc d) S.Colon (on expression (suc d) f (in_parens (suc d) (row_on true expression (suc d) ts) r))))
    on s d (primop p a ts) r = token_at (suc d) p (Word W.Primop)
        (spelled (suc d) a (in_parens (suc d) (row_on true expression (suc d) ts) r))
    on s d (do_then p t u) r =
        token_at (suc d) p (Word W.Do) (on expression (suc d) t (on expression (suc d) u r))
    on s d (catch p t) r = token_at (suc d) p (Word W.Catch) (on expression (suc d) t r)
    on s d (try p t xs u ys v) r =
        token_at (suc d) p (Word W.Try) (on expression (suc d) t (kept_word (suc d) W.Of (group_on a_variable (suc d) xs
        (symbol (suc d) S.Arrow (on expression (suc d) u (kept_word (suc d) W.Catch (group_on a_variable (suc d) ys
        (catch_arrow (suc d) (group_count ys) (on expression (suc d) v r)))))))))
    on s d (receive p cs t u) r =
        token_at (suc d) p (Word W.Receive) (clauses_on (suc d) cs (kept_word (suc d) W.After
        (on expression (suc d) t (symbol (suc d) S.Arrow (on expression (suc d) u r)))))

    -- items, the first of them without a comma
    pub row_on : (first : Bool) → Sort → ℕ → Row → List Sign → List Sign
    row_on first s d none r = r
    row_on first s d (more t ts) r = comma_before first d (on s d t (row_on false s d ts r))

    -- one item, or items in angle brackets
    pub group_on : Sort → ℕ → Group → List Sign → List Sign
    group_on s d (single t) r = on s d t r
    group_on s d (angled p ts) r =
        token_at d p (Symbol S.OpenAngle) (row_on true s d ts (symbol d S.CloseAngle r))

    -- pairs of a map
    pub pairs_on : (first : Bool) → Sort → ℕ → Pairs → List Sign → List Sign
    pairs_on first s d no_pair r = r
    pairs_on first s d (pair t x u ps) r =
        comma_before first d (on (key_sort s) d t (symbol d (pair_symbol x)
        (on (item_sort s) d u (pairs_on false s d ps r))))

    -- a segment counts nothing itself
    pub segment_on : Sort → ℕ → Segment → List Sign → List Sign
    segment_on s d (segment p t u n k f) r =
        token_at d p (Symbol S.OpenSegment) (on (value_sort s) d t (symbol d S.CloseAngle (symbol d S.OpenParen
        (on (key_sort s) d u (symbol d S.Comma (on constant d n (symbol d S.Comma (on an_atom d k
        (symbol d S.Comma (on constant d f (symbol d S.CloseParen r)))))))))))
    segment_on s d (noted_segment g n) r =
        annotated (suc d) (of_kind (Symbol S.OpenParen)) (segment_on s (suc d) g) (on note (suc d) n) r

    -- segments of a binary
    pub segments_on : (first : Bool) → Sort → ℕ → Segments → List Sign → List Sign
    segments_on first s d no_segment r = r
    segments_on first s d (and_segment g gs) r = comma_before first d (segment_on s d g (segments_on false s d gs r))

    -- a clause with d nodes around it
    pub clause_on : ℕ → Clause → List Sign → List Sign
    clause_on d (clause ts t u) r =
        group_on pattern (suc d) ts (kept_word (suc d) W.When (on expression (suc d) t
        (symbol (suc d) S.Arrow (on expression (suc d) u r))))
    clause_on d (noted_clause c n) r =
        annotated (suc (suc d)) (of_kind (Symbol S.OpenParen)) (clause_on (suc d) c) (on note (suc (suc d)) n) r

    -- one after the other
    pub clauses_on : ℕ → Clauses → List Sign → List Sign
    clauses_on d no_clause r = r
    clauses_on d (and_clause c cs) r = clause_on d c (clauses_on d cs r)

    -- definitions, which count one each
    pub definitions_on : ℕ → Definitions → List Sign → List Sign
    definitions_on d no_definition r = r
    definitions_on d (definition x t ds) r =
        on a_name (suc d) x (symbol (suc d) S.Equals (on a_fun (suc d) t (definitions_on d ds r)))

  -- the attributes of a module
  abbrev pub attributes_on : (first : Bool) → ℕ → Attributes → List Sign → List Sign
  attributes_on first d no_attribute r = r
  attributes_on first d (attribute a t bs) r =
      comma_before first d (on an_atom d a (symbol d S.Equals (on constant d t (attributes_on false d bs r))))

  -- a module, within d annotations
  abbrev pub module_on : ℕ → Written → List Sign → List Sign
  module_on d (plain_module a xs bs ds) r =
      kept_word d W.Module (spelled d a (symbol d S.OpenBracket (row_on true a_name d xs (symbol d S.CloseBracket
      (kept_word d W.Attributes (symbol d S.OpenBracket (attributes_on true d bs (symbol d S.CloseBracket
      (definitions_on d ds (kept_word d W.End r))))))))))
  module_on d (noted_module w n) r =
      annotated (suc d) (of_kind (Symbol S.OpenParen)) (module_on (suc d) w) (on note (suc d) n) r

-- the tokens of a module, the end of the text among them
abbrev pub signs : Written → List Sign
signs w = module_on true 0 w (plain_sign 0 (of_kind End) ∷ [])

-- those outside of annotations, in the order of the text
abbrev pub signs_outside_notes : Written → List Sign
signs_outside_notes w = module_on false 0 w []

-- the tokens fit the first of the signs, none of which is marked
abbrev pub FitFront : List Sign → List Token → Type 0
FitFront gs [] = ⊤
FitFront [] (t ∷ ts) = ⊥
FitFront (g ∷ gs) (t ∷ ts) = Fits g.sight t × (g.marked ≡ false) × FitFront gs ts

-- the tokens fit all of the signs, none of which is marked
abbrev pub FitWhole : List Sign → List Token → Type 0
FitWhole [] [] = ⊤
FitWhole [] (t ∷ ts) = ⊥
FitWhole (g ∷ gs) [] = ⊥
FitWhole (g ∷ gs) (t ∷ ts) = Fits g.sight t × (g.marked ≡ false) × FitWhole gs ts
