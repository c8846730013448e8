-- The plans of trees.
use Rattle.std.proofs.Common.{◌≡◌, refl, ℕ, suc, ◌+◌, List, [], ◌∷◌, Bool, true, false, not, ◌&&◌, ◌||◌, IsTrue, Option, None, Some}
use Rattle.std.specs.List.{list_all}
use Rattle.erl_base.specs.Names.{Name}
use Rattle.erl_base.specs.declared.ids.Place.{Place}
use Rattle.erl_term.specs.Ranges.{is_within_128}
use Rattle.core_lex.specs.declared.token.TokenKind.{TokenKind}
use Rattle.core_lex.specs.declared.token.TokenKind.TheVariants.{Word, Symbol, Variable, Atom, Number, Wide, Float, Character, Letters, Bad, End}
use Rattle.core_lex.specs.declared.token.Word as Words
use Rattle.core_lex.specs.declared.token.Word.TheVariants as W
use Rattle.core_lex.specs.declared.token.Symbol as Symbols
use Rattle.core_lex.specs.declared.token.Symbol.TheVariants as S
use Rattle.core_form.specs.SourceTree.{is_variable_name}
use Rattle.core_grammar.specs.WrittenTree.{Tree, variable, atom, number, wide, float, character, string, function_name, external, noted, alias, list, list_on, tuple, values, new_map, map_on, binary, fun, let_in, letrec, case, apply, call as call_of, primop, do_then, catch, try, receive, Row, none, more, Pairs, Segments}
use Rattle.core_grammar.specs.Standing.{Sort, expression, pattern, constant, note, key, segment_value, a_variable, a_name, an_atom, a_fun, takes_variable, takes_constant, takes_integer, takes_atom, takes_list, takes_name, takes_fun, takes_expression, takes_binary, inner_sort, item_sort, is_code, Stands, RowStands, PairsStand}
use Rattle.core_grammar.specs.ConstantTerms.{bits_of_segments}
use Rattle.core_grammar.specs.Signs.{Sign, at_place, plain_sign, weight, key_weight, symbol, token_at, is_catch_count, group_count, on, row_on, pairs_on}
use Rattle.core_texts.proofs.Fronts.{is_slash, is_bar, is_paren, equals_in}
use Rattle.core_texts.proofs.Truths.{never, and_left, and_right}
use Rattle.core_texts.proofs.Bits.{bits_all}
use Rattle.core_texts.proofs.Parts.{Part, tree_part, group_part, clause_part, there, is_strict, all_bits, here}
use Rattle.core_texts.proofs.Plans.{Plan, done, symbol_next, word_next, arity_next, look, call, bracket, if_next, Looked}
use Rattle.core_texts.proofs.Steps.{atom_plan, note_plan, rows, some_pairs_plan, some_segments_plan, some_clauses_plan, some_definitions_plan}
use Rattle.core_texts.proofs.Annotated.{is_key, noted_weight, noted_signs, as_variable, is_variable_like, like_stands, key_bracket}

-- What begins a tree, and how deep it is.

abbrev pub takes_symbol : Sort → Symbols.Symbol → Bool
takes_symbol s S.OpenParen = not (is_key s)
takes_symbol s S.OpenBracket = takes_list s
takes_symbol s S.OpenBrace = takes_constant s
takes_symbol s S.OpenAngle = takes_expression s
takes_symbol s S.OpenMap = takes_constant s
takes_symbol s S.OpenBinary = takes_constant s
takes_symbol s _ = false

abbrev pub takes_word : Sort → Words.Word → Bool
takes_word s W.Fun = takes_fun s || takes_constant s
takes_word s W.Let = takes_expression s
takes_word s W.Letrec = takes_expression s
takes_word s W.Case = takes_expression s
takes_word s W.Apply = takes_expression s
takes_word s W.Call = takes_expression s
takes_word s W.Primop = takes_expression s
takes_word s W.Do = takes_expression s
takes_word s W.Catch = takes_expression s
takes_word s W.Try = takes_expression s
takes_word s W.Receive = takes_expression s
takes_word s _ = false

abbrev pub takes_tree : Sort → TokenKind → Bool
takes_tree s (Variable x) = takes_variable s && is_variable_name x
takes_tree s (Atom a) = takes_atom s || takes_name s
takes_tree s (Number g z) = takes_integer s && is_within_128 z
takes_tree s (Wide n) = takes_integer s
takes_tree s Float = takes_constant s
takes_tree s (Character c) = takes_constant s && is_code c
takes_tree s (Letters cs) = takes_list s && list_all is_code cs
takes_tree s (Symbol x) = takes_symbol s x
takes_tree s (Word x) = takes_word s x
takes_tree s Bad = false
takes_tree s End = false

abbrev pub symbol_depth : Sort → ℕ → Place → Symbols.Symbol → ℕ
symbol_depth s d p S.OpenParen = suc (noted_weight s p + d)
symbol_depth s d p _ = suc d

abbrev pub tree_depth : Sort → ℕ → Place → TokenKind → ℕ
tree_depth s d p (Variable x) = weight s (variable p x) + d
tree_depth s d p (Atom a) = weight s (atom p a) + d
tree_depth s d p (Number g z) = weight s (number p g z) + d
tree_depth s d p (Wide n) = weight s (wide p n) + d
tree_depth s d p (Symbol x) = symbol_depth s d p x
tree_depth s d p _ = suc d

-- a token that begins one
abbrev pub least_kind : Sort → TokenKind
least_kind segment_value = Wide 0
least_kind a_variable = Symbol S.OpenParen
least_kind a_name = Atom []
least_kind an_atom = Atom []
least_kind a_fun = Word W.Fun
least_kind _ = Symbol S.OpenBracket

pub least_taken : (s : Sort) → takes_tree s (least_kind s) ≡ true
least_taken segment_value = refl
least_taken a_variable = refl
least_taken a_name = refl
least_taken an_atom = refl
least_taken a_fun = refl
least_taken _ = refl

abbrev pub tree_looked : Sort → ℕ → Looked
tree_looked s d = record {
  takes = takes_tree s;
  depth = tree_depth s d;
  no_bad = refl;
  no_end = refl;
  place = here;
  kind = least_kind s;
  one = least_taken s;
}

-- the plan behind a token
abbrev pub Behind : Sort → ℕ → Place → TokenKind → Type 0
Behind s d p x = Plan (tree_part s d) (λ r. plain_sign (tree_depth s d p x) (at_place p x) ∷ r)

-- the plan behind a symbol or a word that counts one
abbrev pub Inside : Sort → ℕ → Place → TokenKind → Type 0
Inside s d p x = Plan (tree_part s d) (λ r. token_at (suc d) p x r)

-- Leaves.

abbrev pub variable_plan : (s : Sort) (d : ℕ) (p : Place) (x : Name) → takes_tree s (Variable x) ≡ true
    → Behind s d p (Variable x)
variable_plan pattern d p x h =
    if_next (equals_in true)
    (symbol_next true (suc d) S.Equals (call (tree_part pattern (suc d)) λ t i.
    done (alias (variable p x) t) (refl, (refl, h), i) (λ r. as_variable (variable p x) (refl, h) d _)))
    (done (variable p x) (refl, h) (λ r. refl))
variable_plan s d p x h =
    done (variable p x) (
      and_left (takes_variable s) (is_variable_name x) h,
      and_right (takes_variable s)
          (is_variable_name x) h,
    )
    (λ r. refl)

abbrev pub atom_tree_plan : (s : Sort) (d : ℕ) (p : Place) (a : Name) → takes_tree s (Atom a) ≡ true
    → Behind s d p (Atom a)
atom_tree_plan expression d p a h =
    if_next is_slash
    (symbol_next true (1 + d) S.Slash (arity_next (1 + d) λ n i.
    done (function_name p a n) (refl, i) (λ r. refl)))
    (done (atom p a) refl (λ r. refl))
atom_tree_plan a_name d p a h =
    symbol_next true (0 + d) S.Slash (arity_next (0 + d) λ n i. done (function_name p a n) (refl, i) (λ r. refl))
atom_tree_plan pattern d p a h = done (atom p a) refl (λ r. refl)
atom_tree_plan constant d p a h = done (atom p a) refl (λ r. refl)
atom_tree_plan key d p a h = done (atom p a) refl (λ r. refl)
atom_tree_plan an_atom d p a h = done (atom p a) refl (λ r. refl)
atom_tree_plan _ d p a h = never h

-- Brackets.

abbrev pub other_noted : (s : Sort) (d : ℕ) (p : Place) → is_key s ≡ false → Behind s d p (Symbol S.OpenParen)
other_noted s d p h =
    call (tree_part (inner_sort s) (suc d)) λ t i. note_plan (suc (noted_weight s p + d)) λ n j.
    done (noted p t n) (i, j) (λ r. noted_signs s h d p t n r)

-- behind an annotated pattern, which a pattern of its own may follow where it is a variable
abbrev pub alias_end : (d : ℕ) (p : Place) (t n : Tree) → Stands pattern t → Stands note n → (b : Bool)
    → is_variable_like t ≡ b → Plan (tree_part pattern d) (λ r. on true pattern d (noted p t n) r)
alias_end d p t n i j true e =
    if_next (equals_in true)
    (symbol_next true (suc d) S.Equals (call (tree_part pattern (suc d)) λ u k.
    done (alias (noted p t n) u) (refl, (like_stands t e i, j), k)
    (λ r. as_variable (noted p t n) (like_stands t e i, j) d _)))
    (done (noted p t n) (i, j) (λ r. refl))
alias_end d p t n i j false e = done (noted p t n) (i, j) (λ r. refl)

abbrev pub noted_plan : (s : Sort) (d : ℕ) (p : Place) → not (is_key s) ≡ true → Behind s d p (Symbol S.OpenParen)
noted_plan pattern d p h =
    call (tree_part pattern (suc d)) λ t i. note_plan (suc (1 + d)) λ n j.
    alias_end d p t n i j (is_variable_like t) refl
noted_plan expression d p h = other_noted expression d p refl
noted_plan constant d p h = other_noted constant d p refl
noted_plan note d p h = other_noted note d p refl
noted_plan segment_value d p h = other_noted segment_value d p refl
noted_plan a_variable d p h = other_noted a_variable d p refl
noted_plan a_name d p h = other_noted a_name d p refl
noted_plan an_atom d p h = other_noted an_atom d p refl
noted_plan a_fun d p h = other_noted a_fun d p refl
noted_plan key d p h = never h

abbrev pub list_end : (s : Sort) (d : ℕ) (p : Place) → takes_list s ≡ true → (ts : Row) → RowStands (item_sort s) ts
    → Plan (tree_part s d) (λ r. token_at (suc d) p (Symbol S.OpenBracket) (row_on true true (item_sort s)
    (suc d) ts r))
list_end s d p h none i = symbol_next true (suc d) S.CloseBracket (done (list p none) (h, tt) (λ r. refl))
list_end s d p h (more t ts) i =
    if_next is_bar
    (symbol_next true (suc d) S.Bar (call (tree_part (item_sort s) (suc d)) λ u j.
    symbol_next true (suc d) S.CloseBracket (done (list_on p t ts u) (h, i.0, i.1, j) (λ r. refl))))
    (symbol_next true (suc d) S.CloseBracket (done (list p (more t ts)) (h, i) (λ r. refl)))

abbrev pub map_end : (s : Sort) (d : ℕ) (p : Place) → takes_constant s ≡ true → (ps : Pairs) → PairsStand s ps
    → Plan (tree_part s d) (λ r. token_at (suc d) p (Symbol S.OpenMap) (pairs_on true true s (suc d) ps r))
map_end expression d p h ps i =
    if_next is_bar
    (symbol_next true (suc d) S.Bar (call (tree_part expression (suc d)) λ t j.
    symbol_next true (suc d) S.CloseMap (done (map_on p ps t) (refl, i, j) (λ r. refl))))
    (symbol_next true (suc d) S.CloseMap (done (new_map p ps) (h, i) (λ r. refl)))
map_end s d p h ps i = symbol_next true (suc d) S.CloseMap (done (new_map p ps) (h, i) (λ r. refl))

there_true : (o : Option (List Bool)) → there o ≡ true
    → elim o as (λ x. Bool) [ None ↦ false | Some bs ↦ true ] ≡ true
there_true None h = h
there_true (Some bs) h = refl

pub binary_right : (s : Sort) (gs : Segments) → takes_constant s ≡ true → all_bits (is_strict s) gs ≡ true
    → IsTrue (takes_binary s gs)
binary_right expression gs h k = refl
binary_right pattern gs h k = refl
binary_right constant gs h k = there_true (bits_of_segments gs) (bits_all gs k)
binary_right key gs h k = there_true (bits_of_segments gs) (bits_all gs k)
binary_right _ gs h k = never h

abbrev pub symbol_plan : (s : Sort) (d : ℕ) (p : Place) (x : Symbols.Symbol) → takes_symbol s x ≡ true
    → Behind s d p (Symbol x)
symbol_plan s d p S.OpenParen h = noted_plan s d p h
symbol_plan s d p S.OpenBracket h = rows (item_sort s) (suc d) λ ts i. list_end s d p h ts i
symbol_plan s d p S.OpenBrace h =
    rows (item_sort s) (suc d) λ ts i.
    symbol_next true (suc d) S.CloseBrace (done (tuple p ts) (h, i) (λ r. refl))
symbol_plan s d p S.OpenAngle h =
    rows expression (suc d) λ ts i.
    symbol_next true (suc d) S.CloseAngle (done (values p ts) (h, i) (λ r. refl))
symbol_plan s d p S.OpenMap h = some_pairs_plan s (suc d) λ ps i. map_end s d p h ps i
symbol_plan s d p S.OpenBinary h =
    some_segments_plan s (suc d) λ gs i j.
    symbol_next true (suc d) S.CloseBinary (done (binary p gs) (binary_right s gs h j, i) (λ r. refl))
symbol_plan s d p _ h = never h

-- Words.

abbrev pub local_plan : (s : Sort) (d : ℕ) (p : Place) → takes_fun s ≡ true → Inside s d p (Word W.Fun)
local_plan s d p h =
    symbol_next true (suc d) S.OpenParen (rows a_variable (suc d) λ xs i.
    symbol_next true (suc d) S.CloseParen (symbol_next true (suc d) S.Arrow
    (call (tree_part expression (suc d)) λ t j. done (fun p xs t) (h, i, j) (λ r. refl))))

abbrev pub external_plan : (s : Sort) (d : ℕ) (p : Place) → takes_constant s ≡ true → Inside s d p (Word W.Fun)
external_plan s d p h =
    atom_plan (suc d) λ m. symbol_next true (suc d) S.Colon (atom_plan (suc d) λ f.
    symbol_next true (suc d) S.Slash (arity_next (suc d) λ n i. done (external p m f n) (h, i) (λ r. refl)))

abbrev pub fun_plan : (s : Sort) (d : ℕ) (p : Place) → (takes_fun s || takes_constant s) ≡ true
    → Inside s d p (Word W.Fun)
fun_plan expression d p h = if_next is_paren (local_plan expression d p refl) (external_plan expression d p refl)
fun_plan a_fun d p h = local_plan a_fun d p refl
fun_plan pattern d p h = external_plan pattern d p refl
fun_plan constant d p h = external_plan constant d p refl
fun_plan key d p h = external_plan key d p refl
fun_plan _ d p h = never h

-- ( arguments )
abbrev pub arguments_plan : {w : Part} {k : List Sign → List Sign} (d : ℕ)
    → ((ts : Row) → RowStands expression ts
    → Plan w (λ r. k (symbol d S.OpenParen (row_on true true expression d ts (symbol d S.CloseParen r))))) → Plan w k
arguments_plan d f =
    symbol_next true d S.OpenParen (rows expression d λ ts i. symbol_next true d S.CloseParen (f ts i))

abbrev pub word_plan : (s : Sort) (d : ℕ) (p : Place) (x : Words.Word) → takes_word s x ≡ true
    → Inside s d p (Word x)
word_plan s d p W.Fun h = fun_plan s d p h
word_plan s d p W.Let h =
    call (group_part (suc d)) λ xs i. symbol_next true (suc d) S.Equals (call (tree_part expression (suc d)) λ t j.
    word_next (suc d) W.In (call (tree_part expression (suc d)) λ u k. done (let_in p xs t u) (h, i, j, k) (λ r. refl)))
word_plan s d p W.Letrec h =
    some_definitions_plan (suc d) λ ds i. word_next (suc d) W.In (call (tree_part expression (suc d)) λ t j.
    done (letrec p ds t) (h, i, j) (λ r. refl))
word_plan s d p W.Case h =
    call (tree_part expression (suc d)) λ t i. word_next (suc d) W.Of (call (clause_part (suc d)) λ c j.
    some_clauses_plan (suc d) λ cs k. word_next (suc d) W.End (done (case p t c cs) (h, i, j, k) (λ r. refl)))
word_plan s d p W.Apply h =
    call (tree_part expression (suc d)) λ t i. arguments_plan (suc d) λ ts j. done (apply p t ts) (h, i, j) (λ r. refl)
word_plan s d p W.Call h =
    call (tree_part expression (suc d)) λ t i. symbol_next true (suc d) S.Colon
    (call (tree_part expression (suc d)) λ u j. arguments_plan (suc d) λ ts k.
    done (call_of p t u ts) (h, i, j, k) (λ r. refl))
word_plan s d p W.Primop h =
    atom_plan (suc d) λ a. arguments_plan (suc d) λ ts j. done (primop p a ts) (h, j) (λ r. refl)
word_plan s d p W.Do h =
    call (tree_part expression (suc d)) λ t i. call (tree_part expression (suc d)) λ u j.
    done (do_then p t u) (h, i, j) (λ r. refl)
word_plan s d p W.Catch h = call (tree_part expression (suc d)) λ t i. done (catch p t) (h, i) (λ r. refl)
word_plan s d p W.Try h =
    call (tree_part expression (suc d)) λ t i. word_next (suc d) W.Of (call (group_part (suc d)) λ xs j.
    symbol_next true (suc d) S.Arrow (call (tree_part expression (suc d)) λ u k.
    word_next (suc d) W.Catch (call (group_part (suc d)) λ ys l.
    symbol_next (is_catch_count (group_count ys)) (suc d) S.Arrow (call (tree_part expression (suc d)) λ v m.
    done (try p t xs u ys v) (h, i, j, k, l, m) (λ r. refl)))))
word_plan s d p W.Receive h =
    some_clauses_plan (suc d) λ cs i. word_next (suc d) W.After (call (tree_part expression (suc d)) λ t j.
    symbol_next true (suc d) S.Arrow (call (tree_part expression (suc d)) λ u k.
    done (receive p cs t u) (h, i, j, k) (λ r. refl)))
word_plan s d p _ h = never h

-- Trees.

abbrev pub tree_behind : (s : Sort) (d : ℕ) (p : Place) (x : TokenKind) → takes_tree s x ≡ true → Behind s d p x
tree_behind s d p (Variable x) h = variable_plan s d p x h
tree_behind s d p (Atom a) h = atom_tree_plan s d p a h
tree_behind s d p (Number g z) h =
    done (number p g z) (
      and_left (takes_integer s) (is_within_128 z) h,
      and_right (takes_integer s)
          (is_within_128 z) h,
    )
    (λ r. refl)
tree_behind s d p (Wide n) h = done (wide p n) h (λ r. refl)
tree_behind s d p Float h = done (float p) h (λ r. refl)
tree_behind s d p (Character c) h =
    done (character p c) (and_left (takes_constant s) (is_code c) h, and_right (takes_constant s) (is_code c) h)
    (λ r. refl)
tree_behind s d p (Letters cs) h =
    done (string p cs) (
      and_left (takes_list s) (list_all is_code cs) h,
      and_right (takes_list s)
          (list_all is_code cs) h,
    )
    (λ r. refl)
tree_behind s d p (Symbol x) h = symbol_plan s d p x h
tree_behind s d p (Word x) h = word_plan s d p x h
tree_behind s d p Bad h = never h
tree_behind s d p End h = never h

abbrev pub noted_key_plan : (d : ℕ) (p : Place) (t : Tree) → Stands key t
    → Plan (tree_part key d) (λ r. token_at (suc (key_weight t + d)) p (Symbol S.OpenParen) (on true key (suc d) t r))
noted_key_plan d p t i = note_plan (suc (key_weight t + d)) λ n j. done (noted p t n) (i, j) (λ r. refl)

abbrev pub key_plan : (d : ℕ) → Plan (tree_part key d) (λ r. r)
key_plan d =
    if_next is_paren
    (bracket (tree_part key (suc d)) (key_bracket d) λ p t i. noted_key_plan d p t i)
    (look (tree_looked key d) (tree_behind key d))

abbrev pub tree_plan : (s : Sort) (d : ℕ) → Plan (tree_part s d) (λ r. r)
tree_plan key d = key_plan d
tree_plan s d = look (tree_looked s d) (tree_behind s d)
