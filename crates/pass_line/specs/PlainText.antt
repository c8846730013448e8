-- The texts of plain modules, and their trees: the part of Core Erlang (1.0.3, section 4) that is compiled today.
--   Module = module Atom [ FName,* ] attributes [ ] Def* end        FName = Atom / Integer
--   Def    = FName = fun ( Var,* ) -> E                             E     = Integer | Atom | Var
use Rattle.std.specs.Prelude.{◌≡◌, ◌-◌, ℕ, List, [], ◌∷◌, ◌++◌, Bool, true, false, ◌&&◌, not, IsTrue, nat_le, ◌==◌, pos, chars, IsUtf8, if◌then◌else◌, Option, Some, None, option_map}
use Rattle.std.specs.List.{list_any}
use Rattle.erl_base.specs.Ascii.{percent}
use Rattle.erl_base.specs.Names.{Name}
use Rattle.erl_base.specs.declared.ids.Place.{Place}
use Rattle.erl_term.specs.Term.{int, atom, nil}
use Rattle.core_lex.specs.declared.token.Token.{Token}
use Rattle.core_lex.specs.declared.token.TokenKind.{TokenKind}
use Rattle.core_lex.specs.declared.token.TokenKind.TheVariants.{Word, Symbol, Variable, Atom, Number, End}
use Rattle.core_lex.specs.declared.token.Symbol.TheVariants as S
use Rattle.core_lex.specs.declared.token.Word.TheVariants as W
use Rattle.core_lex.specs.Tokens.{tokens}
use Rattle.core_form.specs.declared.tree.Binder.{Binder}
use Rattle.core_form.specs.declared.module.FunName.{FunName}
use Rattle.core_form.specs.Core.{Expr, literal, var, fun, Def, def, Module}
use Rattle.core_form.specs.View as View
use Rattle.beam_table.specs.OperandBounds.{most_arity}
use Rattle.pass_line.specs.PlainModule.{IsPlain}

-- What a token is: which symbol, which word, the end of the text, an atom or a variable.

-- the symbol `(`
abbrev pub is_open_paren : TokenKind → Bool
is_open_paren (Symbol S.OpenParen) = true
is_open_paren _ = false

-- the symbol `)`
abbrev pub is_close_paren : TokenKind → Bool
is_close_paren (Symbol S.CloseParen) = true
is_close_paren _ = false

-- the symbol `,`
abbrev pub is_comma : TokenKind → Bool
is_comma (Symbol S.Comma) = true
is_comma _ = false

-- the symbol `->`
abbrev pub is_arrow : TokenKind → Bool
is_arrow (Symbol S.Arrow) = true
is_arrow _ = false

-- the symbol `/`
abbrev pub is_slash : TokenKind → Bool
is_slash (Symbol S.Slash) = true
is_slash _ = false

-- the symbol `=`
abbrev pub is_equals : TokenKind → Bool
is_equals (Symbol S.Equals) = true
is_equals _ = false

-- the symbol `[`
abbrev pub is_open_bracket : TokenKind → Bool
is_open_bracket (Symbol S.OpenBracket) = true
is_open_bracket _ = false

-- the symbol `]`
abbrev pub is_close_bracket : TokenKind → Bool
is_close_bracket (Symbol S.CloseBracket) = true
is_close_bracket _ = false

-- the word `attributes`
abbrev pub is_attributes_word : TokenKind → Bool
is_attributes_word (Word W.Attributes) = true
is_attributes_word _ = false

-- the word `end`
abbrev pub is_end_word : TokenKind → Bool
is_end_word (Word W.End) = true
is_end_word _ = false

-- the word `fun`
abbrev pub is_fun_word : TokenKind → Bool
is_fun_word (Word W.Fun) = true
is_fun_word _ = false

-- the word `module`
abbrev pub is_module_word : TokenKind → Bool
is_module_word (Word W.Module) = true
is_module_word _ = false

-- the end of the text
abbrev pub is_end : TokenKind → Bool
is_end End = true
is_end _ = false

-- an atom
abbrev pub is_atom : TokenKind → Bool
is_atom (Atom name) = true
is_atom _ = false

-- a variable
abbrev pub is_variable : TokenKind → Bool
is_variable (Variable name) = true
is_variable _ = false

-- the characters of an atom or a variable
abbrev pub name_of : TokenKind → Name
name_of (Atom name) = name
name_of (Variable name) = name
name_of _ = []

-- E = Integer | Atom | Var

-- an integer of 128 bits, an atom or a variable
abbrev pub is_value : TokenKind → Bool
is_value (Number signed z) = true
is_value (Atom name) = true
is_value (Variable name) = true
is_value _ = false

-- the expression that such a token writes
abbrev pub value_of : TokenKind → Place → Expr
value_of (Number signed z) p = literal p (int z)
value_of (Atom name) p = literal p (atom name)
value_of (Variable name) p = var p name
value_of _ p = literal p nil

-- FName = Atom / Integer: the integer has no sign, at most nine digits, and is within the limit.

-- an unsigned number of at most nine digits, up to the limit
abbrev pub is_arity_in : TokenKind → (digits : ℕ) → Bool
is_arity_in (Number false (pos n)) digits = nat_le digits 9 && nat_le n most_arity
is_arity_in _ digits = false

-- the number of such a token
abbrev pub arity_in : TokenKind → ℕ
arity_in (Number signed (pos n)) = n
arity_in _ = 0

-- an atom, a slash and an arity
abbrev pub is_fun_name : (name slash arity : Token) → Bool
is_fun_name a s n = is_atom a.kind && is_slash s.kind && is_arity_in n.kind (n.to - n.from)

-- the function that they name
abbrev pub fun_name : (name arity : Token) → FunName
fun_name a n = record { key = record { name = name_of a.kind; arity = arity_in n.kind }; place = a.place }

-- FName,* ]: the names after those found, and what follows them

-- the names behind those found, up to `]`, and what follows it
unfoldable pub names_from : (found : List FunName) → List Token → Option (List FunName × List Token)
names_from found (a ∷ s ∷ n ∷ c ∷ ts) =
    if not (is_fun_name a s n) then None
    else if is_close_bracket c.kind then Some (found ++ fun_name a n ∷ [], ts)
    else if is_comma c.kind then names_from (found ++ fun_name a n ∷ []) ts else None
names_from found _ = None

-- the names behind `[`, and what follows them
unfoldable pub names : List Token → Option (List FunName × List Token)
names [] = None
names (c ∷ ts) = if is_close_bracket c.kind then Some ([], ts) else names_from [] (c ∷ ts)

-- Def* end: before a definition; in the parameters of the function f, whose `fun` stands at p: behind `(`, behind the
-- parameters xs, behind a `,`; and behind `)`

-- a variable that is bound
abbrev pub binder : Token → Binder
binder t = record { name = name_of t.kind; place = t.place }

-- what stands between the name of a function and its parameters
abbrev pub opens_fun : (equals fun_word paren : Token) → Bool
opens_fun e f o = is_equals e.kind && is_fun_word f.kind && is_open_paren o.kind

-- `end`, and nothing behind it
abbrev pub ends : (word last : Token) → Bool
ends w t = is_end_word w.kind && is_end t.kind

-- the definition of a function with this value as its body
abbrev pub def_of : FunName → Place → List Binder → Token → Def
def_of f p xs e = def f.place f.key (fun p xs (value_of e.kind e.place))

unfoldable mutual
  pub defs : (found : List Def) → List Token → Option (List Def)
  defs found (a ∷ s ∷ n ∷ e ∷ f ∷ o ∷ ts) =
      if is_fun_name a s n && opens_fun e f o then params found (fun_name a n) f.place ts else None
  defs found (w ∷ t ∷ []) = if ends w t then Some found else None
  defs found _ = None

  pub params : (found : List Def) → FunName → Place → List Token → Option (List Def)
  params found f p [] = None
  params found f p (t ∷ ts) =
      if is_close_paren t.kind then body found f p [] ts
      else if is_variable t.kind then params_after found f p (binder t ∷ []) ts else None

  pub params_after : (found : List Def) → FunName → Place → (xs : List Binder) → List Token → Option (List Def)
  params_after found f p xs [] = None
  params_after found f p xs (t ∷ ts) =
      if is_close_paren t.kind then body found f p xs ts
      else if is_comma t.kind then params_more found f p xs ts else None

  pub params_more : (found : List Def) → FunName → Place → (xs : List Binder) → List Token → Option (List Def)
  params_more found f p xs [] = None
  params_more found f p xs (t ∷ ts) =
      if is_variable t.kind then params_after found f p (xs ++ binder t ∷ []) ts else None

  pub body : (found : List Def) → FunName → Place → (xs : List Binder) → List Token → Option (List Def)
  body found f p xs (w ∷ e ∷ ts) =
      if is_arrow w.kind && is_value e.kind then defs (found ++ def_of f p xs e ∷ []) ts else None
  body found f p xs _ = None

-- a module

-- a module with these functions and no attributes
abbrev pub module_of : Name → List FunName → List Def → Module
module_of name exports ds = record {
  name = name;
  exports = exports;
  attributes = [];
  defs = View.defs ds;
  floats = None;
  wide = None;
  long = None;
}

-- `module` and `[`
abbrev pub opens_module : (word bracket : Token) → Bool
opens_module w o = is_module_word w.kind && is_open_bracket o.kind

-- `attributes` and an empty list
abbrev pub are_attributes : (word left right : Token) → Bool
are_attributes w o c = is_attributes_word w.kind && is_open_bracket o.kind && is_close_bracket c.kind

-- what follows the exports
unfoldable pub with_defs : Name → Option (List FunName × List Token) → Option Module
with_defs name None = None
with_defs name (Some (exports, w ∷ o ∷ c ∷ ts)) =
    if are_attributes w o c then option_map (module_of name exports) (defs [] ts) else None
with_defs name (Some (exports, _)) = None

-- the module that the tokens write
unfoldable pub tree : List Token → Option Module
tree (w ∷ a ∷ o ∷ ts) = if is_atom a.kind && opens_module w o then with_defs (name_of a.kind) (names ts) else None
tree _ = None

-- The bytes are the text of the plain module m. Without the byte `%` no comment and no annotation stands in them.
pub record PlainText (bytes : List ℕ) (m : Module) : Type 0 where
  pub text : IsUtf8 bytes
  pub no_comment : IsTrue (not (list_any (λ b. b == percent) bytes))
  pub tree : tree (tokens (chars bytes)) ≡ Some m
  pub plain : IsPlain m
