-- The laws of the definition of the tokens.
use Rattle.std.proofs.Common.{◌≡◌, ℕ, ◌≤◌, Option, None, Some, List, length, take, refl, ap, sym, ◌∙◌, arith}
use Rattle.core_lex.specs.declared.token.Symbol as Symbols
use Rattle.core_lex.specs.declared.token.TokenKind.TheVariants.{Symbol}
use Rattle.core_lex.specs.Tokens.{of_kind, bad, listed_as, long_symbols, short_symbols, symbol_of, symbol_at}
use Rattle.core_lex.specs.TokenLaws.{Begins, IsLongestSymbol}
use Rattle.core_lex.proofs.Sizes.{long_length, short_length}

-- ---- the longest symbol

-- a symbol stands where its characters are listed
long_stands : (cs s : List ℕ) (x : Symbols.Symbol) → listed_as long_symbols s ≡ Some x → take (length s) cs ≡ s
    → take 2 cs ≡ s
long_stands cs s x e f = ap (λ n. take n cs) (sym (long_length s x e)) ∙ f

short_stands : (cs s : List ℕ) (x : Symbols.Symbol) → listed_as short_symbols s ≡ Some x → take (length s) cs ≡ s
    → take 1 cs ≡ s
short_stands cs s x e f = ap (λ n. take n cs) (sym (short_length s x e)) ∙ f

-- of two choices the first that is there
abbrev chosen : Option Symbols.Symbol → Option Symbols.Symbol → Option Symbols.Symbol
chosen a b = elim a [ None ↦ b | Some symbol ↦ Some symbol ]

first_chosen : (a b : Option Symbols.Symbol) (x : Symbols.Symbol) → a ≡ Some x → chosen a b ≡ Some x
first_chosen a b x e = ap (λ o. chosen o b) e

second_chosen : (a b : Option Symbols.Symbol) (x : Symbols.Symbol) → a ≡ None → b ≡ Some x → chosen a b ≡ Some x
second_chosen a b x e f = ap (λ o. chosen o b) e ∙ f

begins_long : (cs : List ℕ) (x : Symbols.Symbol) → listed_as long_symbols (take 2 cs) ≡ Some x → Begins cs (take 2 cs) x
begins_long cs x e = record {
  listed = first_chosen (listed_as long_symbols (take 2 cs)) (listed_as short_symbols (take 2 cs)) x e;
  stands = ap (λ n. take n cs) (long_length (take 2 cs) x e);
}

-- of the symbols that are listed in one table none is in the other, since their lengths differ
not_long : (s : List ℕ) (x : Symbols.Symbol) (o : Option Symbols.Symbol) → listed_as short_symbols s ≡ Some x
    → listed_as long_symbols s ≡ o → o ≡ None
not_long s x None e f = refl
not_long s x (Some y) e f = absurd (omega (arith, long_length s y f, short_length s x e))

begins_short : (cs : List ℕ) (x : Symbols.Symbol) → listed_as short_symbols (take 1 cs) ≡ Some x
    → Begins cs (take 1 cs) x
begins_short cs x e = record {
  listed = second_chosen (listed_as long_symbols (take 1 cs)) (listed_as short_symbols (take 1 cs)) x
      (not_long (take 1 cs) x (listed_as long_symbols (take 1 cs)) e refl) e;
  stands = ap (λ n. take n cs) (short_length (take 1 cs) x e);
}

-- where no longer symbol stands, none of two characters does
no_long : (cs s : List ℕ) (o : Option Symbols.Symbol) → listed_as long_symbols (take 2 cs) ≡ o → length s ≡ 1
    → ((t : List ℕ) (y : Symbols.Symbol) → Begins cs t y → length t ≤ length s) → o ≡ None
no_long cs s None e one longest = refl
no_long cs s (Some y) e one longest =
    let two = longest (take 2 cs) y (begins_long cs y e) in absurd (omega (arith, two, long_length (take 2 cs) y e))

none_there : (cs t : List ℕ) (o : Option Symbols.Symbol) → ((y : Symbols.Symbol) → o ≡ Some y → Begins cs t y)
    → ((s : List ℕ) (y : Symbols.Symbol) → Begins cs s y → ⊥) → o ≡ None
none_there cs t None f none = refl
none_there cs t (Some y) f none = absurd (none t y (f y refl))

longest_by : (cs s : List ℕ) (x : Symbols.Symbol) (o : Option Symbols.Symbol) → listed_as long_symbols s ≡ o
    → chosen o (listed_as short_symbols s) ≡ Some x → take (length s) cs ≡ s
    → ((t : List ℕ) (y : Symbols.Symbol) → Begins cs t y → length t ≤ length s)
    → symbol_at cs ≡ of_kind (Symbol x) (length s)
unfolding symbol_at
longest_by cs s x (Some y) e g stands longest =
    let f : listed_as long_symbols s ≡ Some x = e ∙ g in
    ap (λ o. symbol_of o 2 (symbol_of (listed_as short_symbols (take 1 cs)) 1 bad))
    (ap (listed_as long_symbols) (long_stands cs s x f stands) ∙ f)
    ∙ ap (of_kind (Symbol x)) (sym (long_length s x f))
longest_by cs s x None e g stands longest =
    ap (λ o. symbol_of o 2 (symbol_of (listed_as short_symbols (take 1 cs)) 1 bad))
    (no_long cs s (listed_as long_symbols (take 2 cs)) refl (short_length s x g) longest)
    ∙ ap (λ o. symbol_of o 1 bad) (ap (listed_as short_symbols) (short_stands cs s x g stands) ∙ g)
    ∙ ap (of_kind (Symbol x)) (sym (short_length s x g))

-- the longest symbol is taken
pub longest_taken : (cs s : List ℕ) (x : Symbols.Symbol) → IsLongestSymbol cs s x
    → symbol_at cs ≡ of_kind (Symbol x) (length s)
longest_taken cs s x l = longest_by cs s x (listed_as long_symbols s) refl l.begins.listed l.begins.stands l.longest

-- where none stands the token is bad
pub no_symbol : (cs : List ℕ) → ((s : List ℕ) (y : Symbols.Symbol) → Begins cs s y → ⊥) → symbol_at cs ≡ bad
unfolding symbol_at
no_symbol cs none =
    ap (λ o. symbol_of o 2 (symbol_of (listed_as short_symbols (take 1 cs)) 1 bad))
    (none_there cs (take 2 cs) (listed_as long_symbols (take 2 cs)) (begins_long cs) none)
    ∙ ap (λ o. symbol_of o 1 bad)
    (none_there cs (take 1 cs) (listed_as short_symbols (take 1 cs)) (begins_short cs) none)
