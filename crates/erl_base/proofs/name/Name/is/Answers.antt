use Rattle.std.proofs.Common.{rules, ◌≡◌, sym, ap, ◌∙◌, chars, List, ℕ, IsUtf8, Bool, IsTrue, bytes_eq, ◌↔◌}
use Rattle.erl_base.proofs.Chars.{chars_one}
use Rattle.erl_base.proofs.name.Name.is.Goals as goal

same_names : (r : Bool) (a b x y : List ℕ) → IsUtf8 a → IsUtf8 b → r ≡ bytes_eq a b → chars a ≡ x → chars b ≡ y
    → IsTrue r ↔ (x ≡ y)
same_names r a b x y u v e f g = (
  λ t. sym f ∙ ap chars (search (rules, t, e)) ∙ g,
  λ s. let h : a ≡ b = chars_one a b u v (f ∙ s ∙ sym g) in search (rules, h, e),
)

pub returns : goal.returns
returns c = same_names _ _ _ _ _ c.as_str.utf8 c.as_str-2.utf8 (search rules) (search rules) (search rules)
