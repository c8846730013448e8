-- Depths on a stack, at its end.
use Rattle.std.proofs.Common.{◌≡◌, sym, subst, List, [], ◌∷◌, ◌++◌, ◌≤◌, Option, None, Some, MatchOption, IfSome, Result, Ok, Err, OnOk, OnErr}
use Rattle.core_syntax.specs.declared.item.Entry.{Entry}
use Rattle.core_syntax.specs.Shallow.{AreShallow}

pub shallow_more : (es : List Entry) (e : Entry) → AreShallow es → e.depth ≤ 2001 → AreShallow (es ++ e ∷ [])
shallow_more [] e h k = (k, tt)
shallow_more (x ∷ es) e h k = (h.0, shallow_more es e h.1 k)

pub shallow_front : (es : List Entry) (e : Entry) → AreShallow (es ++ e ∷ []) → AreShallow es
shallow_front [] e h = tt
shallow_front (x ∷ es) e h = (h.0, shallow_front es e h.1)

pub shallow_last : (es : List Entry) (e : Entry) → AreShallow (es ++ e ∷ []) → e.depth ≤ 2001
shallow_last [] e h = h.0
shallow_last (x ∷ es) e h = shallow_last es e h.1

-- where the last one is taken off
pub shallow_popped : (r : Option Entry) (old new : List Entry)
    → MatchOption r ((old ≡ []) × (new ≡ [])) (λ last. old ≡ new ++ last ∷ []) → AreShallow old → AreShallow new
shallow_popped None old new h k = subst AreShallow (sym h.1) tt
shallow_popped (Some e) old new h k = shallow_front new e (subst AreShallow h k)

pub shallow_taken : (r : Option Entry) (old new : List Entry)
    → MatchOption r ((old ≡ []) × (new ≡ [])) (λ last. old ≡ new ++ last ∷ []) → AreShallow old
    → IfSome r (λ top. top.depth ≤ 2001)
shallow_taken None old new h k = tt
shallow_taken (Some e) old new h k = shallow_last new e (subst AreShallow h k)

-- where one is added
pub shallow_pushed : {A B : Type 0} (r : Result A B) (old new : List Entry) (e : Entry)
    → OnOk r (new ≡ old ++ e ∷ []) → OnErr r (new ≡ old) → AreShallow old → e.depth ≤ 2001 → AreShallow new
shallow_pushed (Ok x) old new e h i k l = subst AreShallow (sym h) (shallow_more old e k l)
shallow_pushed (Err x) old new e h i k l = subst AreShallow (sym i) k
