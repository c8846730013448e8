-- Orders in which the faults of a form are met and told.
use Rattle.std.proofs.Common.{◌≡◌, List, ◌++◌, ap, arith}
use Rattle.erl_base.specs.declared.refusal.Refusal.{Refusal}
use Rattle.core_scope.proofs.Weights.{Even, weight, weight_both}

pub grouped : (a b c : List Refusal) → Even (a ++ (b ++ c)) ((a ++ b) ++ c)
grouped a b c = record { at = λ h. simp (weight_both h) (omega arith) }

-- what is demanded of the last part is told first
pub last_first : (a b c w : List Refusal) → w ≡ b → Even (a ++ (b ++ c)) (w ++ (a ++ c))
last_first a b c w e = record { at = λ h. let k = ap (weight h) e in simp (weight_both h) (omega (arith, k)) }

-- an element, whose value list is told before
pub element_order : (a b c w : List Refusal) → w ≡ a ++ b → Even (a ++ (b ++ c)) (w ++ c)
element_order a b c w e = record {
  at = λ h. let k = ap (weight h) e in let l = weight_both h a b in simp (weight_both h) (omega (arith, k, l));
}

-- what a leaf is told of last
pub leaf_order : (a b w : List Refusal) → w ≡ b → Even (a ++ b) (w ++ a)
leaf_order a b w e = record { at = λ h. let k = ap (weight h) e in simp (weight_both h) (omega (arith, k)) }

-- the value before the doubled variables
pub let_order : (a b d : List Refusal) → Even ((a ++ b) ++ d) ((d ++ a) ++ b)
let_order a b d = record { at = λ h. simp (weight_both h) (omega arith) }

pub apply_order : (a b c d w : List Refusal) → w ≡ b → Even ((a ++ (b ++ c)) ++ d) (((a ++ w) ++ c) ++ d)
apply_order a b c d w e = record { at = λ h. let k = ap (weight h) e in simp (weight_both h) (omega (arith, k)) }

pub call_order : (a b c d e f : List Refusal)
    → Even (((a ++ (b ++ c)) ++ (d ++ e)) ++ f) (((((a ++ b) ++ c) ++ d) ++ e) ++ f)
call_order a b c d e f = record { at = λ h. simp (weight_both h) (omega arith) }

pub pair_order : (a b c d e : List Refusal) → Even (((a ++ b) ++ (c ++ d)) ++ e) ((((a ++ b) ++ c) ++ d) ++ e)
pair_order a b c d e = record { at = λ h. simp (weight_both h) (omega arith) }

-- a: the tried part, x and y: doubled variables, b and c: the bodies
pub try_order : (a x b fb y c fc w v u : List Refusal) → w ≡ v ++ u → b ≡ v → c ≡ u
    → Even ((((a ++ x) ++ (b ++ fb)) ++ y) ++ (c ++ fc)) (w ++ ((((a ++ x) ++ fb) ++ y) ++ fc))
try_order a x b fb y c fc w v u e f g = record {
  at = λ h.
      let k = ap (weight h) e in let l = weight_both h v u in let m = ap (weight h) f in let n = ap (weight h) g in
      simp (weight_both h) (omega (arith, k, l, m, n));
}

pub receive_order : (a d c n t b fb w v u : List Refusal) → w ≡ v ++ u → d ≡ v → b ≡ u
    → Even (((a ++ (d ++ c)) ++ (n ++ t)) ++ (b ++ fb)) (w ++ ((((a ++ c) ++ n) ++ t) ++ fb))
receive_order a d c n t b fb w v u e f g = record {
  at = λ h.
      let k = ap (weight h) e in let l = weight_both h v u in let m = ap (weight h) f in let o = ap (weight h) g in
      simp (weight_both h) (omega (arith, k, l, m, o));
}

-- a: the head, n and g: the guard, b and fb: the body, r and rest: the other clauses
pub clause_order : (a n g b fb r rest w v : List Refusal) → w ≡ v ++ r → b ≡ v
    → Even (((a ++ (n ++ g)) ++ (b ++ fb)) ++ (r ++ rest)) (w ++ ((((a ++ n) ++ g) ++ fb) ++ rest))
clause_order a n g b fb r rest w v e f = record {
  at = λ h.
      let k = ap (weight h) e in let l = weight_both h v r in let m = ap (weight h) f in
      simp (weight_both h) (omega (arith, k, l, m));
}

pub module_order : (a b c : List Refusal) → Even ((a ++ b) ++ c) ((b ++ a) ++ c)
module_order a b c = record { at = λ h. simp (weight_both h) (omega arith) }
