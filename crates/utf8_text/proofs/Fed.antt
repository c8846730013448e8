-- What the bytes so far say of the text that they begin.
use Rattle.std.proofs.Common.{◌≡◌, ℕ, zero, suc, ◌+◌, ◌-◌, ◌<◌, Bool, true, false, cond, Option, Some, None, is_some, List, [], ◌∷◌, ◌++◌, length, take, drop, refl, sym, ap, ◌∙◌, subst, arith, IsUtf8, chars, append_assoc, length-append, length-drop, append-nil, Result, Err, IfErr, Bor, get_or, flat_map}
use Rattle.std.proofs.lemmas.List.{take-append-drop, take_all, take-append-le, length-take-le, drop-append-le, drop-drop, drop_more}
use Rattle.std.proofs.Math.Seq.{take-append-add}
use Rattle.std.proofs.lemmas.Str.{IsUtf8-append, utf8_valid_len_le}
use Rattle.std.specs.Str.Lossy.{utf8_valid_len, utf8_error_len}
use Rattle.erl_base.specs.declared.ids.Place.{Place}
use Rattle.erl_base.specs.declared.refusal.Refusal.{Refusal}
use Rattle.erl_base.specs.declared.refusal.Fault.{Fault}
use Rattle.erl_base.specs.declared.refusal.Fault.TheVariants.{Refused, NoMemory as OutOfMemory}
use Rattle.erl_base.specs.declared.refusal.Kind.TheVariants.{NotUtf8}
use Rattle.utf8_text.specs.Places.{start, place_after}
use Rattle.utf8_text.specs.Utf8Text.{BeginsText, text_end, not_utf8, IsRefused, RefusesStart, RefusesWhole, RefusesPieces, Leaves}
use Rattle.utf8_text.specs.PiecesState.{fault_place, IsFed}
use Rattle.utf8_text.proofs.Fronts.{front, longest, text_behind, after_text}
use Rattle.utf8_text.proofs.Begun.{NoFront, completes, no_front}

-- the bytes behind the longest front
abbrev rest_of : List ℕ → List ℕ
rest_of bytes = drop (utf8_valid_len bytes) bytes

abbrev text_of : List ℕ → List ℕ
text_of bytes = take (utf8_valid_len bytes) bytes

text_len : (bytes : List ℕ) → length (text_of bytes) ≡ utf8_valid_len bytes
text_len bytes = length-take-le (utf8_valid_len bytes) bytes (utf8_valid_len_le bytes)

no_more : (bytes : List ℕ) → NoFront (rest_of bytes)
no_more bytes = record {
  none = λ m pos fits u.
      let left : length (rest_of bytes) ≡ length bytes - utf8_valid_len bytes =
      length-drop (utf8_valid_len bytes) bytes in
      longest bytes (utf8_valid_len bytes + m) (omega arith) (omega arith)
      (subst IsUtf8 (sym (take-append-add (text_of bytes) (rest_of bytes) m)
      ∙ ap (λ n. take (n + m) (text_of bytes ++ rest_of bytes)) (text_len bytes)
      ∙ ap (take (utf8_valid_len bytes + m)) (take-append-drop (utf8_valid_len bytes) bytes))
      (IsUtf8-append (text_of bytes) (take m (rest_of bytes)) (front bytes) u));
}

regrouped : (bytes more : List ℕ) → text_of bytes ++ (rest_of bytes ++ more) ≡ bytes ++ more
regrouped bytes more = sym (append_assoc (text_of bytes) (rest_of bytes) more)
    ∙ ap (λ b. b ++ more) (take-append-drop (utf8_valid_len bytes) bytes)

begins : (bytes : List ℕ) → utf8_error_len (rest_of bytes) ≡ None → BeginsText bytes
begins bytes e =
    let found = completes (rest_of bytes) (no_more bytes) e in (
      found.0,
      subst IsUtf8 (regrouped bytes found.0)
          (IsUtf8-append (text_of bytes) (rest_of bytes ++ found.0) (front bytes) found.1),
    )

some_left : (rest : List ℕ) (k : ℕ) → utf8_error_len rest ≡ Some k → 0 < length rest
unfolding utf8_error_len
some_left [] k e = absurd cc
some_left (x ∷ rest) k e = omega arith

never_text : (bytes more : List ℕ) (k : ℕ) → utf8_error_len (rest_of bytes) ≡ Some k → IsUtf8 (bytes ++ more) → ⊥
never_text bytes more k e u =
    let all : List ℕ = rest_of bytes ++ more in
    let long : 0 < length all = omega (arith, length-append (rest_of bytes) more, some_left (rest_of bytes) k e) in
    let whole : take (length all) all ≡ all = take_all (length all) all (omega arith) in
    no_front (rest_of bytes) more k (length all) (no_more bytes) e (omega (arith, ap length whole))
    (subst IsUtf8 (sym whole)
    (text_behind (text_of bytes) all (front bytes) (subst IsUtf8 (sym (regrouped bytes more)) u)))

no_text_front : (rest more : List ℕ) (k n : ℕ) → NoFront rest → utf8_error_len rest ≡ Some k
    → n ≡ utf8_valid_len (rest ++ more) → n ≡ 0
no_text_front rest more k zero f e h = refl
no_text_front rest more k (suc n) f e h =
    let len : length (take (utf8_valid_len (rest ++ more)) (rest ++ more)) ≡ utf8_valid_len (rest ++ more) =
    length-take-le (utf8_valid_len (rest ++ more)) (rest ++ more) (utf8_valid_len_le (rest ++ more)) in
    absurd (no_front rest more k (utf8_valid_len (rest ++ more)) f e (omega arith) (front (rest ++ more)))

same_len : (bytes more : List ℕ) (k : ℕ) → utf8_error_len (rest_of bytes) ≡ Some k
    → utf8_valid_len (bytes ++ more) ≡ utf8_valid_len bytes
same_len bytes more k e =
    let none : utf8_valid_len (rest_of bytes ++ more) ≡ 0 =
    no_text_front (rest_of bytes) more k (utf8_valid_len (rest_of bytes ++ more)) (no_more bytes) e refl in
    ap utf8_valid_len (sym (regrouped bytes more)) ∙ after_text (text_of bytes) (rest_of bytes ++ more) (front bytes)
    ∙ (let s : length (text_of bytes) + utf8_valid_len (rest_of bytes ++ more) ≡ utf8_valid_len bytes = omega (
      arith,
      text_len bytes,
    ) in s)

same_refusal : (bytes more : List ℕ) (k : ℕ) → utf8_error_len (rest_of bytes) ≡ Some k
    → not_utf8 bytes ≡ not_utf8 (bytes ++ more)
same_refusal bytes more k e =
    ap (λ (cs : List ℕ). let r : Refusal = record { kind = NotUtf8; place = place_after (chars cs) start } in r)
    (sym (take-append-le (utf8_valid_len bytes) bytes more (utf8_valid_len_le bytes))
    ∙ ap (λ n. take n (bytes ++ more)) (sym (same_len bytes more k e)))

refuses : (bytes : List ℕ) (k : ℕ) → utf8_error_len (rest_of bytes) ≡ Some k → IsRefused bytes (not_utf8 bytes)
refuses bytes k e more = (never_text bytes more k e, same_refusal bytes more k e)

begins_by : (bytes : List ℕ) (r : Option ℕ) → utf8_error_len (rest_of bytes) ≡ r
    → cond (is_some r) (Some (text_end bytes)) None ≡ None → BeginsText bytes
begins_by bytes None e h = begins bytes e
begins_by bytes (Some k) e h = absurd cc

refused_by : (bytes : List ℕ) (place : Place) (r : Option ℕ) → utf8_error_len (rest_of bytes) ≡ r
    → cond (is_some r) (Some (text_end bytes)) None ≡ Some place
    → IsRefused bytes (record { kind = NotUtf8; place = place })
refused_by bytes place None e h = absurd cc
refused_by bytes place (Some k) e h =
    let same : text_end bytes ≡ place = cc in
    subst (λ (p : Place). IsRefused bytes (record { kind = NotUtf8; place = p })) same (refuses bytes k e)

-- bytes with no fault begin a text
pub begins_text : (bytes : List ℕ) → fault_place bytes ≡ None → BeginsText bytes
begins_text bytes h = begins_by bytes (utf8_error_len (rest_of bytes)) refl h

-- bytes with a fault are refused at its place
pub is_refused : (bytes : List ℕ) (place : Place) → fault_place bytes ≡ Some place
    → IsRefused bytes (record { kind = NotUtf8; place = place })
is_refused bytes place h = refused_by bytes place (utf8_error_len (rest_of bytes)) refl h

one_refusal : (bytes : List ℕ) (p q : Refusal) → IsRefused bytes p → IsRefused bytes q → p ≡ q
one_refusal bytes p q h k = (h []).1 ∙ sym (k []).1

-- bytes that are refused have a fault at the place of the refusal
pub fault_of_refused : (bytes : List ℕ) (place : Option Place) (refusal : Refusal) → place ≡ fault_place bytes
    → IsRefused bytes refusal
    → (p : Place) × (place ≡ Some p) × (refusal ≡ record { kind = NotUtf8; place = p })
fault_of_refused bytes None refusal e h = let b = begins_text bytes (sym e) in absurd ((h b.0).0 b.1)
fault_of_refused bytes (Some p) refusal e h =
    (p, refl, one_refusal bytes refusal (record { kind = NotUtf8; place = p }) h (is_refused bytes p (sym e)))

-- more bytes leave a refusal as it is
pub refused_more : (bytes piece : List ℕ) (refusal : Refusal) → IsRefused bytes refusal
    → IsRefused (bytes ++ piece) refusal
refused_more bytes piece refusal h more =
    let one = h (piece ++ more) in (
      λ u. one.0 (subst IsUtf8 (append_assoc bytes piece more) u),
      one.1
          ∙ ap not_utf8 (sym (append_assoc bytes piece more)),
    )

pub refused_at : (a b : List ℕ) (refusal : Refusal) → a ≡ b → IsRefused a refusal → IsRefused b refusal
refused_at a b refusal e h = subst (λ bytes. IsRefused bytes refusal) e h

pub not_refused : (bytes : List ℕ) (refusal : Refusal) → BeginsText bytes → IsRefused bytes refusal → ⊥
not_refused bytes refusal b h = (h b.0).0 b.1

-- the longest front after a piece
pub grown : (old piece new : List ℕ) (whole size : ℕ) → whole ≡ utf8_valid_len old → new ≡ old ++ piece
    → size ≡ utf8_valid_len (drop whole new) → whole + size ≡ utf8_valid_len new
grown old piece new whole size e f g =
    let rest : drop whole new ≡ rest_of old ++ piece =
    ap (drop whole) f ∙ ap (λ n. drop n (old ++ piece)) e
    ∙ drop-append-le (utf8_valid_len old) old piece (utf8_valid_len_le old) in
    let sum : whole + size ≡ length (text_of old) + utf8_valid_len (rest_of old ++ piece) =
    omega (arith, text_len old, g ∙ ap utf8_valid_len rest) in
    sum ∙ sym (after_text (text_of old) (rest_of old ++ piece) (front old))
    ∙ ap utf8_valid_len (regrouped old piece ∙ sym f)

fault_is : (new : List ℕ) (whole size : ℕ) (broken : Bool) → whole + size ≡ utf8_valid_len new
    → broken ≡ is_some (utf8_error_len (drop size (drop whole new)))
    → broken ≡ is_some (utf8_error_len (rest_of new))
fault_is new whole size broken e f =
    f ∙ ap (λ xs. is_some (utf8_error_len xs)) (drop-drop size whole new ∙ ap (λ n. drop n new) e)

pub fed_broken : (old piece new : List ℕ) (whole size : ℕ) (broken : Bool) (place : Place) → whole ≡ utf8_valid_len old
    → new ≡ old ++ piece → size ≡ utf8_valid_len (drop whole new)
    → broken ≡ is_some (utf8_error_len (drop size (drop whole new))) → broken ≡ true
    → place ≡ place_after (chars (take (whole + size) new)) start
    → IsFed new (whole + size) (Some place)
fed_broken old piece new whole size broken place e f g h t p =
    let len : whole + size ≡ utf8_valid_len new = grown old piece new whole size e f g in
    record {
      whole_is = len;
      broken_is = ap Some (p ∙ ap (λ n. place_after (chars (take n new)) start) len)
          ∙ ap (λ b. cond b (Some (text_end new)) None) (sym (sym (fault_is new whole size broken len h) ∙ t));
    }

pub fed_whole : (old piece new : List ℕ) (whole size : ℕ) (broken : Bool) → whole ≡ utf8_valid_len old
    → new ≡ old ++ piece → size ≡ utf8_valid_len (drop whole new)
    → broken ≡ is_some (utf8_error_len (drop size (drop whole new))) → broken ≡ false → IsFed new (whole + size) None
fed_whole old piece new whole size broken e f g h t =
    let len : whole + size ≡ utf8_valid_len new = grown old piece new whole size e f g in
    record {
      whole_is = len;
      broken_is = ap (λ b. cond {A = Option Place} b (Some (text_end new)) None)
          (sym (sym (fault_is new whole size broken len h) ∙ t));
    }

-- the first `whole` bytes are text
pub fed_front : (bytes : List ℕ) (n : ℕ) → n ≡ utf8_valid_len bytes → IsUtf8 (take n bytes)
fed_front bytes n e = subst (λ m. IsUtf8 (take m bytes)) (sym e) (front bytes)

nil_len : utf8_valid_len [] ≡ 0
unfolding utf8_valid_len
nil_len = refl

nil_fault : is_some (utf8_error_len []) ≡ false
unfolding utf8_error_len
nil_fault = refl

-- a lexer that was given nothing
pub fed_nothing : IsFed [] 0 None
fed_nothing = record {
  whole_is = sym nil_len;
  broken_is = sym (ap (λ b. cond {A = Option Place} b (Some (text_end [])) None)
      (ap (λ n. is_some (utf8_error_len (drop n []))) nil_len ∙ nil_fault));
}

-- what a refusal of the bytes says at each clause
pub start_refused : (bytes : List ℕ) (refusal : Refusal) (fault : Fault) → fault ≡ Refused refusal
    → IsRefused bytes refusal → RefusesStart bytes fault
start_refused bytes refusal fault e h = subst (RefusesStart bytes) (sym e) h

pub left_refused : (old new : List ℕ) (refusal : Refusal) (fault : Fault) → fault ≡ Refused refusal
    → IsRefused new refusal → Leaves old new fault
left_refused old new refusal fault e h = subst (Leaves old new) (sym e) h

pub again_refused : (bytes : List ℕ) (p q : Refusal) (fault : Fault) → fault ≡ Refused p → IsRefused bytes p
    → IsRefused bytes q → fault ≡ Refused q
again_refused bytes p q fault e h k = e ∙ ap Refused (one_refusal bytes p q h k)

-- a refusal of the whole bytes
pub whole_refused : (bytes : List ℕ) (refusal : Refusal) (fault : Fault) → fault ≡ Refused refusal
    → IsRefused bytes refusal → RefusesWhole bytes fault
whole_refused bytes refusal fault e h =
    let now = h [] in
    let here : (IsUtf8 bytes → ⊥) × (refusal ≡ not_utf8 bytes) =
    (λ u. now.0 (subst IsUtf8 (sym (append-nil bytes)) u), now.1 ∙ ap not_utf8 (append-nil bytes)) in
    subst (RefusesWhole bytes) (sym e) here

refused_whole : (fed rest text : List ℕ) (fault : Fault) → fed ++ rest ≡ text → RefusesStart fed fault
    → RefusesPieces text fault
refused_whole fed rest text (Refused refusal) e h = subst (λ t. (IsUtf8 t → ⊥) × (refusal ≡ not_utf8 t)) e (h rest)
refused_whole fed rest text OutOfMemory e h = tt

-- a refusal of the pieces so far is one of all pieces
pub pieces_refused : {T : Type 0} (r : Result T Fault) (x y : Fault) (pieces : List (Bor (List ℕ))) (i : ℕ)
    (d : Bor (List ℕ)) (fed : List ℕ)
    → r ≡ Err x → x ≡ y → i < length pieces
    → fed ++ flat_map (λ piece. piece.now) (drop i pieces) ≡ flat_map (λ piece. piece.now) pieces
    → RefusesStart (fed ++ (get_or pieces i d).now) y
    → IfErr r (λ fault. RefusesPieces (flat_map (λ piece. piece.now) pieces) fault)
pieces_refused r x y pieces i d fed e f l all h =
    let next : flat_map (λ piece. piece.now) (drop i pieces)
    ≡ (get_or pieces i d).now ++ flat_map (λ piece. piece.now) (drop (i + 1) pieces)
    = ap (flat_map (λ (piece : Bor (List ℕ)). piece.now)) (drop_more pieces i d l) in
    subst (λ q. IfErr q (λ fault. RefusesPieces (flat_map (λ piece. piece.now) pieces) fault)) (sym (e ∙ ap Err f))
    (refused_whole (fed ++ (get_or pieces i d).now) (flat_map (λ piece. piece.now) (drop (i + 1) pieces)) _ y
    (append_assoc fed (get_or pieces i d).now (flat_map (λ piece. piece.now) (drop (i + 1) pieces))
    ∙ ap (λ t. fed ++ t) (sym next) ∙ all) h)
