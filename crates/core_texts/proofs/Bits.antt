-- A segment that is read as a constant: its parts, and all of it.
use Rattle.std.proofs.Common.{arith, ◌≡◌, refl, ℕ, ◌*◌, ◌≤◌, ℤ, leb, Bool, true, false, not, ◌&&◌, ◌||◌, List, [], Option, None, Some, if◌then◌else◌}
use Rattle.std.proofs.lemmas.Bool.{leb-true, le-leb}
use Rattle.erl_term.specs.Term.{Term}
use Rattle.erl_term.specs.Terms.{list_of}
use Rattle.erl_term.specs.Segments.{joined}
use Rattle.core_form.specs.SourceTree.{are_flags, is_flag}
use Rattle.core_grammar.specs.WrittenTree.{Row, none, more, Segments, no_segment, and_segment}
use Rattle.core_grammar.specs.ConstantTerms.{and_item, constant_list, constant_of, constants_of, is_constant_size, bits_written, bits_of, segment_bits}
use Rattle.core_texts.proofs.Truths.{never, and_left, and_right, and_in}
use Rattle.core_texts.proofs.Parts.{there, is_size, is_unit, count_or_none, flags_in, flag_in, all_flags, all_bits}

if_there : {A : Type 0} (b : Bool) (x : A) → b ≡ true → there (if b then Some x else None) ≡ true
if_there true x h = refl
if_there false x h = never h

there_if : {A : Type 0} (b : Bool) (x : A) → there (if b then Some x else None) ≡ true → b ≡ true
there_if true x h = refl
there_if false x h = h

sized : (n u : ℕ) → leb n 256 ≡ true → (not (leb n 256) || is_constant_size n u) ≡ true → is_constant_size n u ≡ true
sized n u h k = by_size (leb n 256) (is_constant_size n u) h k
  where
    by_size : (a b : Bool) → a ≡ true → (not a || b) ≡ true → b ≡ true
    by_size true b h k = k
    by_size false b h k = never h

pub bits_ok : (b : Bool) (v : Option ℤ) (n u : Option ℕ) (f : Option Term) → b ≡ true → there v ≡ true
    → is_size n ≡ true → is_unit (count_or_none n) u ≡ true → flags_in f ≡ true
    → there (if b then bits_written v n u f else None) ≡ true
bits_ok false v n u f a h i j k = never a
bits_ok true None n u f a h i j k = never h
bits_ok true (Some z) None u f a h i j k = never i
bits_ok true (Some z) (Some n) None f a h i j k = never j
bits_ok true (Some z) (Some n) (Some u) None a h i j k = never k
bits_ok true (Some z) (Some n) (Some u) (Some f) a h i j k = if_there _ _ (and_in _ _ (sized n u i j) k)

-- the parts of a segment with bits
pub record Parted (b : Bool) (v : Option ℤ) (n u : Option ℕ) (f : Option Term) : Type 0 where
  pub kind : b ≡ true
  pub value : there v ≡ true
  pub size : is_size n ≡ true
  pub unit : is_unit (count_or_none n) u ≡ true
  pub flags : flags_in f ≡ true

factor : (n u : ℕ) → 1 ≤ u → n * u ≤ 256 → n ≤ 256
factor n u h k = grind (arith, h, k)

or_right : (a b : Bool) → b ≡ true → (a || b) ≡ true
or_right true b h = refl
or_right false b h = h

small : (n u : ℕ) → is_constant_size n u ≡ true → leb n 256 ≡ true
small n u h =
    le-leb n 256 (factor n u (leb-true 1 u (and_left (leb 1 u) (leb u 256) (and_left (leb 1 u && leb u 256) (leb
    (n * u) 256) h)))
    (leb-true (n * u) 256 (and_right (leb 1 u && leb u 256) (leb (n * u) 256) h)))

pub parted : (b : Bool) (v : Option ℤ) (n u : Option ℕ) (f : Option Term)
    → there (if b then bits_written v n u f else None) ≡ true → Parted b v n u f
parted false v n u f h = never h
parted true None n u f h = never h
parted true (Some z) None u f h = never h
parted true (Some z) (Some n) None f h = never h
parted true (Some z) (Some n) (Some u) None h = never h
parted true (Some z) (Some n) (Some u) (Some f) h =
    let k = there_if (is_constant_size n u && are_flags f) _ h in
    record {
      kind = refl;
      value = refl;
      size = small n u (and_left _ _ k);
      unit = or_right (not (leb n 256)) (is_constant_size n u) (and_left _ _ k);
      flags = and_right (is_constant_size n u) (are_flags f) k;
    }

both_there : (a b : Option (List Bool)) → there a ≡ true → there b ≡ true → there (joined a b) ≡ true
both_there None b h k = never h
both_there (Some x) None h k = never k
both_there (Some x) (Some y) h k = refl

left_there : (a b : Option (List Bool)) → there (joined a b) ≡ true → there a ≡ true
left_there None b h = h
left_there (Some x) b h = refl

right_there : (a b : Option (List Bool)) → there (joined a b) ≡ true → there b ≡ true
right_there None b h = never h
right_there (Some x) None h = h
right_there (Some x) (Some y) h = refl

pub bits_all : (gs : Segments) → all_bits true gs ≡ true → there (segment_bits false gs) ≡ true
bits_all no_segment h = refl
bits_all (and_segment g gs) h =
    both_there (bits_of false g) (segment_bits false gs) (and_left _ _ h)
    (bits_all gs (and_right (there (bits_of false g)) (all_bits true gs) h))

pub all_of_bits : (gs : Segments) → there (segment_bits false gs) ≡ true → all_bits true gs ≡ true
all_of_bits no_segment h = refl
all_of_bits (and_segment g gs) h =
    and_in _ _ (left_there (bits_of false g) (segment_bits false gs) h)
    (all_of_bits gs (right_there (bits_of false g) (segment_bits false gs) h))

flags_more : (o : Option Term) (os : Option (List Term)) (u : Option Term) → flag_in o ≡ true
    → flags_in (constant_list os u) ≡ true → flags_in (constant_list (and_item o os) u) ≡ true
flags_more None os u h k = never h
flags_more (Some t) None u h k = never k
flags_more (Some t) (Some ts) None h k = never k
flags_more (Some t) (Some ts) (Some u) h k = and_in (is_flag t) _ h k

no_items : (u : Option Term) → flags_in u ≡ true → flags_in (constant_list (Some []) u) ≡ true
no_items None h = h
no_items (Some t) h = h

pub flags_list : (ts : Row) (u : Option Term) → all_flags ts ≡ true → flags_in u ≡ true
    → flags_in (constant_list (constants_of false ts) u) ≡ true
flags_list none u h k = no_items u k
flags_list (more t ts) u h k =
    flags_more (constant_of false t) (constants_of false ts) u (and_left _ _ h)
    (flags_list ts u (and_right (flag_in (constant_of false t)) (all_flags ts) h) k)

flag_first : (o : Option Term) (os : Option (List Term)) (u : Option Term)
    → flags_in (constant_list (and_item o os) u) ≡ true → flag_in o ≡ true
flag_first None os u h = never h
flag_first (Some t) None u h = never h
flag_first (Some t) (Some ts) None h = never h
flag_first (Some t) (Some ts) (Some u) h = and_left (is_flag t) (are_flags (list_of ts u)) h

flag_others : (o : Option Term) (os : Option (List Term)) (u : Option Term)
    → flags_in (constant_list (and_item o os) u) ≡ true → flags_in (constant_list os u) ≡ true
flag_others None os u h = never h
flag_others (Some t) None u h = never h
flag_others (Some t) (Some ts) None h = never h
flag_others (Some t) (Some ts) (Some u) h = and_right (is_flag t) (are_flags (list_of ts u)) h

items_none : (u : Option Term) → flags_in (constant_list (Some []) u) ≡ true → flags_in u ≡ true
items_none None h = h
items_none (Some t) h = h

pub all_of_flags : (ts : Row) (u : Option Term) → flags_in (constant_list (constants_of false ts) u) ≡ true
    → all_flags ts ≡ true
all_of_flags none u h = refl
all_of_flags (more t ts) u h =
    and_in _ _ (flag_first (constant_of false t) (constants_of false ts) u h)
    (all_of_flags ts u (flag_others (constant_of false t) (constants_of false ts) u h))

pub tail_flags : (ts : Row) (u : Option Term) → flags_in (constant_list (constants_of false ts) u) ≡ true
    → flags_in u ≡ true
tail_flags none u h = items_none u h
tail_flags (more t ts) u h = tail_flags ts u (flag_others (constant_of false t) (constants_of false ts) u h)
