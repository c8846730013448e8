-- Reading a term or a pair takes something of the characters.
use Rattle.std.proofs.Common.{ℕ, zero, suc, ◌<◌, ◌≤◌, ap, List, ◌^◌, length, codes, arith}
use Rattle.erl_term.specs.Term.{Term}
use Rattle.term_read.specs.Lexemes.{behind_blanks}
use Rattle.term_read.specs.TermGrammar as G
use Rattle.term_read.specs.TermGrammar.{Row, Items, ListEnd, PairOf, PartOf, Form, ReadsTerm}
use Rattle.term_read.specs.Reading.{read_by, pair_by}
use Rattle.term_read.proofs.Shorter.{blanks_shorter, mark_shorter, integer_front_shorter, name_front_shorter, quoted_shorter, word_shorter, extern_shorter, fun_head_shorter, number_in_shorter, class_shorter, part_shorter}
use Rattle.term_read.proofs.ItemRows.{Consumes}
use Rattle.term_read.proofs.Deciding.{pair_sound}
use Rattle.term_read.proofs.FormSound.{reads_sound}

-- what is left is shorter
pub record Shortens {A : Type 0} (P : List ℕ → A → List ℕ → Type 0) : Type 0 where
  pub shorter : (cs ds : List ℕ) (x : A) → P cs x ds → length ds < length cs

items_shorter : {A : Type 0} (P : List ℕ → A → List ℕ → Type 0) → Shortens P → (cs ds : List ℕ) (xs : List A)
    → Items P cs xs ds → length ds < length cs
items_shorter P s _ _ _ (G.one_item cs ds x r f) = s.shorter cs ds x r
items_shorter P s _ _ _ (G.more_items cs ds es fs x xs r f rest) =
    omega (arith, s.shorter cs ds x r, mark_shorter (codes ",") ds es f, items_shorter P s es fs xs rest)

row_shorter : {A : Type 0} (P : List ℕ → A → List ℕ → Type 0) (close : List ℕ) → Shortens P
    → (cs ds : List ℕ) (xs : List A) → Row P close cs xs ds → length ds ≤ length cs
row_shorter P close s _ _ _ (G.no_item cs ds f) = mark_shorter close cs ds f
row_shorter P close s _ _ _ (G.some_items cs ds es xs items f) =
    omega (arith, items_shorter P s cs ds xs items, mark_shorter close ds es f)

end_shorter : (R : List ℕ → Term → List ℕ → Type 0) → Shortens R → (cs ds : List ℕ) (t : Term) → ListEnd R cs t ds
    → length ds ≤ length cs
end_shorter R s _ _ _ (G.no_tail cs ds f) = mark_shorter (codes "]") cs ds f
end_shorter R s _ _ _ (G.tail cs ds es fs t f r g) =
    omega (arith, mark_shorter (codes "|") cs ds f, s.shorter ds es t r, mark_shorter (codes "]") es fs g)

pair_shorter : (R : List ℕ → Term → List ℕ → Type 0) → Shortens R → (cs ds : List ℕ) (q : Term × Term)
    → PairOf R cs q ds → length ds < length cs
pair_shorter R s _ _ _ (G.key_and_value cs ds es fs k v r f t) =
    omega (arith, s.shorter cs ds k r, mark_shorter (codes "=>") ds es f, s.shorter es fs v t)

pairs_shorten : (R : List ℕ → Term → List ℕ → Type 0) → Shortens R → Shortens (PairOf R)
pairs_shorten R s = record { shorter = pair_shorter R s }

parts_shorten : Shortens PartOf
parts_shorten = record { shorter = part_shorter }

form_shorter : (d : ℕ) (R : List ℕ → Term → List ℕ → Type 0) → Shortens R → (cs ds : List ℕ) (t : Term)
    → Form d R cs t ds → length ds < length cs
form_shorter d R s _ _ _ (G.integer cs ds z f) = integer_front_shorter cs ds z f
form_shorter d R s _ _ _ (G.atom cs ds a f) = name_front_shorter cs ds a f
form_shorter d R s _ _ _ (G.nil cs ds f) = omega (arith, mark_shorter (codes "]") cs ds f)
form_shorter d R s _ _ _ (G.list cs ds es ts u items end) =
    omega (arith, items_shorter R s cs ds ts items, end_shorter R s ds es u end)
form_shorter d R s _ _ _ (G.string cs ds text f k) = omega (arith, quoted_shorter 34 cs ds text f)
form_shorter d R s _ _ _ (G.tuple cs ds ts row) = omega (arith, row_shorter R (codes "}") s cs ds ts row)
form_shorter d R s _ _ _ (G.mapping cs ds ps row) =
    omega (arith, row_shorter (PairOf R) (codes "}") (pairs_shorten R s) cs ds ps row)
form_shorter d R s _ _ _ (G.bit_string cs ds ps row w) =
    omega (arith, row_shorter PartOf (codes ">>") parts_shorten cs ds ps row)
form_shorter d R s _ _ _ (G.byte_string cs ds es fs text e q b f) =
    omega (arith, blanks_shorter cs, ap length e, quoted_shorter 34 ds es text q, mark_shorter (codes ">>") es fs f)
form_shorter d R s _ _ _ (G.external_fun cs ds es t f g) =
    omega (arith, word_shorter cs ds (codes "fun") f, extern_shorter ds es t g)
form_shorter d R s _ _ _ (G.local_fun cs ds es fs h ts f row g) = omega
    (arith, fun_head_shorter cs ds h f, row_shorter R (codes "]") s ds es ts row, mark_shorter (codes ">") es fs g)
form_shorter d R s _ _ _ (G.pid cs ds n f) = omega (arith, number_in_shorter (2 ^ 64) cs ds n f)
form_shorter d R s _ _ _ (G.reference cs ds n f) = omega (arith, number_in_shorter (2 ^ 64) cs ds n f)
form_shorter d R s _ _ _ (G.port cs ds n f) = omega (arith, number_in_shorter (2 ^ 64) cs ds n f)
form_shorter d R s _ _ _ (G.raw_trace cs ds c f) = omega (arith, class_shorter cs ds c f)

pub terms_shorten : (d : ℕ) → Shortens (ReadsTerm d)
terms_shorten zero = record { shorter = λ cs ds t h. absurd h }
terms_shorten (suc d) = record {
  shorter = λ cs ds t h.
      let f : length ds < length (behind_blanks cs) =
      form_shorter d (ReadsTerm d) (terms_shorten d) (behind_blanks cs) ds t h in
      omega (arith, f, blanks_shorter cs);
}

pub consumes : (d : ℕ) → Consumes (read_by d)
consumes d = record { shorter = λ cs ds t e. (terms_shorten d).shorter cs ds t ((reads_sound d).reads cs ds t e) }

pub pair_consumes : (d : ℕ) → Consumes (pair_by (read_by d))
pair_consumes d = record {
  shorter = λ cs ds q e. pair_shorter (ReadsTerm d) (terms_shorten d) cs ds q
      ((pair_sound (read_by d) (ReadsTerm d) (reads_sound d)).reads cs ds q e);
}
