-- A text has one tree: whoever is read from the same tokens is the same.
use Rattle.std.proofs.Common.{◌≡◌, refl, sym, ap, ◌∙◌, subst, List, [], ◌∷◌, ◌++◌, Bool, true, false}
use Rattle.core_lex.specs.declared.token.Token.{Token}
use Rattle.core_lex.specs.declared.token.TokenKind.TheVariants.{Word, End}
use Rattle.core_grammar.specs.WrittenTree.{Written, plain_module, noted_module, single, angled}
use Rattle.core_grammar.specs.Standing.{constant, an_atom, a_name, a_variable, pattern, key_sort, IsModule}
use Rattle.core_grammar.specs.Signs.{of_kind, at_place, an_arity, Sign, plain_sign, signs, FitWhole}
use Rattle.core_grammar.specs.ModuleOf.{module_of}
use Rattle.core_texts.specs.Answers.{OneTree}
use Rattle.core_texts.proofs.Cuts.{assoc, front_of, front_of_whole}
use Rattle.core_texts.proofs.Truths.{never}
use Rattle.core_texts.proofs.Fronts.{opens, front}
use Rattle.core_texts.proofs.Opens.{opens_tree, opens_segment, opens_clause}
use Rattle.core_texts.proofs.Overs.{all_over}
use Rattle.core_texts.proofs.Parts.{whole, part, Part, tree_part, items_part, group_part, pairs_part, segment_part, segments_part, head_part, clause_part, clauses_part, definitions_part, attributes_part, module_part, value_part, size_part, unit_part, kind_part, flags_part, flag_part, flag_items_part, Value, Right, signs_of}
use Rattle.core_texts.proofs.Plans.{Plan, done, symbol_next, word_next, arity_next, look, call, bracket, if_next, symbol_sign}
use Rattle.core_texts.proofs.Stacks.{Stack, bottom, frame, State, state, finished}
use Rattle.core_texts.proofs.Complete.{Along, first_way, second_way, Waits, Goes}
use Rattle.core_texts.proofs.Tracks.{Tracked, start, tracked_start, stepped, tracked_on}

-- whether there is a sign
abbrev has_sign : List Sign → Bool
has_sign [] = false
has_sign (g ∷ gs) = true

opens_sign : (gs : List Sign) → front opens gs ≡ true → has_sign gs ≡ true
opens_sign [] h = h
opens_sign (g ∷ gs) h = refl

part_sign : (v : Part) (b : Value v) (r : List Sign) → has_sign (signs_of v b r) ≡ true
part_sign (tree_part s d) t r = opens_sign _ (opens_tree s d t r)
part_sign (items_part s d) ts r = opens_sign _ (opens_tree s d ts.0 _)
part_sign (group_part d) (single t) r = opens_sign _ (opens_tree a_variable d t r)
part_sign (group_part d) (angled p ts) r = refl
part_sign (pairs_part s d) ps r = opens_sign _ (opens_tree (key_sort s) d ps.0 _)
part_sign (segment_part s d) g r = opens_sign _ (opens_segment s d g r)
part_sign (segments_part s d) gs r = opens_sign _ (opens_segment s d gs.0 _)
part_sign (head_part d) (whole c) r = opens_sign _ (opens_clause d c r)
part_sign (head_part d) (part t) r = opens_sign _ (opens_tree pattern _ t r)
part_sign (clause_part d) c r = opens_sign _ (opens_clause d c r)
part_sign (clauses_part d) cs r = opens_sign _ (opens_clause d cs.0 _)
part_sign (definitions_part d) ds r = opens_sign _ (opens_tree a_name _ ds.0 _)
part_sign (attributes_part d) bs r = opens_sign _ (opens_tree an_atom d bs.0 _)
part_sign (module_part d) (plain_module a xs bs ds) r = refl
part_sign (module_part d) (noted_module w n) r = refl
part_sign (value_part d) t r = opens_sign _ (opens_tree constant d t r)
part_sign (size_part d) t r = opens_sign _ (opens_tree constant d t r)
part_sign (unit_part m d) t r = opens_sign _ (opens_tree constant d t r)
part_sign (kind_part d) t r = opens_sign _ (opens_tree an_atom d t r)
part_sign (flags_part d) t r = opens_sign _ (opens_tree constant d t r)
part_sign (flag_part d) t r = opens_sign _ (opens_tree constant d t r)
part_sign (flag_items_part d) ts r = opens_sign _ (opens_tree constant d ts.0 _)

-- Where no sign is left all is read.

record All (w : Part) (a : Value w) (r : List Sign) : Type 0 where
  pub right : Right w a
  pub none : r ≡ []

no_more : {A : Type 0} (g : Sign) (hs : List Sign) → [] ≡ g ∷ hs → A
no_more g hs e = never (ap has_sign e)

along_none : {w : Part} {k : List Sign → List Sign} (P : Plan w k) (a : Value w) (r : List Sign) → Along P a [] r
    → All w a r
along_none {w = w} (done b h e) a r al = record { right = subst (Right w) al.0 h; none = sym al.1 }
along_none (symbol_next c d s P) a r al = no_more (symbol_sign c d s) al.0 al.1
along_none (word_next d x P) a r al = no_more (plain_sign d (of_kind (Word x))) al.0 al.1
along_none (arity_next d f) a r al = no_more (plain_sign d (an_arity al.0)) al.2 al.3
along_none (look l f) a r al = no_more (plain_sign (l.depth al.0 al.1) (at_place al.0 al.1)) al.3 al.4
along_none (call v f) a r al = never (ap has_sign al.3 ∙ part_sign v al.0 al.2)
along_none (bracket v s f) a r al =
    no_more (plain_sign (s.deep al.0) (s.sight al.2 al.0)) (signs_of v al.0 al.3) al.4
along_none (if_next c P Q) a r (first_way al) = along_none P a r al.1
along_none (if_next c P Q) a r (second_way al) = along_none Q a r al.1

waits_none : {v : Part} (st : Stack v) (a : Value v) (m : Written) → Right v a → Waits st a [] m → ⊥
waits_none bottom a m h wt = no_more (plain_sign 0 (of_kind End)) [] wt.1
waits_none (frame pre f st) a m h wt =
    let x = along_none (f a h) wt.0 wt.1 (wt.2 h) in
    waits_none st wt.0 m x.right (subst (λ z. Waits st wt.0 z m) x.none wt.3)

goes_none : (s : State) (m n : Written) → Goes s [] m → Goes s [] n → m ≡ n
goes_none (state P st) m n y z =
    let x = along_none P y.0 y.1 y.2 in
    absurd (waits_none st y.0 m x.right (subst (λ r. Waits st y.0 r m) x.none y.3))
goes_none (finished w) m n y z = sym y.0 ∙ z.0

none_right : (xs : List Token) → xs ++ [] ≡ xs
none_right [] = refl
none_right (x ∷ xs) = ap (λ l. x ∷ l) (none_right xs)

same_from : (later before : List Token) (s : State) → Tracked before s → (m n : Written) → IsModule m → IsModule n
    → FitWhole (signs m) (before ++ later) → FitWhole (signs n) (before ++ later) → m ≡ n
same_from [] before s l m n i j f g =
    let a = subst (FitWhole (signs m)) (none_right before) f in
    let b = subst (FitWhole (signs n)) (none_right before) g in
    let x = l m i (front_of_whole (signs m) before a) in
    let y = l n j (front_of_whole (signs n) before b) in
    goes_none s m n (subst (λ z. Goes s z m) (all_over before (signs m) x.rest x.over a) x.goes)
    (subst (λ z. Goes s z n) (all_over before (signs n) y.rest y.over b) y.goes)
same_from (t ∷ later) before s l m n i j f g =
    let e = sym (assoc before (t ∷ []) later) in
    let a = subst (FitWhole (signs m)) e f in
    let b = subst (FitWhole (signs n)) e g in
    let x = stepped before t s l m i
    (front_of (signs m) (before ++ t ∷ []) later (front_of_whole (signs m) ((before ++ t ∷ []) ++ later) a)) in
    same_from later (before ++ t ∷ []) x.went.next (tracked_on before t s x.went.next x.went.depth l x.went.is)
    m n i j a b

pub one_tree : OneTree
one_tree ts m n h k =
    sym h.tree
    ∙ ap module_of (same_from ts [] start tracked_start h.written k.written h.stands k.stands h.fits k.fits)
    ∙ k.tree
