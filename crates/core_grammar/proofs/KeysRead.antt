-- Where only a constant may stand, there is one.
use Rattle.std.proofs.Common.{◌≡◌, refl, Bool, true, false, not, List, Option, Some, None, IsTrue}
use Rattle.core_grammar.specs.WrittenTree.{Tree, variable, atom, number, wide, float, character, string, function_name, external, noted, alias, list, list_on, tuple, values, new_map, map_on, binary, fun, let_in, letrec, case, apply, call, primop, do_then, catch, try, receive, Row, none, more, Pairs, no_pair, pair}
use Rattle.core_grammar.specs.Standing.{constant, key, Stands, RowStands, PairsStand}
use Rattle.core_grammar.specs.ConstantTerms.{and_item, constant_pair, constant_list, constant_tuple, constant_map, constant_bits, constant_of, constants_of, constant_pairs_of, bits_of_segments}
use Rattle.erl_base.specs.Names.{Name}
use Rattle.erl_base.specs.declared.ids.Place.{Place}
use Rattle.erl_term.specs.Term.{Term}
use Rattle.core_form.specs.Core as C
use Rattle.core_form.specs.Walks.{Asked, all_in}
use Rattle.core_form.specs.SourceTree.{is_variable_name}
use Rattle.core_grammar.specs.ModuleOf.{literal_or, expr_of}
use Rattle.core_grammar.proofs.Constants.{Where, Written, code_within, constants_written}
use Rattle.core_grammar.proofs.Truths.{never, is_some, Holds}

both_there : {A : Type 0} (o : Option A) (os : Option (List A)) → is_some o ≡ true → is_some os ≡ true
    → is_some (and_item o os) ≡ true
both_there None os h k = never h
both_there (Some x) None h k = never k
both_there (Some x) (Some xs) h k = refl

list_there : (o : Option _) (q : Option _) → is_some o ≡ true → is_some q ≡ true → is_some (constant_list o q) ≡ true
list_there None q h k = never h
list_there (Some ts) None h k = never k
list_there (Some ts) (Some t) h k = refl

tuple_there : (o : Option _) → is_some o ≡ true → is_some (constant_tuple o) ≡ true
tuple_there None h = never h
tuple_there (Some ts) h = refl

map_there : (o : Option _) → is_some o ≡ true → is_some (constant_map o) ≡ true
map_there None h = never h
map_there (Some ts) h = refl

pub bits_there : (o : Option (List Bool)) → IsTrue (elim o [ None ↦ false | Some bs ↦ true ])
    → is_some (constant_bits o) ≡ true
bits_there None h = never h
bits_there (Some ts) h = refl

pair_there : (o : Option _) (x : Bool) (q : Option _) → is_some o ≡ true → IsTrue (not x) → is_some q ≡ true
    → is_some (constant_pair o x q) ≡ true
pair_there None x q h f k = never h
pair_there (Some t) true q h f k = never f
pair_there (Some t) false None h f k = never k
pair_there (Some t) false (Some u) h f k = refl

mutual
  pub constant_there : (t : Tree) → Stands constant t → is_some (constant_of false t) ≡ true
  constant_there (variable p x) h = never h.0
  constant_there (atom p a) h = refl
  constant_there (number p g z) h = refl
  constant_there (wide p n) h = refl
  constant_there (float p) h = refl
  constant_there (character p c) h = refl
  constant_there (string p cs) h = refl
  constant_there (function_name p a n) h = never h.0
  constant_there (external p m f n) h = refl
  constant_there (noted p t n) h = constant_there t h.0
  constant_there (alias x t) h = never h.0
  constant_there (list p ts) h = list_there (constants_of false ts) _ (constants_there ts h.1) refl
  constant_there (list_on p t ts u) h =
      list_there (and_item (constant_of false t) (constants_of false ts)) (constant_of false u)
      (both_there (constant_of false t) (constants_of false ts) (constant_there t h.1) (constants_there ts h.2))
      (constant_there u h.3)
  constant_there (tuple p ts) h = tuple_there (constants_of false ts) (constants_there ts h.1)
  constant_there (values p ts) h = never h.0
  constant_there (new_map p ps) h = map_there (constant_pairs_of false ps) (pairs_there ps h.1)
  constant_there (map_on p ps t) h = never h.0
  constant_there (binary p gs) h = bits_there (bits_of_segments gs) h.0
  constant_there (fun p xs t) h = never h.0
  constant_there (let_in p xs t u) h = never h.0
  constant_there (letrec p ds t) h = never h.0
  constant_there (case p t c cs) h = never h.0
  constant_there (apply p t ts) h = never h.0
  constant_there (call p m f ts) h = never h.0
  constant_there (primop p a ts) h = never h.0
  constant_there (do_then p t u) h = never h.0
  constant_there (catch p t) h = never h.0
  constant_there (try p t xs u ys v) h = never h.0
  constant_there (receive p cs t u) h = never h.0

  pub constants_there : (ts : Row) → RowStands constant ts → is_some (constants_of false ts) ≡ true
  constants_there none h = refl
  constants_there (more t ts) h =
      both_there (constant_of false t) (constants_of false ts) (constant_there t h.0) (constants_there ts h.1)

  pub pairs_there : (ps : Pairs) → PairsStand constant ps → is_some (constant_pairs_of false ps) ≡ true
  pairs_there no_pair h = refl
  pairs_there (pair t x u ps) h =
      both_there (constant_pair (constant_of false t) x (constant_of false u)) (constant_pairs_of false ps)
      (pair_there (constant_of false t) x (constant_of false u) (constant_there t h.0) h.1 (constant_there u h.2))
      (pairs_there ps h.3)

-- what stands as pairs of a key stands as pairs of a constant
pub pairs_of_key : (ps : Pairs) → PairsStand key ps → PairsStand constant ps
pairs_of_key no_pair h = tt
pairs_of_key (pair t x u ps) h = (h.0, h.1, h.2, pairs_of_key ps h.3)

module _ (q : Asked Bool) (at_literal : (p : Place) (v : Term) → Written false v → Holds (q.at_expr (C.literal p v)))
    (at_variable : (p : Place) (x : Name) → IsTrue (is_variable_name x) → Holds (q.at_expr (C.var p x))) where
  of_there : (p : Place) (o : Option Term) (e : C.Expr) → Where (Written false) o → is_some o ≡ true
      → Holds (all_in q (literal_or p o e))
  of_there p None e h k = never k
  of_there p (Some v) e h k = at_literal p v h

  -- a key or a size of a pattern is a variable or a literal
  pub in_key : (t : Tree) → Stands key t → Holds (all_in q (expr_of t))
  in_key (variable p x) h = at_variable p x h.1
  in_key (atom p a) h = at_literal p _ refl
  in_key (number p g z) h = at_literal p _ h.1
  in_key (wide p n) h = at_literal p _ refl
  in_key (float p) h = at_literal p _ refl
  in_key (character p c) h = at_literal p _ (code_within c h.1)
  in_key (string p cs) h = at_literal p _ (constants_written false key (string p cs) h)
  in_key (function_name p a n) h = never h.0
  in_key (external p m f n) h = at_literal p _ h.1
  in_key (noted p t n) h = in_key t h.0
  in_key (alias x t) h = never h.0
  in_key (list p ts) h =
      of_there p (constant_of false (list p ts)) _ (constants_written false key (list p ts) h)
      (constant_there (list p ts) (refl, h.1))
  in_key (list_on p t ts u) h =
      of_there p (constant_of false (list_on p t ts u)) _ (constants_written false key (list_on p t ts u) h)
      (constant_there (list_on p t ts u) (refl, h.1, h.2, h.3))
  in_key (tuple p ts) h =
      of_there p (constant_of false (tuple p ts)) _ (constants_written false key (tuple p ts) h)
      (constant_there (tuple p ts) (refl, h.1))
  in_key (values p ts) h = never h.0
  in_key (new_map p ps) h =
      of_there p (constant_of false (new_map p ps)) _ (constants_written false key (new_map p ps) h)
      (constant_there (new_map p ps) (refl, pairs_of_key ps h.1))
  in_key (map_on p ps t) h = never h.0
  in_key (binary p gs) h =
      of_there p (constant_of false (binary p gs)) _ (constants_written false key (binary p gs) h)
      (bits_there (bits_of_segments gs) h.0)
  in_key (fun p xs t) h = never h.0
  in_key (let_in p xs t u) h = never h.0
  in_key (letrec p ds t) h = never h.0
  in_key (case p t c cs) h = never h.0
  in_key (apply p t ts) h = never h.0
  in_key (call p m f ts) h = never h.0
  in_key (primop p a ts) h = never h.0
  in_key (do_then p t u) h = never h.0
  in_key (catch p t) h = never h.0
  in_key (try p t xs u ys v) h = never h.0
  in_key (receive p cs t u) h = never h.0
