use Rattle.std.proofs.Common.{ℕ, List, arith, rules, ◌≡◌, ◌∙◌, ap, ◌+◌, length, drop, eqb, false, Some, ◌<◌, ◌≤◌}
use Rattle.std.proofs.lemmas.Bool.Decides.{nat_tests}
use Rattle.std.proofs.lemmas.List.{length-drop}
use Rattle.core_chars.specs.Escapes.{quoted_char}
use Rattle.core_chars.specs.Quoted.{quoted_text}
use Rattle.core_chars.proofs.Quoting.{read_more, behind}
use Rattle.core_chars.proofs.Values.{drop_item}
use Rattle.core_chars.proofs.quoted.quoted_in.Goals as goal

pub loop-at-preserved : goal.loop-at-preserved
loop-at-preserved c =
    let read : quoted_char (drop c.loop-at.at c.args.rest.now) ≡ Some (c.in-Some.c, c.in-Some.size) =
    search (rules, c.in-Some.ensures.value, c.in-Some.c-is, c.in-Some.size-is) in
    let fits : c.in-Some.size ≤ length (drop c.loop-at.at c.args.rest.now) =
    search (rules, c.in-Some.ensures.fits, c.in-Some.size-is) in
    let positive : 0 < c.in-Some.size = search (rules, c.in-Some.ensures.positive) in
    let other : eqb c.index-rest-at.result c.args.quote ≡ false = grind (arith, nat_tests) in
    record {
      fits = omega (arith, length-drop c.loop-at.at c.args.rest.now);
      rest =
          ap (λ (t : List ℕ). behind t (c.loop-at.at + c.in-Some.size)
          (quoted_text c.args.quote (drop (c.loop-at.at + c.in-Some.size) c.args.rest.now) 0))
          c.in_ok-push-in-Some.ensures.items
          ∙ read_more c.args.quote c.loop-at.at c.index-rest-at.result c.in-Some.c c.in-Some.size c.loop-at.text.items
          c.args.rest.now (drop (c.loop-at.at + 1) c.args.rest.now) _
          (drop_item _ _ _ c.loop-at-test.true c.index-rest-at.is) other read positive fits c.loop-at.invariant.rest;
    }
