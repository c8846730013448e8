use Rattle.std.proofs.Common.{sym, ap, ◌∙◌, ◌++◌, ◌∷◌, [], if◌then◌else◌, arith}
use Rattle.erl_base.specs.Lists.{among}
use Rattle.core_form.specs.Scope.{numbers_of}
use Rattle.core_sites.proofs.Puts.{any_among, numbers_last, put_high, put_seen, put_new}
use Rattle.core_sites.proofs.used.Uses.put.Goals as goal
use Rattle.core_sites.proofs.used.Uses.put.Goals.{then-number-limit-via-then-number-limit, then-number-limit-via-else-number-limit+then-contains}

pub returns-then-number-limit : goal.returns-then-number-limit
returns-then-number-limit c = record {
  ok = elim c.then-number-limit.branch [
    | then-number-limit-via-then-number-limit w ↦
        let h = w.if-number-limit.true in
        let e = c.number-number.ensures in
        put_high c.args.limit c.args.self.now c.args.used (omega (arith, h, e))
    | then-number-limit-via-else-number-limit+then-contains w ↦
        put_seen c.args.limit c.args.self.now c.args.used
        (sym (w.contains.ensures ∙ any_among c.number-number.result c.self.inside.numbers.keys
        ∙ ap (λ ks. among c.number-number.result ks) (c.self.invariant ∙ ap numbers_of c.self.view_is)
        ∙ ap (λ n. among n (numbers_of c.args.self.now)) c.number-number.ensures)
        ∙ w.if-contains.true)
  ];
}

pub invariant_of-self-in-Ok : goal.invariant_of-self-in-Ok
invariant_of-self-in-Ok c =
    c.in-Ok.ensures.keys
    ∙ ap (λ b. if b then c.self.inside.numbers.keys else c.self.inside.numbers.keys ++ c.number-number.result ∷ [])
    (sym c.contains.ensures ∙ c.if-contains.false)
    ∙ (λ i. c.self.invariant i ++ c.number-number.ensures i ∷ [])
    ∙ sym (numbers_last c.self.inside.items c.args.used) ∙ ap numbers_of (sym c.in_ok-push.ensures.ok)

pub returns-in-Ok : goal.returns-in-Ok
returns-in-Ok c = record {
  ok =
      let h = c.if-number-limit.false in
      let e = c.number-number.ensures in
      c.in_ok-push.ensures.ok ∙ ap (λ us. us ++ c.args.used ∷ []) c.self.view_is
      ∙ put_new c.args.limit c.args.self.now c.args.used (omega (arith, h, e))
      (sym (c.contains.ensures ∙ any_among c.number-number.result c.self.inside.numbers.keys
      ∙ ap (λ ks. among c.number-number.result ks) (c.self.invariant ∙ ap numbers_of c.self.view_is)
      ∙ ap (λ n. among n (numbers_of c.args.self.now)) c.number-number.ensures)
      ∙ c.if-contains.false);
}
