use Rattle.std.proofs.Common.{◌-◌, length, drop, map, ap, ap₂, ◌∙◌, arith}
use Rattle.core_form.specs.View.{segs}
use Rattle.core_names.specs.Readings.{seg_view}
use Rattle.core_scope.proofs.Growth.{segs_fit, segs_left}
use Rattle.core_scope.proofs.patterns.look_in_binary.Goals as goal

pub leave-requires : goal.leave-requires
leave-requires c =
    let e = c.len-base.ensures.value in
    let k = ap length c.in_ok-first.ensures.names in
    let f = segs_fit (segs (map seg_view c.args.items.now)) c.args.names.now in
    omega (arith, e, k, f)

pub returns-clause-names : goal.returns-clause-names
returns-clause-names c =
    c.leave.ensures ∙ ap₂ (λ n l. drop (length l - n) l) c.len-base.ensures.value c.in_ok-first.ensures.names
    ∙ segs_left (segs (map seg_view c.args.items.now)) c.args.names.now
