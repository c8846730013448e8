use Rattle.std.proofs.Common.{◌≡◌, drop}
use Rattle.core_profile.specs.LimitFaults.{export_limits}
use Rattle.core_profile.proofs.limits.keep_exports.Given as goal
use Rattle.first_fault.specs.FirstFault.{first_with}

abbrev pub invariant-loop-name : goal.invariant-loop-name
invariant-loop-name l =
    first_with l.first (export_limits (drop l.name-index l.names)) ≡ first_with l.initial.first (export_limits l.names)
