-- A record becomes a machine exactly where it counts as open. Assumes nothing.
use Rattle.std.proofs.Common.{rules}
use Rattle.transfer_step.proofs.Branches.{unfit}
use Rattle.transfer_step.proofs.record.MachineTryFromTransfer.try_from.Goals as goal

pub returns-in_err-state : goal.returns-in_err-state
returns-in_err-state c =
    let e = c.in_err-state.ensures in
    let u = unfit c.args.t (λ s. e.1 s) in
    search rules
