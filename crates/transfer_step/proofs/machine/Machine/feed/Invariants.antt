-- The invariant: the bytes so far, fed to the machine at entry, gave what stands here.
use Rattle.std.proofs.Common.{length}
use Rattle.fpc_step.specs.Calls.{predictors_of, IsSame}
use Rattle.transfer_step.specs.Record.{machine_of}
use Rattle.transfer_step.proofs.Pieces.{Feeding}
use Rattle.transfer_step.proofs.machine.Machine.feed.Given as goal

abbrev pub invariant-loop-b : goal.invariant-loop-b
invariant-loop-b l =
    let size = length l.fn.predictors.fcm.now in
    IsSame l.fn.predictors l.predictors
    × Feeding (machine_of size l.fn.self (predictors_of l.fn.predictors)) l.piece l.fn.doubles (machine_of size l.machine (predictors_of l.predictors)) l.doubles l.given l.b-index
