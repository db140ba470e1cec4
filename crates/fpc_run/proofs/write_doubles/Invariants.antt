-- The invariant: writing the rest of the doubles from here gives what writing all of them from the start gives.
use Rattle.std.proofs.Common.{◌≡◌, ◌*◌, length}
use Rattle.fpc_step.specs.Calls.{predictors_of, IsSame}
use Rattle.fpc_run.proofs.RunLaws.{Writing}
use Rattle.fpc_run.proofs.write_doubles.Given as goal

abbrev pub invariant-loop-v : goal.invariant-loop-v
invariant-loop-v l =
    IsSame l.fn.predictors l.predictors
    × (l.sink.out.ghost_name ≡ l.fn.sink.out.ghost_name)
    × Writing (length l.fn.predictors.fcm.now) (predictors_of l.fn.predictors) l.fn.sink.out.now l.fn.sink.at l.doubles
    (predictors_of l.predictors) l.sink.out.now l.sink.at (2 * l.v-index)
