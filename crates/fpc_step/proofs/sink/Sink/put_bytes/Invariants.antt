-- The invariant: the bytes so far stand in the output, which is the one that was lent.
use Rattle.std.proofs.Common.{◌≡◌, take}
use Rattle.fpc_step.specs.Calls.{Appended}
use Rattle.fpc_step.proofs.sink.Sink.put_bytes.Given as goal

abbrev pub invariant-loop-b : goal.invariant-loop-b
invariant-loop-b l =
    (l.self.out.ghost_name ≡ l.fn.self.out.ghost_name)
    × Appended l.fn.self.out.now l.fn.self.at (take l.b-index l.bytes) l.at l.self.out.now
