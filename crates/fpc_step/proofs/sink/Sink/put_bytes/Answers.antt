-- `Sink::put_bytes` meets its contract: a turn of the loop puts one byte more. Assumes nothing.
use Rattle.fpc_step.proofs.WordLaws.{put_one}
use Rattle.fpc_step.proofs.sink.Sink.put_bytes.Goals as goal

pub loop-b-preserved : goal.loop-b-preserved
loop-b-preserved c =
    let l = c.loop-b in
    let a = c.args in
    (l.invariant.0, rw c.put.ensures (put_one a.self.now.out.now a.bytes.now a.self.now.at l.b-index l.at l.self.out.now c.loop-b-test.true l.invariant.1))
