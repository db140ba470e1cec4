-- `Machine::feed` meets its contract: a turn of the loop takes one byte more. Assumes nothing.
use Rattle.std.proofs.Common.{refl, ap, arith}
use Rattle.fpc_step.proofs.SameLaws.{same_then}
use Rattle.transfer_step.specs.Record.{state_number}
use Rattle.transfer_step.proofs.Pieces.{feeding_start, soon, feeding-next, feeding-damaged, feeding-done}
use Rattle.transfer_step.proofs.machine.Machine.feed.Goals as goal

pub loop-b-init : goal.loop-b-init
loop-b-init c = (record { fcm = refl; dfcm = refl; size = refl }, feeding_start _ _ _ c.requires.stands)

pub returns-in-Damaged-clause-gave : goal.returns-in-Damaged-clause-gave
returns-in-Damaged-clause-gave c = feeding-damaged c.loop-b.invariant.1 (ap state_number c.in-Damaged.is)

pub feed_byte-given-requires : goal.feed_byte-given-requires
feed_byte-given-requires c =
    let i = c.loop-b.invariant in
    record { stands = rw i.0.size i.1.stands; early = omega (arith, soon i.1 (omega arith), c.requires.short, c.loop-b-test.true) }

pub loop-b-preserved : goal.loop-b-preserved
loop-b-preserved c =
    let i = c.loop-b.invariant in
    let g = c.feed_byte-given.ensures in
    (same_then _ _ _ i.0 g.same, feeding-next i.1 c.loop-b-test.true (c.type_inv.piece c.loop-b.b-index).fits (rw i.0.size at g.gave))

pub returns-clause-gave : goal.returns-clause-gave
returns-clause-gave c = feeding-done c.loop-b.invariant.1 (omega arith)
