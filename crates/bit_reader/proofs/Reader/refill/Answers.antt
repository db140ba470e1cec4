-- The invariant: no bit is passed. Assumes nothing.
use Rattle.bit_reader.proofs.Windows.{within_bits, window-left}
use native.Mathlib.Omega.{arith}
use Rattle.bit_reader.proofs.Reader.refill.Goals as goal

pub fill-requires-clause-more : goal.fill-requires-clause-more
fill-requires-clause-more c =
    let r = c.self.invariant in
    let left = window-left r.holds (within_bits c.self.inside.bytes.now r.within) in
    rw (← c.self.view_is) (omega (arith, left, r.holds.back, c.if-self.false))
