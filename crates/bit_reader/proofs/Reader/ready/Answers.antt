-- The bits of the window are among those that are left. Assumes nothing.
use Rattle.bit_reader.proofs.Windows.{within_bits, window-within}
use Rattle.bit_reader.proofs.Reader.ready.Goals as goal

pub returns-clause-within : goal.returns-clause-within
returns-clause-within c =
    let r = c.self.invariant in
    rw (← c.self.view_is) (window-within r.holds (within_bits c.self.inside.bytes.now r.within))
