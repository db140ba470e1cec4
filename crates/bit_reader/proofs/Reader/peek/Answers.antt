-- The number of the window. Assumes nothing.
use Rattle.bit_reader.proofs.Windows.{within_bits, window-number}
use Rattle.bit_reader.proofs.Reader.peek.Goals as goal

pub returns : goal.returns
returns c =
    let r = c.self.invariant in
    rw (← c.self.view_is) (window-number r.holds (within_bits c.self.inside.bytes.now r.within))
