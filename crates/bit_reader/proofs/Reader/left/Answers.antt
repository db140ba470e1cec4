-- The bits from the place of the window up to the end. Assumes nothing.
use Rattle.bit_reader.proofs.Windows.{within_bits, window-left}
use Rattle.bit_reader.proofs.Reader.left.Goals as goal

pub returns : goal.returns
returns c =
    let r = c.self.invariant in
    rw (← c.self.view_is) (window-left r.holds (within_bits c.self.inside.bytes.now r.within))
