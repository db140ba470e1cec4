-- The window without the bits that are passed. Assumes nothing.
use Rattle.bit_reader.proofs.Windows.{within_bits, shorter-holds, window-rest}
use Rattle.bit_reader.proofs.Reader.skip.Goals as goal

pub invariant_of-self : goal.invariant_of-self
invariant_of-self c =
    let r = c.self.invariant in
    let long = within_bits c.self.inside.bytes.now r.within in
    let there = rw (← c.self.view_is) at c.requires in
    rw c.without_bits-self-inside.ensures
    (record { holds = (shorter-holds c.args.count r.holds long there).holds; within = r.within; small = r.small })

pub returns-clause-left : goal.returns-clause-left
returns-clause-left c =
    let r = c.self.invariant in
    let long = within_bits c.self.inside.bytes.now r.within in
    let there = rw (← c.self.view_is) at c.requires in
    rw (← c.self.view_is, c.without_bits-self-inside.ensures) (window-rest r.holds long c.args.count there)
