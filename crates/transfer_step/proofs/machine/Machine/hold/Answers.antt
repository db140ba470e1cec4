-- `Machine::hold` meets its contract: at most eight bytes are a number below 2 ^ 64. Assumes nothing.
use Rattle.std.proofs.Common.{arith}
use Rattle.transfer_step.proofs.Branches.{fits_eight, shifted}
use Rattle.transfer_step.proofs.machine.Machine.hold.Goals as goal

pub overflow_add-self : goal.overflow_add-self
overflow_add-self c =
    let m = c.args.self.now in
    let e = shifted m.value c.args.b m.held c.requires.small (omega arith) c.requires.room in
    rw (c.from.ensures, e) (record { fits = fits_eight m.value c.args.b m.held c.requires.small (omega arith) c.requires.room })

pub returns : goal.returns
returns c =
    let m = c.args.self.now in
    rw (c.from.ensures, shifted m.value c.args.b m.held c.requires.small (omega arith) c.requires.room)
