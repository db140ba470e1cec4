-- A reader of a block takes no more planes than were asked for. Assumes nothing.
use native.Mathlib.Omega.{arith}
use Rattle.decode.proofs.read_block.Goals as goal

pub read_integers-whole-requires-clause-planes : goal.read_integers-whole-requires-clause-planes
read_integers-whole-requires-clause-planes g c =
    let form = c.read_form-form.ensures c.args.end (omega (arith, c.requires.room)) c.requires.within in
    omega (arith, c.planes-planes.ensures, form.few, c.requires.planes)
