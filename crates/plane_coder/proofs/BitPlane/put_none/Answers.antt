-- The first bits are the plane's number. Assumes nothing.
use native.Mathlib.Omega.{arith}
use Rattle.plane_parts.proofs.Parts.{plane_length}
use Rattle.plane_coder.specs.Planes.{bits_in}
use Rattle.plane_coder.proofs.ShortPlanes.{first_all}
use Rattle.plane_coder.proofs.BitPlane.put_none.Goals as goal

pub put_ended-requires-clause-ended : goal.put_ended-requires-clause-ended
put_ended-requires-clause-ended c =
    let s = c.args.self.now in
    (first_all s.k c.args.n _ s.words.now c.requires.left c.requires.none c.gather.ensures).0

pub returns-clause-wrote : goal.returns-clause-wrote
returns-clause-wrote c =
    let s = c.args.self.now in
    let first = first_all s.k c.args.n _ s.words.now c.requires.left c.requires.none c.gather.ensures in
    c.put_ended.ensures.wrote (bits_in s) (omega (arith, plane_length s.k s.words.now, c.requires.left)) first.1

pub returns-clause-next : goal.returns-clause-next
returns-clause-next c =
    let s = c.args.self.now in
    let first = first_all s.k c.args.n _ s.words.now c.requires.left c.requires.none c.gather.ensures in
    c.put_ended.ensures.next (bits_in s) (omega (arith, plane_length s.k s.words.now, c.requires.left)) first.1
