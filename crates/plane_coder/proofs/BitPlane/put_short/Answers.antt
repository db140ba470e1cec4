-- The plane as a number: its first bits, then its test. Assumes nothing.
use mathlib.Core.Path.{sym}
use mathlib.Core.List.{[]}
use Prim.Native.Nat.{◌≤◌}
use native.Mathlib.Omega.{arith}
use lib.ListN.{length, drop}
use Rattle.bit_writer.proofs.PushLaws.{pushed_none, pushed_append, pushed_place}
use Rattle.bit_writer.proofs.WriterLaws.{wrote_more}
use Rattle.planes.specs.Coder.{plane_code}
use Rattle.plane_parts.proofs.Parts.{plane_length}
use Rattle.plane_coder.specs.Planes.{bits_in}
use Rattle.plane_coder.proofs.Places.{first-length, test-end, next_past}
use Rattle.plane_coder.proofs.ShortPlanes.{short-part, short-test, short-next}
use Rattle.plane_coder.proofs.BitPlane.put_short.Goals as goal

pub returns-then-n-places-2-clause-wrote : goal.returns-then-n-places-2-clause-wrote
unfolding plane_code
returns-then-n-places-2-clause-wrote c =
    let s = c.args.self.now in
    let p = c.put_first.ensures.wrote (bits_in s) (omega (arith, plane_length s.k s.words.now, c.requires.places)) c.gather_all-x.ensures in
    pushed_append p (rw (test-end s.k s.words.now c.args.n (omega arith)) (pushed_none p.ready))

pub returns-then-n-places-2-clause-next : goal.returns-then-n-places-2-clause-next
returns-then-n-places-2-clause-next c =
    let s = c.args.self.now in
    sym (next_past s.k s.words.now c.args.n (omega arith))

pub push-requires-clause-place : goal.push-requires-clause-place
push-requires-clause-place c =
    let s = c.args.self.now in
    let p = c.put_first.ensures.wrote (bits_in s) (omega (arith, plane_length s.k s.words.now, c.requires.places)) c.gather_all-x.ensures in
    let long = first-length s.k s.words.now c.args.n c.requires.places in
    omega (arith, pushed_place p, long, c.args.writer.now.ready.short, c.requires.place, c.requires.places, c.requires.short)

pub returns-clause-wrote : goal.returns-clause-wrote
unfolding plane_code
returns-clause-wrote c =
    let s = c.args.self.now in
    let n = c.args.n in
    let d = bits_in s in
    let long = plane_length s.k s.words.now in
    let l : n ≤ length d = omega (arith, long, c.requires.places) in
    let p = c.put_first.ensures.wrote d l c.gather_all-x.ensures in
    let code = c.code_of-code.ensures.code (drop n d) [] (rw long at (short-part d c.gather_all-x.result n l c.gather_all-x.ensures)) in
    wrote_more c.put_first.ensures.same.limit p
    (rw (short-test d c.gather_all-x.result n l c.gather_all-x.ensures _ _ code) at c.push.ensures.wrote)

pub returns-clause-next : goal.returns-clause-next
returns-clause-next c =
    let s = c.args.self.now in
    let long = plane_length s.k s.words.now in
    short-next (bits_in s) c.gather_all-x.result c.args.n (omega (arith, long, c.requires.places)) c.gather_all-x.ensures
    (omega (arith, long, c.requires.short))
