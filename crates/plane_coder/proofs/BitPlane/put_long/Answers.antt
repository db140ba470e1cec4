-- A plane is its n first bits, then a test, of which nothing is left at place N; n is then the place after the last one, if that is later. Assumes nothing.
use mathlib.Core.Path.{sym, ◌∙◌}
use native.Mathlib.Omega.{arith}
use Rattle.bit_writer.proofs.PushLaws.{pushed_none, pushed_append, pushed_place}
use Rattle.bit_writer.proofs.WriterLaws.{wrote_more}
use Rattle.planes.specs.Coder.{plane_code}
use Rattle.planes.proofs.End.{next_end}
use Rattle.plane_coder.specs.Planes.{bits_in}
use Rattle.plane_coder.proofs.Places.{first-length, test-end, test_none, next_past, one_end, none_end}
use Rattle.plane_coder.proofs.BitPlane.put_long.Goals as goal

pub returns-then-n-self-clause-wrote : goal.returns-then-n-self-clause-wrote
unfolding plane_code
returns-then-n-self-clause-wrote c =
    let s = c.args.self.now in
    let v = c.verbatim.ensures.wrote in
    pushed_append v (rw (test-end s.k s.words.now c.args.n (omega arith)) (pushed_none v.ready))

pub returns-then-n-self-clause-next : goal.returns-then-n-self-clause-next
returns-then-n-self-clause-next c =
    let s = c.args.self.now in
    sym (next_past s.k s.words.now c.args.n (omega arith))

pub tests-requires-clause-place : goal.tests-requires-clause-place
tests-requires-clause-place c =
    let s = c.args.self.now in
    let first = first-length s.k s.words.now c.args.n c.requires.places in
    omega (arith, pushed_place c.verbatim.ensures.wrote, first, c.args.writer.now.ready.short, c.requires.place, c.requires.places, s.few)

pub push-requires-clause-place : goal.push-requires-clause-place
push-requires-clause-place c =
    let s = c.args.self.now in
    let first = first-length s.k s.words.now c.args.n c.requires.places in
    omega (arith, pushed_place c.verbatim.ensures.wrote, first, c.args.writer.now.ready.short, c.requires.place, c.requires.places, s.few)

pub returns-then-any_from-clause-wrote : goal.returns-then-any_from-clause-wrote
unfolding plane_code
returns-then-any_from-clause-wrote c =
    let v = c.verbatim.ensures in
    wrote_more v.same.limit v.wrote c.tests.ensures.wrote

pub returns-then-any_from-clause-next : goal.returns-then-any_from-clause-next
returns-then-any_from-clause-next c =
    let s = c.args.self.now in
    let some = sym c.any_from.ensures ∙ c.if-any_from.true in
    omega (arith, c.tests.ensures.next, next_end c.args.n (bits_in s), one_end s.k s.words.now c.args.n some)

pub returns-else-any_from-clause-wrote : goal.returns-else-any_from-clause-wrote
unfolding plane_code
returns-else-any_from-clause-wrote c =
    let s = c.args.self.now in
    let v = c.verbatim.ensures in
    let none = sym c.any_from.ensures ∙ c.if-any_from.false in
    wrote_more v.same.limit v.wrote (rw (test_none s.k s.words.now c.args.n (omega (arith, c.requires.places)) none) c.push.ensures.wrote)

pub returns-else-any_from-clause-next : goal.returns-else-any_from-clause-next
returns-else-any_from-clause-next c =
    let s = c.args.self.now in
    let none = sym c.any_from.ensures ∙ c.if-any_from.false in
    omega (arith, next_end c.args.n (bits_in s), none_end s.k s.words.now c.args.n none)
