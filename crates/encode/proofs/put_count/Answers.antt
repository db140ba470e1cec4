-- The count of planes is from 1 to the word size; in lossy mode nothing is written. Assumes nothing.
use mathlib.Core.Path.{◌∙◌}
use native.Mathlib.Omega.{arith}
use Rattle.bit_writer.proofs.PushLaws.{pushed_none}
use Rattle.codec.proofs.Needed.{needed-range}
use Rattle.codec.proofs.Sizes.{sized, counted}
use Rattle.encode.proofs.put_count.Goals as goal

pub overflow_sub-needed : goal.overflow_sub-needed
overflow_sub-needed g c =
    omega (arith, c.planes_needed-needed.ensures, needed-range g.F.Size.SIZE c.args.us.now (omega (arith, g.met.F.Format.laws.size)))

pub push-requires-clause-number : goal.push-requires-clause-number
push-requires-clause-number g c =
    let law = g.met.F.Format.laws in
    let range = needed-range g.F.Size.SIZE c.args.us.now (omega (arith, law.size)) in
    rw (c.COUNT_BITS.ensures ∙ counted law, (sized g.F.Size.SIZE law.size).count)
    (omega (arith, c.from.ensures, c.planes_needed-needed.ensures, range))

pub returns-in-Lossy-clause-wrote : goal.returns-in-Lossy-clause-wrote
returns-in-Lossy-clause-wrote g c = rw c.in-Lossy.is (pushed_none c.args.writer.now.ready)

pub returns-in-Exact-clause-few : goal.returns-in-Exact-clause-few
returns-in-Exact-clause-few g c =
    omega (arith, c.planes_needed-needed.ensures, needed-range g.F.Size.SIZE c.args.us.now (omega (arith, g.met.F.Format.laws.size)))

pub returns-in-Exact-clause-wrote : goal.returns-in-Exact-clause-wrote
returns-in-Exact-clause-wrote g c =
    let law = g.met.F.Format.laws in
    rw (c.in-Exact.is, (sized g.F.Size.SIZE law.size).size, ← c.planes_needed-needed.ensures)
    (rw (c.COUNT_BITS.ensures ∙ counted law, c.from.ensures) at c.push.ensures.wrote)
