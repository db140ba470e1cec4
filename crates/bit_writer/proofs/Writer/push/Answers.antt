-- The invariant: of all the bits, those held back and those of v above them, some were stored, and the others are left.
use Rattle.bit_writer.proofs.PushLaws.{above_lt, moved_exact, partly_none, partly_more, partly_pushed}
use lib.Pow.{pow_mono}
use native.Mathlib.Omega.{arith}
use Prim.Native.Nat.{◌+◌}
use mathlib.Core.Path.{refl, ◌∙◌}
use Rattle.bit_writer.proofs.Writer.push.Goals as goal

pub overflow_add-bits : goal.overflow_add-bits
overflow_add-bits c =
    let w = c.args.self.now.at in
    let ready = c.args.self.now.ready in
    let n = c.args.count in
    record {
      fits = rw (moved_exact w.count n c.args.v c.requires.number c.requires.few (omega (arith, ready.short)))
          (omega (
            arith,
            ready.short,
            above_lt w.count n w.bits c.args.v ready.held c.requires.number,
            pow_mono {i = w.count + n} {j = 64} (omega (arith, ready.short)),
          ));
    }

pub loop-left-init : goal.loop-left-init
loop-left-init c =
    let w = c.args.self.now.at in
    let ready = c.args.self.now.ready in
    let n = c.args.count in
    record {
      same = record { buf = refl; limit = refl };
      at = refl;
      long = refl;
      few = omega (arith, ready.short);
      partly =
          partly_none _ _ _ _ _
          (rw (moved_exact w.count n c.args.v c.requires.number c.requires.few (omega (arith, ready.short)))
          (above_lt w.count n w.bits c.args.v ready.held c.requires.number))
          ready.fair;
    }

pub loop-left-preserved : goal.loop-left-preserved
loop-left-preserved c =
    let put = c.flush-out in
    let kept = c.loop-left.invariant in
    record {
      same = record { buf = kept.same.buf; limit = kept.same.limit };
      at = kept.at;
      long = put.auto.buf ∙ kept.long;
      few = omega (arith, kept.few);
      partly = partly_more kept.partly refl (omega arith) (rw kept.same.limit at put.ensures.written) put.ensures.cheap;
    }

pub returns-clause-wrote : goal.returns-clause-wrote
returns-clause-wrote c =
    let l = c.loop-left in
    let w = c.args.self.now.at in
    let ready = c.args.self.now.ready in
    let n = c.args.count in
    partly_pushed c.args.v n ready
    (rw (moved_exact w.count n c.args.v c.requires.number c.requires.few (omega (arith, ready.short))) at l.invariant.partly) (omega arith)
