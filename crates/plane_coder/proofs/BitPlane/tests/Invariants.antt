-- The loop's invariant: who writes the rest of the plane, from a test on or within a scan, has written all of it.
use mathlib.Core.Path.{◌≡◌}
use mathlib.Core.Bool.{true, cond}
use Prim.Native.Nat.{◌+◌, ◌-◌, ◌*◌, ◌≤◌, ◌<◌}
use lib.ListN.{length, drop}
use Rattle.bit_writer.specs.declared.Writer.{Writer}
use Rattle.bit_writer.specs.Writers.{IsSame, Wrote}
use Rattle.planes.specs.Coder.{any, test, scan}
use Rattle.plane_parts.specs.Stages.{is_test}
use Rattle.plane_coder.specs.Planes.{bits_in}
use Rattle.plane_coder.proofs.BitPlane.tests.Given as goal

abbrev pub invariant-loop-x : goal.invariant-loop-x
invariant-loop-x l =
    record {
      same : IsSame l.initial.writer l.writer;
      some : any (drop l.i (bits_in l.self)) ≡ true;
      place : l.writer.at.out.at + l.writer.at.count ≤ l.initial.writer.at.out.at + l.initial.writer.at.count + 3 * (l.i - l.n);
      from : l.n ≤ l.i;
      within : l.i < length l.self.words.now;
      rest : (end : Writer)
          → Wrote l.writer end (cond (is_test l.stage) (test (drop l.i (bits_in l.self))) (scan (drop l.i (bits_in l.self))))
          → Wrote l.initial.writer end (test (drop l.n (bits_in l.self)));
    }

abbrev pub decreases-loop-x : goal.decreases-loop-x
decreases-loop-x l = length l.self.words.now - l.i
