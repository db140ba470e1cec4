-- The loop's invariant: the i first bits are written.
use Prim.Native.Nat.{◌-◌, ◌≤◌}
use lib.ListN.{take}
use Rattle.bit_writer.specs.Writers.{IsSame, Wrote}
use Rattle.plane_coder.specs.Planes.{bits_in}
use Rattle.plane_coder.proofs.BitPlane.verbatim.Given as goal

abbrev pub invariant-loop-i : goal.invariant-loop-i
invariant-loop-i l =
    record {
      same : IsSame l.initial.writer l.writer;
      within : l.i ≤ l.n;
      wrote : Wrote l.initial.writer l.writer (take l.i (bits_in l.self));
    }

abbrev pub decreases-loop-i : goal.decreases-loop-i
decreases-loop-i l = l.n - l.i
