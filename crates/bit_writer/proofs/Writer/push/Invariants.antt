-- The invariant: of all the bits, those held back and those of v above them, some were stored, and the others are left.
use Rattle.bit_writer.proofs.PushLaws.{Partly}
use Rattle.bit_writer.specs.Writers.{IsSame}
use lib.ListN.{length}
use Prim.Native.Nat.{◌≤◌}
use mathlib.Core.Path.{◌≡◌}
use Rattle.bit_writer.proofs.Writer.push.Given as goal

abbrev pub invariant-loop-left : goal.invariant-loop-left
invariant-loop-left l =
    record {
      same : IsSame l.initial.self l.self;
      at : l.self.at ≡ l.initial.self.at;
      long : length l.self.buf.now ≡ length l.initial.self.buf.now;
      few : l.left ≤ 63;
      partly : Partly l.initial.self.buf.now l.self.buf.now l.initial.self.limit l.initial.out l.initial.bits l.initial.left l.out l.bits l.left;
    }

abbrev pub decreases-loop-left : goal.decreases-loop-left
decreases-loop-left l = l.left
