-- Readers of bits.
use Rattle.std.specs.Prelude.{Bool, List, ℕ, ◌*◌, ◌^◌, ◌≤◌, ◌<◌, length}
use Rattle.std.proofs.Math.Seq.{slice}
use Rattle.bits.specs.Stream.{bits_of}
use Rattle.bit_reader.specs.declared.Window.{Window}
use Rattle.bit_reader.specs.Calls.{place, Holds}

-- what is ahead of a reader: the bits that are left, of which the first stand ready
pub record Ahead : Type 0 where
  pub left : List Bool
  pub ready : ℕ

-- what is ahead of a reader of the bits of some bytes up to `end`, the next of which are in a window
abbrev pub ahead : List ℕ → ℕ → Window → Ahead
ahead bytes end w = record { left = slice (place w) end (bits_of bytes); ready = w.count }

-- the window has its bits within the bytes
pub record IsReader (bytes : List ℕ) (end : ℕ) (w : Window) : Type 0 where
  pub holds : Holds (bits_of bytes) end w
  pub within : end ≤ 8 * length bytes
  pub small : end < 2 ^ 32
