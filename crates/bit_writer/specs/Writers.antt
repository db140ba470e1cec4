-- What a writer's methods do, old and new, by the definitions over buffers.
use Rattle.std.specs.Prelude.{◌≡◌, Bool, List}
use Rattle.bits.specs.Stream.{number_bits}
use Rattle.bit_writer.specs.declared.Writer.{Writer}
use Rattle.bit_writer.specs.Calls.{Pushed}

-- the same buffer is lent, and the limit stays
pub record IsSame (old new : Writer) : Type 0 where
  pub buf : new.buf.ghost_name ≡ old.buf.ghost_name
  pub limit : new.limit ≡ old.limit

-- the bits held back
abbrev pub bits_held : Writer → List Bool
bits_held w = number_bits w.at.count w.at.bits

-- a code was written after what was written before
abbrev pub Wrote : Writer → Writer → List Bool → Type 0
Wrote old new code = Pushed old.buf.now new.buf.now old.at old.limit code new.at
