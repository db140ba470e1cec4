-- Sizes of words, and the numbers that go with 32 and 64 bits.
use Rattle.std.specs.Prelude.{◌≡◌, ℕ, cond, eqb, ◌≤◌, refl}
use Rattle.std.proofs.Common.{arith}
use Rattle.words.specs.Calls.{Size}

-- the sizes of which sums, differences and halves are taken
pub record IsSize (w : ℕ) : Type 0 where
  pub some : 1 ≤ w
  pub fits : w ≤ 64

pub size_32 : IsSize 32
size_32 = record { some = omega arith; fits = omega arith }

pub size_64 : IsSize 64
size_64 = record { some = omega arith; fits = omega arith }

-- a size, the bits of a float's fraction and of its exponent field, what the field is above the exponent,
-- and the bits that say a number below the size
pub record IsFormat (w k x b n : ℕ) : Type 0 where
  pub size : Size w
  pub fraction : k ≡ cond (eqb w 32) 23 52
  pub field : x ≡ cond (eqb w 32) 8 11
  pub bias : b ≡ cond (eqb w 32) 127 1023
  pub count : n ≡ cond (eqb w 32) 5 6

pub format_32 : IsFormat 32 23 8 127 5
format_32 = record { size = (omega arith, omega arith, refl); fraction = refl; field = refl; bias = refl; count = refl }

pub format_64 : IsFormat 64 52 11 1023 6
format_64 = record { size = (omega arith, omega arith, refl); fraction = refl; field = refl; bias = refl; count = refl }
