-- The length of tables is a power of two, and a mask by one less is a remainder. Assumes nothing.
use Rattle.std.proofs.Common.{◌≡◌, ℕ, List, length, ◌-◌, ◌%◌, bit_and}
use Rattle.std.proofs.Math.Logic.{∥∥₁_elim}
use Rattle.std.proofs.Math.Nat.{ℕ_set}
use Rattle.std.specs.Int.{IsPowerOfTwo}
use Rattle.fpc_stream.specs.Calls.{Tables}
use Rattle.std.proofs.lemmas.Nat.{and_mask}

pub masked : (n : ℕ) → ∥ IsPowerOfTwo n ∥₁ → (x : ℕ) → bit_and x (n - 1) ≡ x % n
masked n p x = ∥∥₁_elim p (ℕ_set _ _) (one n x)
  where
    one : (n x : ℕ) → IsPowerOfTwo n → bit_and x (n - 1) ≡ x % n
    one n x (k, e) = rw e (and_mask x k)

pub power_of : (f d : List ℕ) → Tables f d → ∥ IsPowerOfTwo (length f) ∥₁
power_of f d t = ∣ (t.digits, t.power) ∣₁
