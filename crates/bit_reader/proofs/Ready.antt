-- Bits that stand ready as a number: the first of them, those after these, and those that are not ready. Assumes nothing.
use mathlib.Core.Path.{◌≡◌, sym, ap, ◌∙◌}
use mathlib.Core.Bool.{Bool}
use mathlib.Core.List.{List, ◌++◌}
use Prim.Native.Nat.{ℕ, ◌+◌, ◌-◌, ◌/◌, ◌^◌, ◌≤◌, ◌<◌, min}
use native.Mathlib.Omega.{arith}
use lib.ListN.{length, take, drop, take-append-drop, drop_of_length-le}
use lib.Seq.{length-take-le, take-append-le, drop-append-le}
use Rattle.bits.specs.Stream.{number_bits, number_of}
use Rattle.bits.proofs.NumberLaws.{number_bits_add, number_bits_take, bits_back}

-- the first c bits of s
module _ (s : List Bool) (c : ℕ) (there : c ≤ length s) where
  pub ready-all : number_bits c (number_of (take c s)) ≡ take c s
  ready-all = rw (length-take-le c s there) at (bits_back (take c s))

  pub ready-first : (m : ℕ) → m ≤ c → number_bits m (number_of (take c s)) ≡ take m s
  ready-first m k =
      let few : min c m ≡ m = omega arith in
      let within = take-append-le m (take c s) (drop c s) (omega (arith, length-take-le c s there)) in
      sym (rw few at (number_bits_take m c (number_of (take c s)))) ∙ ap (take m) ready-all ∙ sym (rw (take-append-drop c s) at within)

  -- those after the first m, ready or not
  pub ready-rest : (m : ℕ) → m ≤ c → drop m s ≡ number_bits (c - m) (number_of (take c s) / 2 ^ m) ++ drop c s
  ready-rest m k =
      let v = number_of (take c s) in
      let sum : m + (c - m) ≡ c = omega arith in
      let more = number_bits (c - m) (v / 2 ^ m) in
      let add = rw sum at (number_bits_add m (c - m) v) in
      let parts : take c s ≡ take m s ++ more = sym ready-all ∙ add ∙ ap (λ (l : List Bool). l ++ more) (ready-first m k) in
      let first = length-take-le m s (omega arith) in
      let gone = drop_of_length-le (take m s) {i = m} (omega arith) in
      let after = drop-append-le m (take m s) more (omega arith) in
      let whole = drop-append-le m (take c s) (drop c s) (omega (arith, length-take-le c s there)) in
      (rw (take-append-drop c s) at whole) ∙ ap (λ (l : List Bool). l ++ drop c s) (ap (drop m) parts ∙ rw gone at after)

-- where fewer bits stand ready than are made so, they are all
pub ready_last : (s : List Bool) (c : ℕ) → (c < length s → 32 ≤ c) → c < 32 → length s ≤ c
ready_last s c full few = end (λ h. omega (arith, full h))
  where
    end : (c < length s → ⊥) → length s ≤ c
    end never = omega arith
