-- What stands in front of a block's planes, as one number.
use mathlib.Core.Path.{◌≡◌, refl}
use mathlib.Core.Bool.{true, false}
use mathlib.Core.List.{◌∷◌}
use Prim.Native.Nat.{ℕ, suc, ◌+◌, ◌*◌, ◌/◌, ◌%◌}
use native.Mathlib.Numerals.{add-one}
use native.Mathlib.Omega.{arith}
use Rattle.bits.specs.Stream.{number_bits}
use Rattle.codec.specs.declared.form.Form.{Form}
use Rattle.codec.specs.declared.form.Form.TheVariants.{Integers, Zeros, Multiples, Flipped, Lossy}
use Rattle.codec.specs.Calls.Form.{planes_follow}

-- planes follow all but a single 0
pub follow_unless : (form : Form) → (form ≡ Zeros → ⊥) → planes_follow form ≡ true
follow_unless Integers n = refl
follow_unless Zeros n = absurd (n refl)
follow_unless (Multiples e) n = refl
follow_unless Flipped n = refl
follow_unless (Lossy e planes) n = refl

-- a 1 in front of e
pub one_first : (k e : ℕ) → number_bits (k + 1) (2 * e + 1) ≡ true ∷ number_bits k e
one_first k e =
    let odd : (2 * e + 1) % 2 ≡ 1 = omega arith in
    let rest : (2 * e + 1) / 2 ≡ e = omega arith in
    rw (add-one, odd, rest)

-- bits 1 0 in front of e
pub zero_second : (k e : ℕ) → number_bits (k + 2) (4 * e + 1) ≡ true ∷ false ∷ number_bits k e
zero_second k e =
    let two : k + 2 ≡ suc (suc k) = omega arith in
    let odd : (4 * e + 1) % 2 ≡ 1 = omega arith in
    let rest : (4 * e + 1) / 2 ≡ 2 * e = omega arith in
    let even : 2 * e % 2 ≡ 0 = omega arith in
    let last : 2 * e / 2 ≡ e = omega arith in
    rw (two, odd, rest, even, last)
