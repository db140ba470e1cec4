-- A slot's number is small, and so is its width. Assumes nothing.
use mathlib.Core.Path.{refl}
use native.Mathlib.Nat.{mul-le-mul}
use native.Mathlib.Omega.{arith}
use Rattle.std.proofs.Common.{◌≤◌}
use Rattle.params.proofs.good.Params.locate.Goals as goal

pub overflow_mul-result : goal.overflow_mul-result
overflow_mul-result c =
    let few : c.args.slot ≤ 32768 = omega (arith, c.if-not-has_slot.ensures.few refl) in
    omega (arith, mul-le-mul few c.width-width.ensures.most)
