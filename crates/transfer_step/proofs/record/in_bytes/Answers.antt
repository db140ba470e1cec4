-- `in_bytes` meets its contract: eight bytes hold any number. Assumes nothing.
use Rattle.std.proofs.Common.{◌^◌, sym, ◌∙◌, le-leb}
use native.Mathlib.Nat.{lt_of_lt_of_le, pow-le-pow_right}
use lib.Dec.{lit<}
use borrow.Author.Tests.{lt-ltb}
use Rattle.transfer_step.proofs.Branches.{one_shifted}
use Rattle.transfer_step.proofs.record.in_bytes.Goals as goal

pub returns-then-n-ge8 : goal.returns-then-n-ge8
returns-then-n-ge8 c =
    let a = c.args in
    le-leb _ _ c.if-n-ge8.true ∙ sym (lt-ltb a.x (256 ^ a.n) (lt_of_lt_of_le c.ranges.x.fits (pow-le-pow_right {n = 256} (lit< tt) {i = 8} {j = a.n} c.if-n-ge8.true)))

pub returns-else-n-ge8 : goal.returns-else-n-ge8
returns-else-n-ge8 c = rw (one_shifted c.args.n c.if-n-ge8.false)
