-- `Predicted::half_byte` meets its contract: a side is below 2 and a code below 8, so nothing wraps. Assumes nothing.
use Rattle.std.proofs.Common.{arith}
use Rattle.fpc_stream.specs.Stream.{residual_code, half_byte}
use Rattle.fpc_stream.proofs.CodeLaws.{side-lt, zero_bytes_code_lt, zero_bytes_le}
use Rattle.fpc_stream.proofs.Predicted.half_byte.Goals as goal

pub overflow_mul-result : goal.overflow_mul-result
overflow_mul-result c =
    let a = c.args in
    omega (arith, c.side.ensures, side-lt a.self.fcm a.self.dfcm a.v)

pub overflow_add-result : goal.overflow_add-result
overflow_add-result c =
    let z = c.zero_bytes in
    let a = c.args in
    omega (
      arith,
      c.zero_bytes_code.ensures,
      z.ensures,
      c.side.ensures,
      side-lt a.self.fcm a.self.dfcm a.v,
      zero_bytes_code_lt z.result (rw z.ensures (zero_bytes_le c.residual.result)),
    )

pub returns : goal.returns
unfolding half_byte residual_code
returns c = rw (c.zero_bytes_code.ensures, c.zero_bytes.ensures, c.residual.ensures, c.side.ensures)
