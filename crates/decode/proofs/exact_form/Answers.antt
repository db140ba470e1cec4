-- By the first bits. Assumes nothing.
use Prim.Native.Nat.{◌+◌}
use native.Mathlib.Omega.{arith}
use Rattle.bits.specs.Stream.{bits_of}
use Rattle.bits.proofs.StreamLaws.{length_bits_of}
use Rattle.floats.specs.Calls.{format_of}
use Rattle.decode.proofs.Reading.{exact-zero, exact-flips, exact-multiples, exponent_read}
use Rattle.decode.proofs.exact_form.Goals as goal

pub returns-then-not-get : goal.returns-then-not-get
returns-then-not-get g c =
    let a = c.args in
    let bytes = length_bits_of a.buf.now in
    λ d p lowest end h k. exact-zero (format_of g.F.Size.SIZE) d p lowest (bits_of a.buf.now) a.at end _ (omega (arith, k, bytes)) c.get.ensures
    (omega arith) c.if-not-get.true

pub returns-then-get : goal.returns-then-get
returns-then-get g c =
    let a = c.args in
    let bytes = length_bits_of a.buf.now in
    λ d p lowest end h k. exact-flips (format_of g.F.Size.SIZE) d p lowest (bits_of a.buf.now) a.at end _ (omega (arith, k, bytes)) c.get.ensures
    (omega arith) _ c.get-2.ensures (omega arith) c.if-not-get.false c.if-get.true

pub returns : goal.returns
returns g c =
    let field = c.field_bits.ensures in
    let a = c.args in
    let bs = bits_of a.buf.now in
    let bytes = length_bits_of a.buf.now in
    let small = exponent_read (format_of g.F.Size.SIZE) bs (a.at + 2) _ _ c.get_number-e.ensures
    (omega (arith, field.bits, c.requires.room, bytes)) field.fields in
    λ d p lowest end h k. exact-multiples (format_of g.F.Size.SIZE) d p lowest bs a.at end _ (omega (arith, k, bytes)) c.get.ensures
    (omega arith) _ c.get-2.ensures (omega arith) c.if-not-get.false _ _ c.if-get.false field.bits (omega (arith, field.bits)) c.get_number-e.ensures small
