-- By the first bit. Assumes nothing.
use Prim.Native.Nat.{◌+◌}
use native.Mathlib.Omega.{arith}
use Rattle.bits.specs.Stream.{bits_of}
use Rattle.bits.proofs.StreamLaws.{length_bits_of}
use Rattle.params.specs.Choices.{dimension_number}
use Rattle.floats.specs.Calls.{format_of}
use Rattle.decode.proofs.Reading.{lossy-zero, lossy-some, exponent_read}
use Rattle.decode.proofs.lossy_form.Goals as goal

pub returns-then-not-get : goal.returns-then-not-get
returns-then-not-get g c =
    let a = c.args in
    let b = a.coding in
    let bytes = length_bits_of a.buf.now in
    λ end h k. lossy-zero (format_of g.F.Size.SIZE) (dimension_number b.dimension) b.planes b.lowest (bits_of a.buf.now) a.at end _ (omega (arith, k, bytes))
    c.get.ensures (omega arith) c.if-not-get.true

pub returns : goal.returns
returns g c =
    let field = c.field_bits.ensures in
    let a = c.args in
    let b = a.coding in
    let bs = bits_of a.buf.now in
    let bytes = length_bits_of a.buf.now in
    let small = exponent_read (format_of g.F.Size.SIZE) bs (a.at + 1) _ _ c.get_number-e.ensures
    (omega (arith, field.bits, c.requires.room, bytes)) field.fields in
    λ end h k. lossy-some (format_of g.F.Size.SIZE) (dimension_number b.dimension) b.planes b.lowest bs a.at end _ (omega (arith, k, bytes))
    c.get.ensures (omega arith) c.if-not-get.false _ _ field.bits small _ (omega (arith, field.bits)) c.get_number-e.ensures
    c.planes_at.ensures.planes c.planes_at.ensures.few
