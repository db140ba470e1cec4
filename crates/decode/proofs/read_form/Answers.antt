-- By kind and mode. Assumes nothing.
use native.Mathlib.Omega.{arith}
use Rattle.bits.specs.Stream.{bits_of}
use Rattle.params.specs.Choices.{dimension_number}
use Rattle.floats.specs.Calls.{format_of}
use Rattle.blocks.specs.Calls.{is_exact}
use Rattle.decode.proofs.Reading.{no_head}
use Rattle.decode.proofs.read_form.Goals as goal

pub returns-in-Integers : goal.returns-in-Integers
returns-in-Integers g c =
    let a = c.args in
    let b = a.coding in
    λ end h k. rw c.in-Integers.is
    (no_head (format_of g.F.Size.SIZE) (is_exact b.mode) (dimension_number b.dimension) b.planes b.lowest (bits_of a.buf.now) a.at end)

pub returns-in-Exact : goal.returns-in-Exact
returns-in-Exact g c =
    let b = c.args.coding in
    λ end h k. rw (c.in-Floats.is, c.in-Exact.is) (c.exact_form.ensures (dimension_number b.dimension) b.planes b.lowest end h k)

pub returns-in-Lossy : goal.returns-in-Lossy
returns-in-Lossy g c =
    λ end h k. rw (c.in-Floats.is, c.in-Lossy.is) (c.lossy_form.ensures end (omega arith) k)
