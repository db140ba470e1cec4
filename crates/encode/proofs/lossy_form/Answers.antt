-- By the block's case: a single 0, also where no planes are left, or a 1 and e. Assumes nothing.
use mathlib.Core.Path.{sym, ◌∙◌}
use Rattle.params.specs.Choices.{dimension_number}
use Rattle.floats.specs.Calls.{format_of}
use Rattle.encode.proofs.Writing.{lossy-zero, lossy-none, lossy-some}
use Rattle.encode.proofs.lossy_form.Goals as goal

pub returns-then-no_magnitude : goal.returns-then-no_magnitude
returns-then-no_magnitude g c =
    let b = c.args.coding in
    lossy-zero (format_of g.F.Size.SIZE) (dimension_number b.dimension) b.planes b.lowest c.args.words.now
    (sym c.no_magnitude.ensures ∙ c.if-no_magnitude.true)

pub returns-then-planes-eq0 : goal.returns-then-planes-eq0
returns-then-planes-eq0 g c =
    let b = c.args.coding in
    lossy-none (format_of g.F.Size.SIZE) (dimension_number b.dimension) b.planes b.lowest c.args.words.now
    (cc (c.planes_at-planes.ensures.planes, c.block_exponent-e.ensures, c.if-planes-eq0.true))

pub returns : goal.returns
returns g c =
    let b = c.args.coding in
    lossy-some (format_of g.F.Size.SIZE) (dimension_number b.dimension) b.planes b.lowest c.args.words.now _ c.block_exponent-e.ensures _
    c.planes_at-planes.ensures.planes c.if-planes-eq0.false (sym c.no_magnitude.ensures ∙ c.if-no_magnitude.false) c.requires.finite
