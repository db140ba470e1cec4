-- `blocks::square::columns`: a transform of each row of the transposed square is that along axis 1.
use Rattle.std.proofs.Common.{ap, ◌∙◌}
use Rattle.blocks.specs.Calls.{flat, each_row, transposed}
use Rattle.blocks.proofs.Squares.{columns-along}
use Rattle.blocks.proofs.square.columns.Goals as goal

pub returns : goal.returns
returns g c =
    let t = g.T.Transform.applied in
    ap flat (c.transpose-2.ensures ∙ ap transposed (c.rows.ensures.rows ∙ ap (each_row t) c.transpose.ensures))
    ∙ columns-along t c.args.b
