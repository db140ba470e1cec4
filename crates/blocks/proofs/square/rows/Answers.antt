-- `blocks::square::rows`: a transform of each row is that along axis 0.
use Rattle.blocks.proofs.Squares.{rows-along}
use Rattle.blocks.proofs.square.rows.Goals as goal

pub returns-clause-along : goal.returns-clause-along
returns-clause-along g c =
    rw (c.apply.ensures, c.apply-2.ensures, c.apply-3.ensures, c.apply-4.ensures) (rows-along g.T.Transform.applied c.args.b)
