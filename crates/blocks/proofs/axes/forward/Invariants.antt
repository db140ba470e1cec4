-- `blocks::axes::forward`: after `axis` rounds the first axes are done.
use Rattle.std.proofs.Common.{◌≡◌}
use Rattle.blocks.specs.Calls.{each_axis}
use Rattle.blocks.proofs.axes.forward.Given as goal

abbrev pub invariant-loop-axis : goal.invariant-loop-axis
invariant-loop-axis g l = l.words ≡ each_axis g.T.Transform.applied l.axis l.fn.words
