-- `blocks::axes::backward`: what is left, undone from here, is all of it, undone from the start.
use Rattle.std.proofs.Common.{◌≡◌}
use Rattle.params.specs.Choices.{dimension_number}
use Rattle.blocks.specs.Calls.{each_axis_back}
use Rattle.blocks.proofs.axes.backward.Given as goal

abbrev pub invariant-loop-axis : goal.invariant-loop-axis
invariant-loop-axis g l =
    each_axis_back g.T.Transform.applied l.axis l.words ≡ each_axis_back g.T.Transform.applied (dimension_number l.dimension) l.fn.words
