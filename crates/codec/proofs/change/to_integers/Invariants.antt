-- The words passed are changed, the others are as they were. Assumes nothing.
use Rattle.std.proofs.Common.{◌≡◌, ◌++◌, map, take, drop}
use Rattle.floats.specs.Calls.{format_of}
use Rattle.floats.specs.Integer.{to_integer}
use Rattle.codec.proofs.change.to_integers.Given as goal

abbrev pub invariant-loop-word : goal.invariant-loop-word
invariant-loop-word g l = l.word-items ≡ map (to_integer (format_of g.F.Size.SIZE) l.e) (take l.word-index l.fn.words) ++ drop l.word-index l.fn.words
