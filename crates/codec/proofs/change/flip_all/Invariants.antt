-- The words passed are changed, the others are as they were. Assumes nothing.
use Rattle.std.proofs.Common.{◌≡◌, ◌++◌, map, take, drop}
use Rattle.words.specs.Word.{flip}
use Rattle.codec.proofs.change.flip_all.Given as goal

abbrev pub invariant-loop-word : goal.invariant-loop-word
invariant-loop-word g l = l.word-items ≡ map (flip g.S.Size.SIZE) (take l.word-index l.fn.words) ++ drop l.word-index l.fn.words
