-- A shift by twice the dimension. Assumes nothing.
use Rattle.params.proofs.RowLaws.{shift_power}
use Rattle.params.proofs.Numbers.word_count.Goals as goal

pub returns : goal.returns
returns c = record { count = shift_power c.args.self.dimension c.requires.dimension.1 }
