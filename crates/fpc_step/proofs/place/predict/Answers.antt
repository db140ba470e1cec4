-- `predict` meets its contract: the library's wrapping sum is the definition's. Assumes nothing.
use Rattle.std.proofs.Common.{refl}
use Rattle.words.specs.Word.{plus}
use Rattle.fpc_step.proofs.place.predict.Goals as goal

pub returns : goal.returns
unfolding plus
returns c = refl
