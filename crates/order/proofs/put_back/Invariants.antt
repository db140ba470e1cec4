-- `order::put_back`: after k rounds the words of the first k coefficients stand at their places.
use Rattle.std.proofs.Common.{get_or}
use Rattle.words.specs.Word.{unnega}
use Rattle.order.proofs.Filling.{Filled}
use Rattle.order.proofs.put_back.Given as goal

abbrev pub invariant-loop-k : goal.invariant-loop-k
invariant-loop-k g l =
    Filled (λ i. get_or l.place-items i 0) (λ i. unnega g.F.Size.SIZE (get_or l.cs i 0)) l.words l.k
