-- `order::arrange`: after k rounds the first k coefficients stand.
use Rattle.std.proofs.Common.{get_or}
use Rattle.words.specs.Word.{nega}
use Rattle.order.proofs.Filling.{Filled}
use Rattle.order.proofs.arrange.Given as goal

abbrev pub invariant-loop-k : goal.invariant-loop-k
invariant-loop-k g l =
    Filled (λ i. i) (λ i. nega g.F.Size.SIZE (get_or l.words (get_or l.place-items i 0) 0)) l.cs l.k
