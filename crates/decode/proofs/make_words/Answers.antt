-- Flips, of which the words are. Assumes nothing.
use Rattle.codec.proofs.Sizes.{sized}
use Rattle.decode.proofs.Steps.{others_told}
use Rattle.decode.proofs.make_words.Goals as goal

pub returns-in-Flipped-clause-coded : goal.returns-in-Flipped-clause-coded
returns-in-Flipped-clause-coded g c =
    rw c.in-Flipped.is (others_told _ _ (sized g.F.Size.SIZE g.met.F.Format.laws.size).size c.flip_all.ensures c.others.ensures)
