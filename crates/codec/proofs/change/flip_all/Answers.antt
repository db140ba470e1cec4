-- One word more is changed. Assumes nothing.
use Rattle.std.proofs.Common.{rules}
use Rattle.std.proofs.lemmas.List.Edits.{map_over_more}
use Rattle.words.specs.Word.{flip}
use Rattle.codec.proofs.change.flip_all.Goals as goal

pub loop-word-preserved : goal.loop-word-preserved
loop-word-preserved g c = search (rules, map_over_more (flip g.S.Size.SIZE))
