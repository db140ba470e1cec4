-- One word more is changed. Assumes nothing.
use Rattle.std.proofs.Common.{rules}
use Rattle.std.proofs.lemmas.List.Edits.{map_over_more}
use Rattle.floats.specs.Calls.{format_of}
use Rattle.rounding.specs.Rounded.{to_pattern}
use Rattle.codec.proofs.change.to_patterns.Goals as goal

pub loop-word-preserved : goal.loop-word-preserved
loop-word-preserved g c = search (rules, map_over_more (to_pattern (format_of g.F.Size.SIZE) c.args.e))
