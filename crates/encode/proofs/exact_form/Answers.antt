-- By the block's case: a single 0, bits 1 0 and e, or bits 1 1. Assumes nothing.
use mathlib.Core.Path.{sym, ◌∙◌}
use Rattle.floats.specs.Calls.{format_of}
use Rattle.encode.proofs.Writing.{exact-zero, exact-whole, exact-raw}
use Rattle.encode.proofs.exact_form.Goals as goal

pub returns-then-all_zero : goal.returns-then-all_zero
returns-then-all_zero g c =
    λ d p lowest. exact-zero (format_of g.F.Size.SIZE) d p lowest c.args.words.now (sym c.all_zero.ensures ∙ c.if-all_zero.true)

pub returns-then-all_whole : goal.returns-then-all_whole
returns-then-all_whole g c =
    λ d p lowest. exact-whole (format_of g.F.Size.SIZE) d p lowest c.args.words.now _ c.block_exponent-e.ensures
    (sym c.all_zero.ensures ∙ c.if-all_zero.false) (sym c.all_whole.ensures ∙ c.if-all_whole.true)

pub returns-else-all_whole : goal.returns-else-all_whole
returns-else-all_whole g c =
    λ d p lowest. exact-raw (format_of g.F.Size.SIZE) d p lowest c.args.words.now _ c.block_exponent-e.ensures
    (sym c.all_zero.ensures ∙ c.if-all_zero.false) (sym c.all_whole.ensures ∙ c.if-all_whole.false)
