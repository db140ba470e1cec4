-- A slot that ends within the archive's bits is one of its slots; the product is small, as the slot's number is. Assumes nothing.
use mathlib.Core.Path.{sym}
use Rattle.params.proofs.RowLaws.{ends-within, none-so-high}
use Rattle.params.proofs.Numbers.has_slot.Goals as goal

pub returns-then-slot-ge32768-clause-has : goal.returns-then-slot-ge32768-clause-has
returns-then-slot-ge32768-clause-has c =
    sym (none-so-high c.args.self c.args.size c.args.slot c.requires.some c.requires.short c.if-slot-ge32768.true)

pub returns-clause-has : goal.returns-clause-has
returns-clause-has c =
    rw c.width.ensures.width (ends-within c.args.self c.args.size c.args.slot c.requires.some)
