-- The bits in front of e, as one number with it. Assumes nothing.
use mathlib.Core.Path.{◌∙◌}
use Rattle.floats.proofs.Sizes.{numbered}
use Rattle.codec.proofs.Heads.{one_first, zero_second}
use Rattle.codec.proofs.form.Form.head.Goals as goal

pub returns-in-Multiples-clause-head : goal.returns-in-Multiples-clause-head
returns-in-Multiples-clause-head g c =
    rw (c.in-Multiples.is, zero_second _ c.in-Multiples.e, c.FIELD_BITS.ensures ∙ (numbered g.met.F.Format.laws).field)

pub returns-in-Lossy-clause-head : goal.returns-in-Lossy-clause-head
returns-in-Lossy-clause-head g c =
    rw (c.in-Lossy.is, one_first _ c.in-Lossy.e, c.FIELD_BITS-in-Lossy.ensures ∙ (numbered g.met.F.Format.laws).field)
