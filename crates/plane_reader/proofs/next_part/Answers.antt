-- The part lies in the bits that stand ready. Assumes nothing.
use Rattle.plane_reader.proofs.Tests.{from_digit, part-left, part-done}
use Rattle.bit_reader.proofs.Ready.{ready-all}
use Rattle.part_reader.specs.Calls.{stage_number}
use mathlib.Core.Path.{◌∙◌}
use Rattle.plane_reader.proofs.next_part.Goals as goal

pub overflow_sub-have : goal.overflow_sub-have
overflow_sub-have c =
    let now = c.refill.new.self in
    let have = c.ready-have.ensures in
    let there = rw have.ready at have.within in
    let part = rw (have.ready, c.peek.ensures, ready-all now.left now.ready there) at c.read_part-part.ensures in
    rw have.ready
    (part-left c.args.places (stage_number c.args.stage) _ _ now.ready now.left there c.refill.ensures.full c.requires.some c.requires.going
    c.min-m.ensures (c.from-known.ensures ∙ from_digit _) part)

pub returns : goal.returns
returns c =
    let now = c.refill.new.self in
    let have = c.ready-have.ensures in
    let there = rw have.ready at have.within in
    let part = rw (have.ready, c.peek.ensures, ready-all now.left now.ready there) at c.read_part-part.ensures in
    rw (← c.refill.ensures.left)
    (part-done c.args.places (stage_number c.args.stage) _ _ now.ready now.left there c.refill.ensures.full c.requires.some c.requires.going
    c.min-m.ensures (c.from-known.ensures ∙ from_digit _) part (rw have.ready at c.skip.ensures.left))
