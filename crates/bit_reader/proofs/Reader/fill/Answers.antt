-- Four bytes, or the bits up to the end of their byte. Assumes nothing.
use Rattle.bit_reader.proofs.Windows.{within_bits, window-left, longer-fits, longer-holds}
use native.Mathlib.Omega.{arith}
use Prim.Native.Nat.{◌*◌, ◌/◌, ◌<◌}
use mathlib.Core.Path.{◌≡◌, ◌∙◌}
use Rattle.bit_reader.proofs.Reader.fill.Goals as goal

pub with_bits-self-inside-requires-clause-fits : goal.with_bits-self-inside-requires-clause-fits
with_bits-self-inside-requires-clause-fits c =
    let r = c.self.invariant in
    let w = c.self.inside.window in
    let few : w.count < 32 = rw (← c.self.view_is) at c.requires.few in
    let e : 8 * (w.at / 8) ≡ w.at = omega arith in
    longer-fits 32 _ r.holds (omega arith) (within_bits c.self.inside.bytes.now r.within) (omega arith) (rw e at c.get_four.ensures)

pub invariant_of-self : goal.invariant_of-self
invariant_of-self c =
    let r = c.self.invariant in
    let w = c.self.inside.window in
    let few : w.count < 32 = rw (← c.self.view_is) at c.requires.few in
    let e : 8 * (w.at / 8) ≡ w.at = omega arith in
    let more =
    longer-holds 32 _ r.holds (omega arith) (within_bits c.self.inside.bytes.now r.within) (omega arith) (rw e at c.get_four.ensures) (omega arith) in
    rw c.with_bits-self-inside.ensures (record { holds = more.holds; within = r.within; small = r.small })

pub with_bits-self-inside-requires-else-w-eq0-clause-fits : goal.with_bits-self-inside-requires-else-w-eq0-clause-fits
with_bits-self-inside-requires-else-w-eq0-clause-fits c =
    let r = c.self.invariant in
    let w = c.self.inside.window in
    let few : w.count < 32 = rw (← c.self.view_is) at c.requires.few in
    let more = rw (← c.self.view_is) at c.requires.more in
    let left = window-left r.holds (within_bits c.self.inside.bytes.now r.within) in
    let here : w.at < c.self.inside.end = omega (arith, more, left, r.holds.back) in
    longer-fits _ _ r.holds (omega (arith, c.min-m.ensures)) (within_bits c.self.inside.bytes.now r.within) (omega (arith, c.min-m.ensures))
    (c.from.ensures ∙ c.get_part-v.ensures)

pub invariant_of-self-else-w-eq0 : goal.invariant_of-self-else-w-eq0
invariant_of-self-else-w-eq0 c =
    let r = c.self.invariant in
    let w = c.self.inside.window in
    let few : w.count < 32 = rw (← c.self.view_is) at c.requires.few in
    let more = rw (← c.self.view_is) at c.requires.more in
    let left = window-left r.holds (within_bits c.self.inside.bytes.now r.within) in
    let here : w.at < c.self.inside.end = omega (arith, more, left, r.holds.back) in
    let next =
    longer-holds _ _ r.holds (omega (arith, c.min-m.ensures)) (within_bits c.self.inside.bytes.now r.within) (omega (arith, c.min-m.ensures))
    (c.from.ensures ∙ c.get_part-v.ensures) (omega (arith, c.min-m.ensures)) in
    rw c.with_bits-self-inside-else-w-eq0.ensures (record { holds = next.holds; within = r.within; small = r.small })
