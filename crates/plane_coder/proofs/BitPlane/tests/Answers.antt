-- The loop's invariant: who writes the rest of the plane, from a test on or within a scan, has written all of it.
use mathlib.Core.Path.{◌≡◌, sym, ap, ◌∙◌}
use mathlib.Core.Bool.{Bool, cond}
use Prim.Native.Nat.{◌+◌}
use native.Mathlib.Omega.{arith}
use lib.ListN.{drop}
use lib.Seq.{slice}
use Rattle.bits.proofs.NumberLaws.{length_number_bits}
use Rattle.bit_writer.proofs.PushLaws.{pushed_place}
use Rattle.bit_writer.proofs.WriterLaws.{same_more, wrote_more}
use Rattle.planes.specs.Coder.{test, scan}
use Rattle.plane_parts.specs.Calls.{left_after}
use Rattle.plane_parts.specs.Stages.{is_test}
use Rattle.plane_coder.specs.Planes.{bits_in}
use Rattle.plane_coder.proofs.Places.{split_at, part-on, left_last, one-within, none_end, last_bit}
use Rattle.plane_coder.proofs.BitPlane.tests.Goals as goal

pub loop-x-preserved : goal.loop-x-preserved
loop-x-preserved c =
    let s = c.args.self.now in
    let ws = s.words.now in
    let d = bits_in s in
    let i = c.loop-x.i in
    let kept = c.loop-x.invariant in
    let more = sym c.any_from.ensures ∙ c.loop-x-test.true in
    let within = one-within s.k ws (i + 16) more in
    let bs = slice i (i + 16) d in
    let rest = drop (i + 16) d in
    let part = part-on s.k i 16 c.gather-x.result ws (omega arith) c.gather-x.ensures more in
    let whole = c.code_of-code.ensures.code bs rest part in
    let left : left_after (is_test c.loop-x.stage) bs rest ≡ cond (is_test c.after-stage.result) (test rest) (scan rest) =
    left_last (is_test c.loop-x.stage) bs rest 15 part.places more
    ∙ ap (λ (b : Bool). cond b (test rest) (scan rest))
    (last_bit s.k i ws (omega arith) ∙ sym c.bit_at.ensures ∙ sym c.after-stage.ensures) in
    let bits = length_number_bits c.code_of-code.result.count c.code_of-code.result.bits in
    let p = c.push.ensures.wrote in
    record {
      same = same_more kept.same c.push.ensures.same;
      some = more;
      place = omega (arith, pushed_place p, bits, c.code_of-code.ensures.most, kept.place, kept.from);
      from = omega (arith, kept.from);
      within = within;
      rest = λ end w. kept.rest end (rw (split_at i 16 d, ← whole, left) (wrote_more c.push.ensures.same.limit p w));
    }

pub last_part-requires-clause-last : goal.last_part-requires-clause-last
last_part-requires-clause-last c =
    let s = c.args.self.now in
    none_end s.k s.words.now (c.loop-x.i + 16) (sym c.any_from.ensures ∙ c.loop-x-test.false)
