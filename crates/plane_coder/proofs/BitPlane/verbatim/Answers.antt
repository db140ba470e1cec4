-- The loop's invariant: the i first bits are written.
use mathlib.Core.Path.{◌≡◌}
use Prim.Native.Nat.{◌+◌, ◌≤◌}
use native.Mathlib.Omega.{arith}
use lib.ListN.{length}
use lib.Seq.{take-add}
use Rattle.bits.proofs.StreamLaws.{drop_take}
use Rattle.bit_writer.proofs.PushLaws.{pushed_none, pushed_place, pushed_most}
use Rattle.bit_writer.proofs.WriterLaws.{same_self, same_more, wrote_more}
use Rattle.plane_coder.specs.Planes.{bits_in}
use Rattle.plane_coder.proofs.Places.{first-length, gathered}
use Rattle.plane_coder.proofs.BitPlane.verbatim.Goals as goal

pub loop-i-init : goal.loop-i-init
loop-i-init c =
    record {
      same = same_self c.args.writer.now;
      within = omega arith;
      wrote = pushed_none c.args.writer.now.ready;
    }

pub push-requires-clause-number : goal.push-requires-clause-number
push-requires-clause-number c =
    let s = c.args.self.now in
    let i : c.loop-i.i + c.min-m.result ≤ length s.words.now = omega (arith, c.min-m.ensures, c.requires.places) in
    rw c.from.ensures (gathered s.k c.loop-i.i c.min-m.result c.gather-v.result s.words.now i c.gather-v.ensures).0

pub push-requires-clause-place : goal.push-requires-clause-place
push-requires-clause-place c =
    let s = c.args.self.now in
    let kept = c.loop-i.invariant in
    let first = first-length s.k s.words.now c.loop-i.i (omega (arith, kept.within, c.requires.places)) in
    omega (arith, pushed_place kept.wrote, first, kept.within, c.args.writer.now.ready.short, c.requires.place)

pub loop-i-preserved : goal.loop-i-preserved
loop-i-preserved c =
    let s = c.args.self.now in
    let d = bits_in s in
    let l = c.loop-i in
    let m = c.min-m.result in
    let i : l.i + m ≤ length s.words.now = omega (arith, c.min-m.ensures, c.requires.places) in
    let bits = (gathered s.k l.i m c.gather-v.result s.words.now i c.gather-v.ensures).1 in
    record {
      same = same_more l.invariant.same c.push.ensures.same;
      within = omega (arith, c.min-m.ensures);
      wrote =
          rw (take-add l.i m d, ← drop_take l.i m d)
          (wrote_more l.invariant.same.limit l.invariant.wrote (rw (c.from.ensures, bits) at c.push.ensures.wrote));
    }

pub returns-clause-cheap : goal.returns-clause-cheap
returns-clause-cheap c =
    let s = c.args.self.now in
    let e : c.loop-i.i ≡ c.args.n = omega (arith, c.loop-i.invariant.within) in
    let p = rw e at c.loop-i.invariant.wrote in
    rw (first-length s.k s.words.now c.args.n c.requires.places) at (pushed_most c.args.writer.now.ready p)
