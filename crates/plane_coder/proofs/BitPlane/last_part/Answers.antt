-- The last part of a plane with ones in it: no ones follow, so its code ends the plane's. Assumes nothing.
use mathlib.Core.Path.{◌∙◌}
use mathlib.Core.List.{append-nil}
use Prim.Native.Nat.{◌+◌}
use native.Mathlib.Omega.{arith}
use lib.ListN.{drop}
use lib.Seq.{slice}
use Rattle.plane_parts.proofs.Parts.{from_digit}
use Rattle.plane_parts.specs.Stages.{is_test}
use Rattle.plane_coder.specs.Planes.{bits_in}
use Rattle.plane_coder.proofs.Places.{split_at, within_part, part-last, left-last-part, positive, last_end}
use Rattle.plane_coder.proofs.BitPlane.last_part.Goals as goal

pub code_of-code-requires-clause-some : goal.code_of-code-requires-clause-some
code_of-code-requires-clause-some c =
    let a = c.args in
    let s = a.self.now in
    let ws = s.words.now in
    let m = c.min-m.result in
    let end = within_part s.k a.i m ws (omega (arith, c.min-m.ensures)) c.requires.last c.requires.within in
    λ _. positive s.k a.i m c.gather-x.result ws end.0 c.gather-x.ensures end.1 c.requires.some

pub returns-clause-wrote : goal.returns-clause-wrote
returns-clause-wrote c =
    let a = c.args in
    let s = a.self.now in
    let ws = s.words.now in
    let m = c.min-m.result in
    let x = c.gather-x.result in
    let end = within_part s.k a.i m ws (omega (arith, c.min-m.ensures)) c.requires.last c.requires.within in
    let d = bits_in s in
    let p = part-last s.k a.i m x ws end.0 c.gather-x.ensures end.1 in
    let none = left-last-part s.k a.i m x ws end.0 c.gather-x.ensures end.1 (is_test a.stage) in
    let whole = c.code_of-code.ensures.code (slice a.i (a.i + m) d) (drop (a.i + m) d) (rw (c.from-spare.ensures ∙ from_digit _) p) in
    rw (split_at a.i m d, ← whole, none, append-nil) c.push.ensures.wrote

pub returns-clause-next : goal.returns-clause-next
returns-clause-next c =
    let a = c.args in
    let s = a.self.now in
    let ws = s.words.now in
    let m = c.min-m.result in
    let end = within_part s.k a.i m ws (omega (arith, c.min-m.ensures)) c.requires.last c.requires.within in
    last_end s.k a.i m c.gather-x.result ws end.0 c.gather-x.ensures end.1 c.requires.some (omega (arith, c.min-m.ensures))
