-- As much of the piece as there is room for stands after what was held.
use Rattle.std.proofs.Common.{arith, ap, ◌∙◌, ◌≡◌, List, ℕ, ◌+◌, ◌-◌, length, take}
use Rattle.std.proofs.Math.Seq.{length-take-le}
use Rattle.std.proofs.lemmas.Slice.{take-put_mid}
use Rattle.partial_line.proofs.HeldLaws.{held_more}
use Rattle.partial_line.specs.Calls.{State, state_of, most_held, is_started, numbers_of, hold}
use Rattle.partial_line.proofs.state.Partial.hold.Goals as goal

pub returns : goal.returns
unfolding state_of hold
returns c =
    let s = c.args.self.now in
    let piece = c.args.piece.now in
    let n : length (take s.len s.line) ≡ s.len = length-take-le s.len s.line s.fits in
    let with_held : List ℕ → State = λ h. record { started = is_started s.stage; params = numbers_of s.stage; held = h } in
    let put = c.copy_from_slice.new.self in
    let m = c.min.result in
    let taken : put ≡ take (s.len + m - s.len) piece = c.copy_from_slice.ensures.after in
    let long : length put ≡ m = ap length taken ∙ length-take-le (s.len + m - s.len) piece (omega arith) ∙ omega arith in
    let all : s.len + m - s.len ≡ m = omega arith in
    ap with_held
    (take-put_mid s.len _ s.line put (s.len + m) (omega arith) s.fits
    ∙ rw (taken, all) (held_more (take s.len s.line) piece most_held m (omega arith) (omega arith)))
