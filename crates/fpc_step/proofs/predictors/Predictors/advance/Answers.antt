-- `Predictors::advance` meets its contract: the library's wrapping difference is `minus`, and a mask by a power of two less one is a
-- remainder. Assumes nothing.
use Rattle.std.proofs.Common.{◌≡◌, ◌+◌, ◌-◌, ◌%◌, ◌^◌, ◌<◌, ℕ, length, arith, length-set}
use Rattle.fpc_stream.specs.Predictors.{fcm_hash, dfcm_hash}
use Rattle.words.specs.Word.{minus}
use Rattle.fpc_step.proofs.Masks.{masked}
use Rattle.fpc_step.proofs.predictors.Predictors.advance.Goals as goal

wraps : (v last : ℕ) → last < 2 ^ 64 → (v + (2 ^ 64 - last)) % 2 ^ 64 ≡ minus 64 v last
unfolding minus
wraps v last h = omega arith

pub returns-clause-updated : goal.returns-clause-updated
unfolding fcm_hash dfcm_hash
returns-clause-updated c =
    let s = c.args.self.now in
    let m = masked (length s.fcm.now) s.power in
    rw (length-set, wraps c.args.v s.last (omega arith)) (simp m)
