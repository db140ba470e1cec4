-- `take` meets its contract: what the machine gave is what the outcome says. Assumes nothing.
use Rattle.std.proofs.Common.{ℕ, length, ap, ◌∙◌, arith}
use borrow.Author.Tests.{eq-eqb, ne_eqb}
use Rattle.fpc_step.specs.Calls.{predictors_of}
use Rattle.transfer_step.specs.declared.machine.State.TheVariants.{Damaged}
use Rattle.transfer_step.specs.Machine.{damaged}
use Rattle.transfer_step.specs.Record.{machine, machine_of, state_number, transfer}
use Rattle.transfer_step.proofs.FeedLaws.{feed_went}
use Rattle.transfer_step.proofs.Branches.{same_state}
use Rattle.transfer.proofs.Rows.{read_as, stands, took}
use Rattle.transfer.proofs.take.Goals as goal

pub feed-fed-requires : goal.feed-fed-requires
feed-fed-requires c =
    let a = c.args in
    let q = c.requires in
    let p = a.predictors.now in
    record {
      stands = rw (read_as a.transfer.now a.from p q.holds q.sized q.h q.g q.last) (stands a.transfer.now p.fcm.now p.dfcm.now q.fits q.sized p.same_length);
      short = q.short;
    }

pub overflow_cast-given : goal.overflow_cast-given
overflow_cast-given c =
    let a = c.args in
    let m = machine_of (length a.predictors.now.fcm.now) a.from (predictors_of a.predictors.now) in
    omega (arith, c.feed-fed.ensures.gave.next-is, (feed_went m a.piece.now).most, c.requires.short)

pub returns-in-Damaged-clause-whole : goal.returns-in-Damaged-clause-whole
returns-in-Damaged-clause-whole c =
    let a = c.args in
    let q = c.requires in
    let p = a.predictors.now in
    let w = c.feed-fed in
    let g = rw (read_as a.transfer.now a.from p q.holds q.sized q.h q.g q.last) at w.ensures.gave in
    let k = c.keep.ensures ∙ ap (λ (n : ℕ). transfer (machine_of n w.result.machine (predictors_of w.new.predictors))) q.sized in
    rw k
    (took (machine a.transfer.now p.fcm.now p.dfcm.now) (machine_of (length p.fcm.now) w.result.machine (predictors_of w.new.predictors)) a.piece.now a.doubles.now
    w.new.doubles w.result.given g q.room 23 (rw (eq-eqb (state_number w.result.machine.state) damaged (ap state_number c.in-Damaged.is))))

pub returns-in_default-clause-whole : goal.returns-in_default-clause-whole
returns-in_default-clause-whole c =
    let a = c.args in
    let q = c.requires in
    let p = a.predictors.now in
    let w = c.feed-fed in
    let g = rw (read_as a.transfer.now a.from p q.holds q.sized q.h q.g q.last) at w.ensures.gave in
    let k = c.keep.ensures ∙ ap (λ (n : ℕ). transfer (machine_of n w.result.machine (predictors_of w.new.predictors))) q.sized in
    rw k
    (took (machine a.transfer.now p.fcm.now p.dfcm.now) (machine_of (length p.fcm.now) w.result.machine (predictors_of w.new.predictors)) a.piece.now a.doubles.now
    w.new.doubles w.result.given g q.room 0 (rw (ne_eqb (state_number w.result.machine.state) damaged (λ e. c.in_default.not-Damaged (same_state _ Damaged e)))))
