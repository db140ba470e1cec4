-- `Machine::in_first` meets its contract: each way through the code is a case of `first`. Assumes nothing.
use Rattle.std.proofs.Common.{◌/◌, length, sym, ap, ◌∙◌}
use Rattle.fpc_step.specs.Calls.{predictors_of}
use Rattle.transfer_step.specs.Machine.{second}
use Rattle.transfer_step.specs.declared.machine.State.TheVariants.{InSecond}
use Rattle.transfer_step.specs.Record.{state_number, machine_of}
use Rattle.transfer_step.proofs.Branches.{gave_silent, gave_as, gave_more, first-waits, first-judged, first_stops, first-goes-on, same_state}
use Rattle.transfer_step.proofs.machine.Machine.in_first.Goals as goal

pub returns-then-self-remaining_count-clause-gave : goal.returns-then-self-remaining_count-clause-gave
returns-then-self-remaining_count-clause-gave c =
    let a = c.args in
    gave_silent (first-waits (machine_of (length a.predictors.now.fcm.now) a.self.now (predictors_of a.predictors.now))
    (λ e. c.if-self-remaining_count.true (e ∙ sym c.remaining_count.ensures)))

pub returns-in_default-clause-gave : goal.returns-in_default-clause-gave
returns-in_default-clause-gave c =
    let a = c.args in
    let m = machine_of (length a.predictors.now.fcm.now) a.self.now (predictors_of a.predictors.now) in
    let g = c.go_out-next.ensures.gave in
    gave_as (first-judged m (c.if-self-remaining_count.false ∙ c.remaining_count.ensures)
    ∙ first_stops m (a.self.now.pair / 16) _ g.to_is (λ e. c.in_default.not-InSecond (same_state _ InSecond e))) g

pub returns-in-InSecond-clause-gave : goal.returns-in-InSecond-clause-gave
returns-in-InSecond-clause-gave c =
    let a = c.args in
    let m = machine_of (length a.predictors.now.fcm.now) a.self.now (predictors_of a.predictors.now) in
    let g = c.go_out-next.ensures.gave in
    let z = c.go_out-next.ensures.same.size in
    gave_as (first-judged m (c.if-self-remaining_count.false ∙ c.remaining_count.ensures)
    ∙ first-goes-on m (a.self.now.pair / 16) _ g.to_is (ap state_number c.in-InSecond.is))
    (gave_more g (gave_as (ap second (sym g.to_is)) (rw z at c.in_second.ensures.gave)))
