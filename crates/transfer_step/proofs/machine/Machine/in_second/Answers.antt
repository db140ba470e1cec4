-- `Machine::in_second` meets its contract: each way through the code is a case of `second`. Assumes nothing.
use Rattle.std.proofs.Common.{length, sym, ap, ◌∙◌}
use Rattle.fpc_step.specs.Calls.{predictors_of}
use Rattle.transfer_step.specs.declared.machine.Machine as code
use Rattle.transfer_step.specs.Machine.{silent}
use Rattle.transfer_step.specs.Record.{machine_of}
use Rattle.transfer_step.proofs.Branches.{gave_silent, gave_as, second-waits, second-odd, second-judged}
use Rattle.transfer_step.proofs.machine.Machine.in_second.Goals as goal

pub returns-then-self-remaining_count-clause-gave : goal.returns-then-self-remaining_count-clause-gave
returns-then-self-remaining_count-clause-gave c =
    let a = c.args in
    gave_silent (second-waits (machine_of (length a.predictors.now.fcm.now) a.self.now (predictors_of a.predictors.now))
    (λ e. c.if-self-remaining_count.true (e ∙ sym c.remaining_count.ensures)))

pub returns-then-is_odd-clause-gave : goal.returns-then-is_odd-clause-gave
returns-then-is_odd-clause-gave c =
    let a = c.args in
    let s = predictors_of a.predictors.now in
    let size = length a.predictors.now.fcm.now in
    gave_silent (second-odd (machine_of size a.self.now s) (c.if-self-remaining_count.false ∙ c.remaining_count.ensures) (sym c.is_odd.ensures ∙ c.if-is_odd.true)
    ∙ ap (λ (m : code.Machine). silent (machine_of size m s)) (sym c.turn.ensures))

pub returns-clause-gave : goal.returns-clause-gave
returns-clause-gave c =
    let a = c.args in
    gave_as (second-judged (machine_of (length a.predictors.now.fcm.now) a.self.now (predictors_of a.predictors.now))
    (c.if-self-remaining_count.false ∙ c.remaining_count.ensures) (sym c.is_odd.ensures ∙ c.if-is_odd.false)) c.go_out.ensures.gave
