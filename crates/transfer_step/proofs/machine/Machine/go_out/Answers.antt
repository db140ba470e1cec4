-- `Machine::go_out` meets its contract: each way through the code is a case of `judged`. Assumes nothing.
use Rattle.std.proofs.Common.{length, sym, ap, ◌∙◌}
use Rattle.fpc_step.specs.Calls.{predictors_of}
use Rattle.transfer_step.specs.declared.machine.Machine as code
use Rattle.transfer_step.specs.Machine.{silent}
use Rattle.transfer_step.specs.Record.{state_number, machine_of}
use Rattle.transfer_step.proofs.Branches.{gave_silent, gave_one, judged-other, judged-double}
use Rattle.transfer_step.proofs.machine.Machine.go_out.Goals as goal

pub returns-in_default-clause-gave : goal.returns-in_default-clause-gave
returns-in_default-clause-gave c =
    let a = c.args in
    let s = predictors_of a.predictors.now in
    let size = length a.predictors.now.fcm.now in
    let h = rw c.predict.ensures at c.in_default.ensures.otherwise in
    gave_silent (judged-other (machine_of size a.self.now s) a.half (state_number a.next) silent h
    ∙ ap (λ (m : code.Machine). silent (machine_of size m s)) (sym c.turn.ensures))

pub returns-clause-gave : goal.returns-clause-gave
returns-clause-gave c =
    let a = c.args in
    let s = predictors_of a.predictors.now in
    let size = length a.predictors.now.fcm.now in
    let e = rw c.predict.ensures at c.in-Some.ensures.double in
    let h = rw c.predict.ensures at c.in-Some.ensures.coded in
    rw (c.turn-2.ensures, c.advance.ensures.updated)
    (gave_one c.in-Some.v (judged-double (machine_of size a.self.now s) a.half (state_number a.next) silent c.in-Some.v e h) c.put_double.ensures)
