-- `Machine::feed_byte` meets its contract: each way through the code is a case of `feed_byte`. Assumes nothing.
use Rattle.std.proofs.Common.{length, refl, sym, ap, ◌∙◌, arith}
use Rattle.fpc_step.specs.Calls.{predictors_of}
use Rattle.transfer_step.specs.declared.machine.Machine as code
use Rattle.transfer_step.specs.Machine.{silent, first, second}
use Rattle.transfer_step.specs.Record.{state_number, machine_of}
use Rattle.transfer_step.proofs.FeedLaws.{byte_full, byte_pair, byte-first, byte-second}
use Rattle.transfer_step.proofs.Branches.{gave_silent, gave_as, few-given, holds, byte_over}
use Rattle.transfer_step.proofs.machine.Machine.feed_byte.Goals as goal

pub returns-then-self-eq4096-clause-gave : goal.returns-then-self-eq4096-clause-gave
returns-then-self-eq4096-clause-gave c =
    let a = c.args in
    let s = predictors_of a.predictors.now in
    let size = length a.predictors.now.fcm.now in
    gave_silent (byte_full (machine_of size a.self.now s) a.b (ap state_number c.in-AtPair.is) c.if-self-eq4096.true
    ∙ ap (λ (m : code.Machine). silent (machine_of size m s)) (sym c.turn.ensures))

pub in_first-requires-clause-few : goal.in_first-requires-clause-few
in_first-requires-clause-few c = omega (arith, few-given _ c.requires.stands, ap (λ (m : code.Machine). m.given) c.turn-in-AtPair.ensures)

pub hold-requires-clause-room : goal.hold-requires-clause-room
hold-requires-clause-room c = (holds _ c.requires.stands).0

pub hold-requires-clause-small : goal.hold-requires-clause-small
hold-requires-clause-small c = (holds _ c.requires.stands).1

pub in_first-requires-in-InFirst-clause-few : goal.in_first-requires-in-InFirst-clause-few
in_first-requires-in-InFirst-clause-few c = omega (arith, few-given _ c.requires.stands, ap (λ (m : code.Machine). m.given) c.hold.ensures)

pub hold-requires-in-InSecond-clause-room : goal.hold-requires-in-InSecond-clause-room
hold-requires-in-InSecond-clause-room c = (holds _ c.requires.stands).0

pub hold-requires-in-InSecond-clause-small : goal.hold-requires-in-InSecond-clause-small
hold-requires-in-InSecond-clause-small c = (holds _ c.requires.stands).1

pub in_second-requires-clause-few : goal.in_second-requires-clause-few
in_second-requires-clause-few c = omega (arith, few-given _ c.requires.stands, ap (λ (m : code.Machine). m.given) c.hold-in-InSecond.ensures)

pub returns-else-self-eq4096-clause-gave : goal.returns-else-self-eq4096-clause-gave
returns-else-self-eq4096-clause-gave c =
    let a = c.args in
    let s = predictors_of a.predictors.now in
    let size = length a.predictors.now.fcm.now in
    gave_as (byte_pair (machine_of size a.self.now s) a.b (ap state_number c.in-AtPair.is) c.if-self-eq4096.false)
    (rw (c.turn-in-AtPair.ensures, c.from-self.ensures) at c.in_first.ensures.gave)

pub returns-in-InFirst-clause-gave : goal.returns-in-InFirst-clause-gave
returns-in-InFirst-clause-gave c =
    let a = c.args in
    let s = predictors_of a.predictors.now in
    let size = length a.predictors.now.fcm.now in
    gave_as (byte-first (machine_of size a.self.now s) a.b (ap state_number c.in-InFirst.is)
    ∙ ap (λ (m : code.Machine). first (machine_of size m s)) (sym c.hold.ensures)) c.in_first-in-InFirst.ensures.gave

pub returns-in-InSecond-clause-gave : goal.returns-in-InSecond-clause-gave
returns-in-InSecond-clause-gave c =
    let a = c.args in
    let s = predictors_of a.predictors.now in
    let size = length a.predictors.now.fcm.now in
    gave_as (byte-second (machine_of size a.self.now s) a.b (ap state_number c.in-InSecond.is)
    ∙ ap (λ (m : code.Machine). second (machine_of size m s)) (sym c.hold-in-InSecond.ensures)) c.in_second.ensures.gave

pub returns-in-Ended-clause-gave : goal.returns-in-Ended-clause-gave
returns-in-Ended-clause-gave c =
    let a = c.args in
    let s = predictors_of a.predictors.now in
    let size = length a.predictors.now.fcm.now in
    gave_silent (byte_over (machine_of size a.self.now s) a.b a.self.now.state refl c.in-Ended.is
    ∙ ap (λ (m : code.Machine). silent (machine_of size m s)) (sym c.turn-in-Ended.ensures))
