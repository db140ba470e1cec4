-- `read_step` meets its contract: each way through the code is a case of `step_of`. Assumes nothing.
use Rattle.std.proofs.Common.{◌≡◌, ◌-◌, ℕ, List, length, take, drop, refl, length-drop}
use Rattle.std.proofs.Math.Seq.{take-length}
use Rattle.fpc_step.specs.Calls.{predictors}
use Rattle.fpc_step.proofs.StepCases.{byte-missing, same_half, other_half}
use Rattle.fpc_step.proofs.place.read_step.Goals as goal

-- what is left of the stream, as the code takes it
rest : (stream : List ℕ) (at : ℕ) → take (length stream - at) (drop at stream) ≡ drop at stream
rest stream at = rw (← length-drop at stream) (take-length _)

pub returns-then-bytes-n : goal.returns-then-bytes-n
returns-then-bytes-n c =
    let a = c.args in
    let r = rest a.stream.now a.at in
    byte-missing (predictors a.fcm.now a.dfcm.now a.place) a.nibble (drop a.at a.stream.now) a.at c.remaining_count-n.result c.remaining_count-n.ensures (rw r at c.if-bytes-n.true)

pub returns-in-Some : goal.returns-in-Some
returns-in-Some c =
    let a = c.args in
    let r = rest a.stream.now a.at in
    let d = rw (c.predict.ensures, c.word.ensures, r) at c.in-Some.ensures.double in
    let k = rw c.predict.ensures at c.in-Some.ensures.coded in
    same_half (predictors a.fcm.now a.dfcm.now a.place) a.nibble (drop a.at a.stream.now) a.at c.remaining_count-n.result c.remaining_count-n.ensures
    (rw r at c.if-bytes-n.false) c.in-Some.v d k

pub returns-in-None : goal.returns-in-None
returns-in-None c =
    let a = c.args in
    let r = rest a.stream.now a.at in
    let k = rw (c.predict.ensures, c.word.ensures, r) at c.in-None.ensures.otherwise in
    other_half (predictors a.fcm.now a.dfcm.now a.place) a.nibble (drop a.at a.stream.now) a.at c.remaining_count-n.result c.remaining_count-n.ensures
    (rw r at c.if-bytes-n.false) _ refl k
