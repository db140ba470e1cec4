-- `write_doubles` meets its contract: a turn of the loop writes one pair more, and what is left is no double or one. Assumes nothing.
use Rattle.std.proofs.Common.{◌≡◌, ◌+◌, ◌*◌, [], ◌∷◌, length, drop, get_or, ◌∙◌, arith}
use Rattle.fpc_step.specs.Calls.{predictors_of}
use Rattle.fpc_step.proofs.SameLaws.{same_then}
use Rattle.fpc_run.proofs.RunLaws.{pair_at, writing-pair}
use Rattle.fpc_run.proofs.write_doubles.Goals as goal

pub loop-v-preserved : goal.loop-v-preserved
loop-v-preserved c =
    let a = c.args in
    let l = c.loop-v in
    let w = c.write_pair in
    let i = l.invariant in
    let p = get_or c.as_chunks.result.0.now l.v-index [] in
    let n : 2 * (l.v-index + 1) ≡ 2 * l.v-index + 2 = omega arith in
    let z = i.0.size in
    let f = c.as_chunks.ensures.front in
    let e : drop (2 * l.v-index) a.doubles.now ≡ get_or p 0 0 ∷ get_or p 1 0 ∷ drop (2 * l.v-index + 2) a.doubles.now =
    rw (f, ← n) (pair_at a.doubles.now l.v-index (omega (arith, c.loop-v-test.true, c.as_chunks.ensures.front_len))) in (
      same_then a.predictors.now l.predictors w.new.predictors i.0 w.ensures.same,
      w.ensures.same_output ∙ i.1,
      rw n (writing-pair (length a.predictors.now.fcm.now) (predictors_of a.predictors.now) a.sink.now.out.now a.sink.now.at a.doubles.now
          (predictors_of l.predictors) l.sink.out.now l.sink.at (2 * l.v-index) i.2 (get_or p 0 0) (get_or p 1 0) e w.new.sink.at w.new.sink.out.now (predictors_of w.new.predictors)
          (rw z at w.ensures.appended) (rw z at w.ensures.updated)),
    )
