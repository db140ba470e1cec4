-- `Predictors::restart` meets its contract: filled tables are as long as they were. Assumes nothing.
use Rattle.std.proofs.Common.{◌∙◌, sym}
use Rattle.fpc_step.proofs.predictors.Predictors.restart.Goals as goal

pub invariant_of-self : goal.invariant_of-self
invariant_of-self c =
    let s = c.args.self.now in
    let e = c.fill.ensures.len in
    record {
      same_length = s.same_length ∙ sym e;
      small = rw e s.small;
      power = rw e s.power;
      h_in = rw e s.h_in;
      g_in = rw e s.g_in;
    }
