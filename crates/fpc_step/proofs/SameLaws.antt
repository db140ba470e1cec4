-- Predictors over the tables that were lent. Assumes nothing.
use Rattle.std.proofs.Common.{◌∙◌}
use Rattle.fpc_step.specs.declared.predictors.Predictors.{Predictors}
use Rattle.fpc_step.specs.Calls.{IsSame}

pub same_then : (a b c : Predictors) → IsSame a b → IsSame b c → IsSame a c
same_then a b c h i = record { fcm = i.fcm ∙ h.fcm; dfcm = i.dfcm ∙ h.dfcm; size = i.size ∙ h.size }
