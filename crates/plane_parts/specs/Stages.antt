-- What a part of a plane begins with.
use Rattle.std.specs.Prelude.{Bool, true, false}
use Rattle.plane_parts.specs.declared.Stage.{Stage}
use Rattle.plane_parts.specs.declared.Stage.TheVariants.{Scan, Test}

-- whether it is a test, and not a scan that goes on
abbrev pub is_test : Stage → Bool
is_test Test = true
is_test Scan = false
