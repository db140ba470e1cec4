-- The rows of a call that allows fewer kinds, modes and dimensions.
use Rattle.std.specs.Prelude.{List}
use Rattle.params.specs.declared.Numbers.{Numbers}
use Rattle.params.specs.declared.good.Allowed.{Allowed}
use Rattle.params.specs.Choices.{kind_number, mode_number, dimension_number}
use Rattle.params.specs.Rows.{Row, parameter_rows_of}

-- rows 1 to 5 and 13, for kinds and modes from these on and dimensions up to this one
abbrev pub allowed_rows : Allowed → Numbers → List Row
allowed_rows allowed p =
    parameter_rows_of (kind_number allowed.kind) (mode_number allowed.mode)
    (dimension_number allowed.dimension) p
