-- The number that a caller gives for each kind, mode and dimension.
use Rattle.std.specs.Prelude.{ℕ}
use Rattle.params.specs.declared.choices.Kind.{Kind}
use Rattle.params.specs.declared.choices.Kind.TheVariants.{Integers, Floats}
use Rattle.params.specs.declared.choices.Mode.{Mode}
use Rattle.params.specs.declared.choices.Mode.TheVariants.{Lossy, Exact}
use Rattle.params.specs.declared.choices.Dimension.{Dimension}
use Rattle.params.specs.declared.choices.Dimension.TheVariants.{One, Two, Three, Four}

abbrev pub kind_number : Kind → ℕ
kind_number Integers = 0
kind_number Floats = 1

abbrev pub mode_number : Mode → ℕ
mode_number Lossy = 0
mode_number Exact = 1

abbrev pub dimension_number : Dimension → ℕ
dimension_number One = 1
dimension_number Two = 2
dimension_number Three = 3
dimension_number Four = 4
