-- The numbers of good parameters: no row applies to them. Assumes nothing.
use mathlib.Core.Path.{◌≡◌, refl}
use mathlib.Core.Bool.{true, ◌&&◌}
use Prim.Native.Nat.{◌*◌, ◌≤◌}
use borrow.Author.Tests.{le-leb}
use lib.Dec.{leb}
use Rattle.params.specs.declared.choices.Kind.{Kind}
use Rattle.params.specs.declared.choices.Kind.TheVariants.{Integers, Floats}
use Rattle.params.specs.declared.choices.Mode.{Mode}
use Rattle.params.specs.declared.choices.Mode.TheVariants.{Lossy, Exact}
use Rattle.params.specs.declared.choices.Dimension.{Dimension}
use Rattle.params.specs.declared.choices.Dimension.TheVariants.{One, Two, Three, Four}
use Rattle.params.specs.declared.good.Params.TheInside.{Inside}
use Rattle.params.specs.Choices.{kind_number, mode_number, dimension_number}
use Rattle.params.specs.Dimension.{top_dimension}
use Rattle.params.specs.Good.{numbers, IsGood}
use Rattle.params.specs.Lowest.{lowest_offset}
use Rattle.params.specs.Rows.{first, parameter_rows}
use Rattle.params.specs.Width.{widest_slot, width_of}
use Rattle.params.proofs.Passed.{inside}
use Rattle.params.proofs.RowLaws.{good}

kind_row : (k : Kind) → (leb 0 (kind_number k) && leb (kind_number k) 1) ≡ true
kind_row Integers = refl
kind_row Floats = refl

mode_row : (m : Mode) → (leb 0 (mode_number m) && leb (mode_number m) 1) ≡ true
mode_row Lossy = refl
mode_row Exact = refl

dimension_row : (d : Dimension) → (leb 1 (dimension_number d) && leb (dimension_number d) top_dimension) ≡ true
dimension_row One = refl
dimension_row Two = refl
dimension_row Three = refl
dimension_row Four = refl

pub numbers_pass : (x : Inside) → IsGood x → first (parameter_rows (numbers x)) ≡ 0
numbers_pass x g =
    let planes = inside 1 x.planes 32 g.planes-from g.planes-to in
    let lowest = le-leb x.lowest (2 * lowest_offset) g.lowest in
    rw (kind_row x.kind, dimension_row x.dimension, mode_row x.mode, planes, g.width, lowest)

-- and W of them is that of a slot
pub width_from : (x : Inside) → IsGood x → 16 ≤ width_of (numbers x)
width_from x g = (good (numbers x) (numbers_pass x g)).width-from

pub width_to : (x : Inside) → IsGood x → width_of (numbers x) ≤ widest_slot
width_to x g = (good (numbers x) (numbers_pass x g)).width-to
