-- The fields of good parameters: the numbers that they stand for, and what rows 4, 5 and 13 pass.
use Rattle.std.specs.Prelude.{◌≡◌, true, cond, eqb, ◌*◌, ◌≤◌}
use Rattle.params.specs.declared.Numbers.{Numbers}
use Rattle.params.specs.declared.good.Params.TheInside.{Inside}
use Rattle.params.specs.declared.choices.Kind.TheVariants.{Integers, Floats}
use Rattle.params.specs.declared.choices.Mode.TheVariants.{Lossy, Exact}
use Rattle.params.specs.declared.choices.Dimension.TheVariants.{One, Two, Three, Four}
use Rattle.params.specs.Choices.{kind_number, mode_number, dimension_number}
use Rattle.params.specs.Width.{good_width}
use Rattle.params.specs.Lowest.{lowest_offset}

abbrev pub numbers : Inside → Numbers
numbers p = record {
  kind = kind_number p.kind;
  dimension = dimension_number p.dimension;
  mode = mode_number p.mode;
  planes = p.planes;
  width = p.width;
  lowest = p.lowest;
}

-- the fields of the numbers of good parameters
abbrev pub fields : Numbers → Inside
fields n = record {
  kind = cond (eqb n.kind 0) Integers Floats;
  dimension = cond (eqb n.dimension 1) One (cond (eqb n.dimension 2) Two (cond (eqb n.dimension 3) Three Four));
  mode = cond (eqb n.mode 0) Lossy Exact;
  planes = n.planes;
  width = n.width;
  lowest = n.lowest;
}

-- kind, dimension and mode have no other values than those that rows 1 to 3 pass
pub record IsGood (p : Inside) : Type 0 where
  pub planes-from : 1 ≤ p.planes
  pub planes-to : p.planes ≤ 32
  pub width : good_width p.width ≡ true
  pub lowest : p.lowest ≤ 2 * lowest_offset
