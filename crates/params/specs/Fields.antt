-- Good parameters' fields follow from their numbers. Assumes nothing.
use Rattle.std.specs.Prelude.{◌≡◌}
use mathlib.Core.Path.{refl}
use Rattle.params.specs.declared.good.Params.TheInside.{Inside}
use Rattle.params.specs.declared.choices.Kind.{Kind}
use Rattle.params.specs.declared.choices.Kind.TheVariants.{Integers, Floats}
use Rattle.params.specs.declared.choices.Mode.{Mode}
use Rattle.params.specs.declared.choices.Mode.TheVariants.{Lossy, Exact}
use Rattle.params.specs.declared.choices.Dimension.{Dimension}
use Rattle.params.specs.declared.choices.Dimension.TheVariants.{One, Two, Three, Four}
use Rattle.params.specs.Good.{numbers, fields, IsGood}

pub fields_back : (a : Inside) → IsGood a → fields (numbers a) ≡ a
fields_back a h = go a.kind a.dimension a.mode
  where
    of : Kind → Dimension → Mode → Inside
    of k d m = record { kind = k; dimension = d; mode = m; planes = a.planes; width = a.width; lowest = a.lowest }

    go : (k : Kind) (d : Dimension) (m : Mode) → fields (numbers (of k d m)) ≡ of k d m
    go Integers One Lossy = refl
    go Integers One Exact = refl
    go Integers Two Lossy = refl
    go Integers Two Exact = refl
    go Integers Three Lossy = refl
    go Integers Three Exact = refl
    go Integers Four Lossy = refl
    go Integers Four Exact = refl
    go Floats One Lossy = refl
    go Floats One Exact = refl
    go Floats Two Lossy = refl
    go Floats Two Exact = refl
    go Floats Three Lossy = refl
    go Floats Three Exact = refl
    go Floats Four Lossy = refl
    go Floats Four Exact = refl
