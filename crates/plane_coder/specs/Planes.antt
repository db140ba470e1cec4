-- The bits of a plane.
use Rattle.std.specs.Prelude.{Bool, List}
use Rattle.planes.specs.Coder.{plane}
use Rattle.plane_coder.specs.declared.BitPlane.{BitPlane}

-- one for each word
abbrev pub bits_in : BitPlane → List Bool
bits_in p = plane p.k p.words.now
