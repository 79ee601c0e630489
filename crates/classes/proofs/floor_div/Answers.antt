-- What the machine reads back is what it computed; where the remainder is negative, one less is the quotient rounded down.
use Rattle.std.proofs.Common.{arith}
use Rattle.std.proofs.lemmas.Int.{ints, to_z-of_z}
use Rattle.classes.proofs.FloorLaws.{floor_down, floor_same}
use Rattle.classes.proofs.floor_div.Goals as goal

pub returns-then-distance-divisor-lt0 : goal.returns-then-distance-divisor-lt0
returns-then-distance-divisor-lt0 c = grind (arith, ints, to_z-of_z, floor_down)

pub returns-else-distance-divisor-lt0 : goal.returns-else-distance-divisor-lt0
returns-else-distance-divisor-lt0 c = grind (arith, ints, to_z-of_z, floor_same)
