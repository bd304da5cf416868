-- Laws of the modes' numbers. Assumes nothing.
use Rattle.std.proofs.Common.{◌≤◌, arith}
use Rattle.modespec.specs.declared.Mode.{Mode}
use Rattle.modespec.specs.declared.Mode.TheVariants as named
use Rattle.modespec.specs.Mode.{mode_number}

pub number_most : (mode : Mode) → mode_number mode ≤ 15
number_most named.Pd120 = omega arith
number_most named.Pd180 = omega arith
number_most named.Pd240 = omega arith
number_most named.Robot24 = omega arith
number_most named.Robot36 = omega arith
number_most named.Robot72 = omega arith
number_most named.Robot24Bw = omega arith
number_most named.Robot12Bw = omega arith
number_most named.Robot8Bw = omega arith
number_most named.Scottie1 = omega arith
number_most named.Scottie2 = omega arith
number_most named.ScottieDx = omega arith
number_most named.Martin1 = omega arith
number_most named.Martin2 = omega arith
number_most named.Wraase120 = omega arith
number_most named.Wraase180 = omega arith
