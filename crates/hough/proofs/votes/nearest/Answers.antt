-- `hough::votes::nearest` meets its contract. Assumes nothing.
use native.Mathlib.Nat.{le_of_lt}
use mathlib.Core.Bool.{false}
use Prim.Native.Nat.{ℕ, ◌-◌, ◌^◌}
use lib.Bits.{bit_and, mask_lt}
use lib.IntN.{pos}
use lib.Ieee.{Float, fin, binary64, add, neg, of_bits, to_bits}
use Rattle.ieee.specs.Numbers.{decimal}
use Rattle.hough.proofs.Offsets.{is_true, guessed, sum_no_nan}
use Rattle.hough.proofs.votes.nearest.Goals as goal

-- the low digits of u + 2^52
abbrev low : Float → ℕ
low u = to_bits binary64 (add binary64 u (fin false 1 (pos 52)))

pub float_to_bits-guess : goal.float_to_bits-guess
unfolding of_bits decimal
float_to_bits-guess c = sum_no_nan c.args.u 52 (is_true c.requires)

pub returns-then-off-2 : goal.returns-then-off-2
unfolding of_bits decimal neg
returns-then-off-2 c =
    let b = low c.args.u in
    guessed c.args.u (bit_and b (2 ^ 16 - 1)) (le_of_lt (mask_lt b 16)) (is_true c.requires) (is_true c.if-off.true) (is_true c.if-off-2.true)
