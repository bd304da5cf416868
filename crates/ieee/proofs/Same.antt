-- std's definitions of a cast and a rounding, which give the same values as this crate's. Assumes nothing.
use Rattle.std.proofs.Common.{◌≡◌, ℕ, ◌+◌, ◌*◌, ◌/◌, true, false, refl, mul_comm}
use lib.Ieee.{Float, nan, inf, fin, Format, binary32, up, down}
use Rattle.std.specs.Float.{round_to_format, float_round, round_with}
use Rattle.ieee.specs.Casts.{narrow, round_away}

pub same_narrow : (x : Float) → round_to_format binary32 x ≡ narrow x
unfolding round_to_format narrow
same_narrow nan = refl
same_narrow (inf s) = refl
same_narrow (fin s m e) = refl

half_up : (n d : ℕ) → (2 * n + d) / (2 * d) ≡ (n * 2 + d) / (d * 2)
half_up n d = rw (mul_comm 2 n, mul_comm 2 d)

pub same_round : (f : Format) (x : Float) → float_round f x ≡ round_away f x
unfolding round_with round_away
same_round f nan = refl
same_round f (inf s) = refl
same_round f (fin true m e) = rw (half_up (m * up e) (down e))
same_round f (fin false m e) = rw (half_up (m * up e) (down e))
