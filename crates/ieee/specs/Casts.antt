-- Rust's float casts and roundings (01-scope.md, "Rust things that need another body") that Rattle's own operators leave out, as total functions on
-- the logic's floats (`lib.Ieee`). Definitions only.
use Rattle.std.specs.Prelude.{ℕ, ◌+◌, ◌-◌, ◌*◌, ◌/◌, ◌^◌, min, cond, Float}
use Rattle.std.specs.Float.{nan, inf, fin, Format, binary32}
use Rattle.std.specs.Float.Ieee.{up, down, round, lt, is_nan}

-- `x.ceil() as uN`: up to a whole number, then to the nearest end of the range, and 0 for `nan`
unfoldable pub ceil_unsigned : ℕ → Float → ℕ
ceil_unsigned w nan = 0
ceil_unsigned w (inf s) = cond s 0 (2 ^ w - 1)
ceil_unsigned w (fin s m e) = cond s 0 (min ((m * up e + (down e - 1)) / down e) (2 ^ w - 1))

-- `f64::round`: the nearest whole number, a half away from zero. The magnitude is m * up e / down e, and half is added before the fraction is dropped.
-- The whole number is a value of the format, so `round` only writes it. A zero keeps the sign.
unfoldable pub round_away : Format → Float → Float
unfolding round
round_away f nan = nan
round_away f (inf s) = inf s
round_away f (fin s m e) = round f s ((m * up e * 2 + down e) / (down e * 2)) 1

-- `x as f32`: to the nearest, a tie to the even one
unfoldable pub narrow : Float → Float
unfolding round
narrow nan = nan
narrow (inf s) = inf s
narrow (fin s m e) = round binary32 s (m * up e) (down e)

-- `f64::max`: the larger, and where one is `nan` the other. Of two zeros, whose order Rust leaves open, the first.
unfoldable pub maximum : Float → Float → Float
unfolding lt is_nan
maximum x y = cond (is_nan x) y (cond (lt x y) y x)

-- `f64::clamp`: held between lo and hi. `nan` stays.
unfoldable pub clamp : Float → Float → Float → Float
unfolding lt
clamp x lo hi = let y = cond (lt x lo) lo x in cond (lt hi y) hi y
