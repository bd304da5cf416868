-- `ieee::to_u64` meets its contract: the shifted digits where the exponent is small, std's own cast up to 2 ^ 64, and the range's end from there on.
-- Assumes nothing.
use Rattle.std.proofs.Common.{ℕ, ◌/◌, ◌^◌, ◌≤◌, T, sym, subst, arith}
use lib.Ieee.{Float, binary64, fits, le, lt, to_bits}
use lib.Ieee.Positive.{above, above_of_le}
use Rattle.std.proofs.num.Truncating.{one, at_least_one, under_one, below_one, cut_down}
use Rattle.ieee.proofs.Order.{yes, no, over_minus_one, small_exponent, unsigned_top, two_to, two_to_64_is}
use Rattle.ieee.proofs.Shifting.{from_1023, cut_left}
use Rattle.ieee.proofs.to_u64.Goals as goal

positive : (x : Float) → T (le one x) → T (above x)
positive x a = above_of_le one x tt a

-- an exponent's field of 1075 at most
below : (x : Float) → T (fits binary64 x) → T (le one x) → to_bits binary64 x / 2 ^ 52 ≤ 1075 → T (lt x (two_to 64))
below x f a h = small_exponent x f (positive x a) h

more : (e : ℕ) → e ≤ 1054 → e ≤ 1075
more e h = omega arith

pub overflow_sub-result : goal.overflow_sub-result
overflow_sub-result c =
    let x = c.args.x in
    let f : T (fits binary64 x) = subst T (sym c.well_formed.0.1) tt in
    let a = at_least_one x c.if-x.true in
    let h = more _ c.if-exponent-le1054.true in
    from_1023 x f a (below x f a h) h

pub truncating_f64_to_u64-requires : goal.truncating_f64_to_u64-requires
truncating_f64_to_u64-requires c =
    let p = positive c.args.x (at_least_one c.args.x c.if-x.true) in
    record { lower_bound = over_minus_one c.args.x p; upper_bound = rw two_to_64_is at (yes c.if-x-2.true) }

pub returns-then-exponent-le1054 : goal.returns-then-exponent-le1054
returns-then-exponent-le1054 c =
    let x = c.args.x in
    let f : T (fits binary64 x) = subst T (sym c.well_formed.0.1) tt in
    let a = at_least_one x c.if-x.true in
    cut_left x f a (below x f a (more _ c.if-exponent-le1054.true)) c.if-exponent-le1054.true

pub returns-then-exponent-le1075 : goal.returns-then-exponent-le1075
returns-then-exponent-le1075 c =
    let x = c.args.x in
    let f : T (fits binary64 x) = subst T (sym c.well_formed.0.1) tt in
    let a = at_least_one x c.if-x.true in
    cut_down x f a (below x f a c.if-exponent-le1075.true) c.if-exponent-le1075.true

pub returns-else-x-2 : goal.returns-else-x-2
returns-else-x-2 c = sym (unsigned_top c.args.x (positive c.args.x (at_least_one c.args.x c.if-x.true)) (rw two_to_64_is at (no c.if-x-2.false)))

pub returns-else-x : goal.returns-else-x
returns-else-x c = below_one 64 c.args.x (under_one c.args.x c.if-x.false)
