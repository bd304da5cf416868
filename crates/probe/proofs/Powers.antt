-- Laws of the powers of a spectrum. Assumes nothing.
use mathlib.Core.Path.{◌≡◌, refl}
use mathlib.Core.List.{List}
use Prim.Native.Nat.{ℕ, suc, ◌+◌, ◌-◌, ◌*◌, ◌≤◌, ◌<◌, max}
use native.Mathlib.Omega.{arith}
use lib.ListN.{length, get_or}
use lib.Ieee.{Float, nan, binary64, add, sub, mul, div, neg, lt, of_int}
use Rattle.std.proofs.lemmas.List.{get_or_default}
use borrow.Author.Tests.{le-leb, lt-leb}
use Rattle.ieee.specs.Numbers.{of_nat, decimal}
use Rattle.dsp.specs.Spectrum.{power_of}
use Rattle.probe.specs.Window.{nothing}
use Rattle.probe.specs.Decision.{low_bin, high_bin, sync_bin, bin_power, powers_of, mean_of, weight, plus_bin, triangle_of, has_sync}

pub bin_is : (s : List Float) (k : ℕ) → 2 * k + 1 < length s → power_of (get_or s (2 * k) nan) (get_or s (2 * k + 1) nan) ≡ bin_power s k
unfolding bin_power
bin_is s k h =
    let l : 2 * k < length s = omega arith in
    let a : get_or s (2 * k) nan ≡ get_or s (2 * k) nothing = get_or_default s (2 * k) nan nothing l in
    let b : get_or s (2 * k + 1) nan ≡ get_or s (2 * k + 1) nothing = get_or_default s (2 * k + 1) nan nothing h in
    rw (a, b)

pub powers_none : (s : List Float) (lo : ℕ) → nothing ≡ powers_of s lo (lo - lo)
unfolding powers_of
powers_none s lo = let e : lo - lo ≡ 0 = omega arith in rw e

pub powers_more : (s : List Float) (lo k : ℕ) (p q : Float) → lo ≤ k → p ≡ powers_of s lo (k - lo) → q ≡ bin_power s k → add binary64 p q ≡ powers_of s lo (k + 1 - lo)
unfolding powers_of
powers_more s lo k p q h e f =
    let n : k + 1 - lo ≡ suc (k - lo) = omega arith in
    let m : lo + (k - lo) ≡ k = omega arith in
    rw (n, m, e, f)

pub mean_none : (s : List Float) (lo hi : ℕ) → hi < lo → nothing ≡ mean_of s lo hi
unfolding mean_of
mean_none s lo hi h = rw (lt-leb lo hi h)

pub mean_some : (s : List Float) (lo hi n : ℕ) (p : Float) → lo ≤ hi → p ≡ powers_of s lo (hi + 1 - lo) → n ≡ max (hi - lo) 1 → div binary64 p (of_nat n) ≡ mean_of s lo hi
unfolding mean_of
mean_some s lo hi n p h e f = rw (le-leb lo hi h, e, f)

-- ---- the triangle and the decision

weight_one : weight 1 ≡ decimal 5 1
unfolding weight decimal sub add neg mul of_int
weight_one = refl

weight_none : weight 0 ≡ of_nat 1
unfolding weight decimal sub add neg mul of_int
weight_none = refl

pub triangle_is : (s : List Float) (bin : ℕ) (x y z : Float) → x ≡ bin_power s (bin - 1) → y ≡ bin_power s bin → z ≡ bin_power s (bin + 1)
    → div binary64 (add binary64 (add binary64 (add binary64 nothing (mul binary64 x (decimal 5 1))) (mul binary64 y (of_nat 1))) (mul binary64 z (decimal 5 1))) (of_nat 2) ≡ triangle_of s bin
unfolding triangle_of plus_bin
triangle_is s bin x y z e f g = rw (weight_one, weight_none, e, f, g)

pub sync_is : (s : List Float) (shift : Float) (lo hi bin : ℕ) (x y : Float) → lo ≡ low_bin shift → hi ≡ high_bin shift → bin ≡ sync_bin shift
    → x ≡ mean_of s lo hi → y ≡ triangle_of s bin → lt (mul binary64 (of_nat 2) x) y ≡ has_sync s shift
unfolding has_sync
sync_is s shift lo hi bin x y e f g a b = rw (a, b, e, f, g)
