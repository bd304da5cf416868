-- What the inner functions of `mul_add` ensure (for 01-scope.md, "Fused multiply-add and parity"), and numbers rounded to odd. Definitions only.
use Rattle.std.specs.Prelude.{◌≡◌, Bool, cond, ℕ, suc, ◌+◌, ◌-◌, ◌*◌, ◌/◌, ◌%◌, ◌^◌, ◌≤◌, ◌<◌, ◌⊎◌, Float}
use Rattle.ieee.specs.Patterns.{lead, expo}
use Rattle.std.specs.Float.{nan, inf, binary64}
use Rattle.std.specs.Float.Ieee.{round, sum, of_bits}
use Rattle.fma.specs.declared.Wide.{Wide}

-- the number that two limbs are
abbrev pub wide_value : Wide → ℕ
wide_value w = w.hi * 2 ^ 64 + w.lo

-- X * 2 ^ i stands for S: it is S, or X is odd, 2 * h + 1, and S lies strictly between the even numbers beside it, times 2 ^ i.
-- Whatever rounds at a multiple of 2 * 2 ^ i rounds S and X * 2 ^ i alike.
pub data Near (S i X : ℕ) : Type 0 where
  exact : X * 2 ^ i ≡ S → Near S i X
  inside : (h r : ℕ) → X ≡ 2 * h + 1 → S ≡ h * 2 ^ suc i + r → 0 < r → r < 2 ^ suc i → Near S i X

-- r is the pattern, without its sign, of each S / 2 ^ 2317 for which v * 2 ^ i stands
pub record Finished (v i r : ℕ) : Type 0 where
  pub small : r ≤ 0x7ff0_0000_0000_0000
  pub value : (s : Bool) (S : ℕ) → Near S i v → of_bits binary64 (cond s (2 ^ 63) 0 + r) ≡ round binary64 s S (2 ^ 2317)

-- r stands for w / 2 ^ n
pub record Jammed (w n r : ℕ) : Type 0 where
  pub near : Near w n r
  pub small : r ≤ w + 1

-- r has 63 digits, and stands for (a * 2 ^ 64 + b) / 2 ^ (65 - c)
pub record Top (a b c r : ℕ) : Type 0 where
  pub lo : 2 ^ 62 ≤ r
  pub hi : r < 2 ^ 63
  pub near : Near (a * 2 ^ 64 + b) (65 - c) r

-- q has 53 digits, or is 0, and q * 2 ^ k is 2 ^ 52 times the value, in units, of an exponent's field e and the digits t
pub record Digits (e t q k : ℕ) : Type 0 where
  pub lo : 0 < q → 2 ^ 52 ≤ q
  pub hi : q < 2 ^ 53
  pub most : k ≤ 2097
  pub value : q * 2 ^ k ≡ lead binary64 e t * 2 ^ expo e * 2 ^ 52

-- W * 2 ^ i stands for S, and where it is not S itself, W has 63 digits at least
abbrev pub Strong : ℕ → ℕ → ℕ → Type 0
Strong S i W = Near S i W × ((W * 2 ^ i ≡ S) ⊎ (2 ^ 62 ≤ W))

-- r is each S / 2 ^ 2317 rounded for which W * 2 ^ (j + 64) stands
pub record Placed (sign : Bool) (W j : ℕ) (r : Float) : Type 0 where
  pub value : (S : ℕ) → Strong S (j + 64) W → r ≡ round binary64 sign S (2 ^ 2317)

-- r is ±P * 2 ^ k / 2 ^ 2253 + ±q * 2 ^ d / 2 ^ 2253, rounded once. A sign is true of a negative value
pub record Summed (s : Bool) (P k : ℕ) (t : Bool) (q d : ℕ) (r : Float) : Type 0 where
  pub is : r ≡ sum binary64 s (P * 2 ^ k) t (q * 2 ^ d) (2 ^ 2253)

-- a is even, of 54 digits, and b has 53. Each may also be 0
pub record Factors (a b : ℕ) : Type 0 where
  pub even : a % 2 ≡ 0
  pub a_lo : 0 < a → 2 ^ 53 ≤ a
  pub a_hi : a < 2 ^ 54
  pub b_lo : 0 < b → 2 ^ 52 ≤ b
  pub b_hi : b < 2 ^ 53

-- r is ±P * 2 ^ k / 2 ^ 2253 + ±S / 2 ^ 2317, rounded once, for each S for which Z * 2 ^ (k + 64) stands: exactly, or P is even, and far above Z
pub record Settled (s : Bool) (P k : ℕ) (t : Bool) (Z : ℕ) (r : Float) : Type 0 where
  pub is : (S : ℕ) → Near S (k + 64) Z → (Z * 2 ^ (k + 64) ≡ S) ⊎ ((P % 2 ≡ 0) × (2 ^ 62 + Z ≤ P)) → r ≡ sum binary64 s (P * 2 ^ (k + 64)) t S (2 ^ 2317)

-- b is the pattern of a finite value
pub record Finite (b : ℕ) : Type 0 where
  pub fits : b < 2 ^ 64
  pub below : b / 2 ^ 52 % 2 ^ 11 < 2047

-- a NaN or an infinity
pub data Special (x : Float) : Type 0 where
  nan_operand : x ≡ nan → Special x
  inf_operand : (s : Bool) → x ≡ inf s → Special x
