-- `ieee::nearest_shift` meets its contract. Assumes nothing.
use Rattle.std.proofs.Common.{◌≡◌, ℕ, suc, ◌+◌, ◌-◌, ◌*◌, ◌/◌, ◌%◌, ◌^◌, ◌<◌, ◌≤◌, ap, ◌∙◌, subst, one-mul, arith, lit<, shl_exact}
use lib.Bits.{bit_and, and_mask}
use lib.Ieee.Nearest.{closest}
use Rattle.ieee.proofs.Closest.{closest_shift}
use Rattle.ieee.proofs.nearest_shift.Goals as goal

-- the body's arithmetic
module _ (w sh : ℕ) (a : 1 ≤ sh) (b : sh < 64) where
  half_is : 1 * 2 ^ (sh - 1) % 2 ^ 64 ≡ 2 ^ (sh - 1)
  half_is = shl_exact 1 (sh - 1) 64 (lit< tt) (room sh b) ∙ one-mul (2 ^ (sh - 1))
    where
      room : (n : ℕ) → n < 64 → 1 + (n - 1) ≤ 64
      room n h = omega arith

  result : (w + (1 * 2 ^ (sh - 1) % 2 ^ 64 - 1) + bit_and (w / 2 ^ sh) 1) / 2 ^ sh ≡ closest w (2 ^ sh)
  result =
      ap (λ (k : ℕ). (w + (k - 1) + bit_and (w / 2 ^ sh) 1) / 2 ^ sh) half_is
      ∙ ap (λ (k : ℕ). (w + (2 ^ (sh - 1) - 1) + k) / 2 ^ sh) (and_mask (w / 2 ^ sh) 1)
      ∙ subst (λ (n : ℕ). (w + (2 ^ (sh - 1) - 1) + w / 2 ^ n % 2) / 2 ^ n ≡ closest w (2 ^ n)) (back sh a) (closest_shift w (sh - 1))
    where
      back : (n : ℕ) → 1 ≤ n → suc (n - 1) ≡ n
      back n h = omega arith

pub returns : goal.returns
returns c = result c.args.w c.args.sh c.requires.0 c.requires.1
