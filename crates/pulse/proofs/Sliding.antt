-- The falling-edge scan's difference as a running value: the step from each column to the next, and its size. Assumes nothing.
use mathlib.Core.Path.{◌≡◌, refl, sym, ap, ◌∙◌}
use mathlib.Core.Bool.{Bool, true, false, cond}
use mathlib.Core.List.{List}
use Prim.Native.Nat.{ℕ, zero, suc, ◌+◌, ◌-◌, ◌*◌, ◌^◌, ◌≤◌, ◌<◌}
use native.Mathlib.Omega.{arith}
use lib.Dec.{T, ltb, ltb→lt}
use lib.IntN.{ℤ, pos, negsuc, ◌+ℤ◌, ◌-ℤ◌}
use lib.ListN.{get_or}
use lib.Signed.{mag}
use Rattle.limits.proofs.Signed.{difference_is, same_difference, difference_less, difference_more, less_mag}
use Rattle.pulse.specs.Edge.{four_from, fall_at}
use Rattle.pulse.specs.Sliding.{difference_at, slid_by, not_negative}
use Rattle.pulse.proofs.Sums.{sum_slide, sum_below}

-- ---- from each column to the next

module _ (counts : List ℕ) (x : ℕ) where
  abbrev count : ℕ → ℕ
  count k = get_or counts k 0

  pub difference_next : difference_at counts (suc x) ≡ slid_by (difference_at counts x) (count x) (count (x + 4)) (count (x + 8))
  difference_next =
      let a = four_from counts x in
      let b = four_from counts (x + 4) in
      let s : suc x + 4 ≡ suc (x + 4) = omega arith in
      let e : x + 4 + 4 ≡ x + 8 = omega arith in
      same_difference (four_from counts (suc x)) (four_from counts (suc x + 4)) (a + 2 * count (x + 4)) (b + count x + count (x + 8))
      (omega (arith, sum_slide count x 4, sum_slide count (x + 4) 4, ap (four_from counts) s, ap count e))
      ∙ sym (difference_less (a + 2 * count (x + 4)) (b + count x) (count (x + 8)))
      ∙ ap (λ (z : ℤ). z -ℤ pos (count (x + 8))) (sym (difference_more a (b + count x) (2 * count (x + 4))))
      ∙ ap (λ (z : ℤ). z +ℤ pos (2 * count (x + 4)) -ℤ pos (count (x + 8))) (sym (difference_less a b (count x)))

  -- the fall is the difference, or 0 where that is negative
  pub difference_falls : not_negative (difference_at counts x) ≡ fall_at counts x
  difference_falls = go (four_from counts x) (four_from counts (x + 4))
    where
      go : (a b : ℕ) → not_negative (pos a -ℤ pos b) ≡ a - b
      go a b = ap not_negative (difference_is a b) ∙ at (ltb a b) (ltb→lt a b)
        where
          at : (t : Bool) → (T t → a < b) → not_negative (cond t (negsuc (b - suc a)) (pos (a - b))) ≡ a - b
          at true h = omega (arith, h tt)
          at false h = refl

-- the step with the places as the code has them
pub difference_step : (counts : List ℕ) (x : ℕ) → 1 ≤ x → difference_at counts x ≡ slid_by (difference_at counts (x - 1)) (get_or counts (x - 1) 0) (get_or counts (x + 3) 0) (get_or counts (x + 7) 0)
difference_step counts zero l = absurd (omega arith)
difference_step counts (suc x) l =
    let i : suc x - 1 ≡ x = omega arith in
    let j : suc x + 3 ≡ x + 4 = omega arith in
    let k : suc x + 7 ≡ x + 8 = omega arith in
    rw (i, j, k) (difference_next counts x)

-- ---- its size

module _ (counts : List ℕ) (h : (k : ℕ) → get_or counts k 0 < 2 ^ 32) where
  pub four_below : (x : ℕ) → four_from counts x ≤ 17179869180
  four_below x = sum_below (λ k. get_or counts k 0) 4294967295 x 4 (λ k. omega (arith, h k))

  pub difference_below : (x : ℕ) → mag (difference_at counts x) < 2 ^ 35
  difference_below x = omega (arith, less_mag (pos (four_from counts x)) (four_from counts (x + 4)), four_below x, four_below (x + 4))
