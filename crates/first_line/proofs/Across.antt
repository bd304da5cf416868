-- Laws of the columns of a wide pulse. Assumes nothing.
use Rattle.std.proofs.Common.{◌≡◌, ℕ, zero, suc, ◌+◌, ◌*◌, ◌≤◌, Bool, true, cond, List, Option, Some, None, refl, ap, ◌∙◌, add-one, arith, le-leb}
use Rattle.std.specs.List.{find, range_with_len}
use Rattle.std.specs.Option.{option_map, unwrap_or}
use lib.Ieee.{Float}
use Rattle.window_fold.specs.Fold.{hit_at, hit_by, lines_at}
use Rattle.first_line.specs.Pulsed.{hits_across, half_set, first_line, or_zero}
use Rattle.window_fold.proofs.Folding.{hit_small}

module _ (samples : Float) (window : List ℕ) (y column : ℕ) where
  pub across_none : 0 ≡ hits_across samples window y column 0
  unfolding hits_across
  across_none = refl

  pub across_most : (n : ℕ) → hits_across samples window y column n ≤ n
  unfolding hits_across hit_at
  across_most zero = omega arith
  across_most (suc n) = omega (arith, across_most n, hit_small samples window (lines_at y (column + n)))

  pub across_next : (n hits one : ℕ) → hits ≡ hits_across samples window y column n → one ≡ hit_by samples window (lines_at y (column + n))
      → hits + one ≡ hits_across samples window y column (n + 1)
  unfolding hits_across hit_at
  across_next n hits one h o = rw (h, o, add-one)

module _ (samples : Float) (window : List ℕ) (column width : ℕ) where
  pub half_set_lem : (y hits : ℕ) → hits ≡ hits_across samples window y column width → width ≤ 2 * hits → half_set samples window column width y ≡ true
  unfolding half_set
  half_set_lem y hits e h = rw (← e) (le-leb _ _ h)

-- `find` over the lines from y on gives the first that passes
pub found_is : (test : ℕ → Bool) (y n : ℕ) → find test (range_with_len y n) ≡ first_line test y n
unfolding first_line
found_is test y zero = refl
found_is test y (suc n) =
    ap (λ (r : Option ℕ). cond (test y) (Some y) r) (found_is test (y + 1) n ∙ ap (λ (k : ℕ). first_line test k n) (add-one y))

pub or_line : (r found : Option ℕ) (line : ℕ) → option_map (λ x. x) r ≡ found → line ≡ unwrap_or r 0 → Some line ≡ or_zero found
or_line None found line f l = rw (← f, l)
or_line (Some y) found line f l = rw (← f, l)
