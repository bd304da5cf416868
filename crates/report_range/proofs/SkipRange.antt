-- The skip of a picture lies within 2 ^ 29 samples of 0, for a rate of at most 2 ^ 14. Assumes nothing.
use Prim.Native.Nat.{ℕ, ◌^◌, ◌≤◌}
use native.Mathlib.Nat.{le_trans}
use lib.Dec.{T, lit<, lit≤}
use lib.IntN.{nat_abs}
use lib.Ieee.{Float, binary64, sub, mul, div, of_int}
use Rattle.ieee.specs.Numbers.{of_nat}
use Rattle.ieee.specs.Casts.{round_away}
use Rattle.ieee.proofs.Magnitudes.{Under, is_under, under_tested, weaker, add_under, sub_under, mul_under, part_under, whole_under, away_under, signed_under}
use Rattle.modespec.specs.declared.ModeSpec.{ModeSpec}
use Rattle.modespec.specs.ModeSpec.{spec_of, rows}
use Rattle.modespec.specs.Sizes.{skip_correction}
use Rattle.modespec.proofs.Rows.{holds}
use Rattle.sync.specs.FindSync.{skip_seconds, skip_of}
use Rattle.sync_start.proofs.Positions.{timed}

-- a mode's correction is at most 2 seconds, as its line and its pulse are
corrections : (mode : ℕ) → T (is_under 1 (skip_correction (spec_of mode)))
unfolding rows skip_correction of_int
corrections = holds (λ (spec : ModeSpec). is_under 1 (skip_correction spec)) tt

module _ (mode edge : ℕ) (h : edge ≤ 700) where
  seconds_under : Under 13 (skip_seconds edge (spec_of mode))
  unfolding skip_seconds of_int
  seconds_under =
      let spec = spec_of mode in
      let t = timed mode in
      let x = div binary64 (of_nat edge) (of_nat 700) in
      let a = mul binary64 x spec.line_seconds in
      let A : Under 11 a = mul_under 10 1 x spec.line_seconds (lit< tt) (part_under 10 (of_nat edge) (lit< tt) (whole_under edge 10 (lit< tt) (le_trans h (lit≤ tt)))) t.line in
      let B : Under 12 (sub binary64 a spec.sync_seconds) = sub_under 11 a spec.sync_seconds (lit< tt) A (weaker 1 11 spec.sync_seconds (lit≤ tt) t.sync) in
      add_under 12 (sub binary64 a spec.sync_seconds) (skip_correction spec) (lit< tt) B
      (weaker 1 12 (skip_correction spec) (lit≤ tt) (under_tested 1 (skip_correction spec) (corrections mode)))

  pub skip_under : (rate : Float) → Under 14 rate → nat_abs (skip_of edge (spec_of mode) rate) ≤ 2 ^ 29
  unfolding skip_of
  skip_under rate r =
      let m = mul binary64 (skip_seconds edge (spec_of mode)) rate in
      le_trans (signed_under 28 (round_away binary64 m) (away_under 27 m (lit< tt) (mul_under 13 14 (skip_seconds edge (spec_of mode)) rate (lit< tt) seconds_under r))) (lit≤ tt)
