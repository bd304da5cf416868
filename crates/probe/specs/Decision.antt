-- Whether a spectrum shows the sync tone (01-scope.md, "Spectrum and probe"): `SyncTracker::new` and `has_sync_at` of sync.rs, in their float steps. Definitions only.
use Rattle.std.specs.Prelude.{ℕ, zero, suc, ◌+◌, ◌-◌, ◌*◌, min, max, Bool, not, cond, List, [], ◌∷◌, length, get_or, leb, eqb, Result, Ok, Err, Float}
use Rattle.std.specs.Float.{binary64}
use Rattle.std.specs.Float.Ieee.{add, sub, mul, div, lt}
use Rattle.ieee.specs.Numbers.{of_nat, decimal}
use Rattle.dsp.specs.Spectrum.{power_of, bin_of}
use Rattle.limits.specs.declared.Refusal.{Refusal}
use Rattle.limits.specs.declared.Refusal.TheVariants as why
use Rattle.limits.specs.Refusals.{◌⇒◌, first_of}
use Rattle.probe.specs.Refusals.{all_of, is_finite, shift_allowed}
use Rattle.probe.specs.Window.{nothing}

-- ---- the bins

-- the bin of a tone under the shift
unfoldable pub shifted_bin : ℕ → Float → ℕ
shifted_bin hz shift = bin_of (add binary64 (of_nat hz) shift)

abbrev pub low_bin : Float → ℕ
low_bin shift = max (shifted_bin 1500 shift) 1

abbrev pub high_bin : Float → ℕ
high_bin shift = min (shifted_bin 2300 shift) 127

abbrev pub sync_bin : Float → ℕ
sync_bin shift = min (max (shifted_bin 1200 shift) 1) 127

-- ---- the powers

-- the power of pair k
unfoldable pub bin_power : List Float → ℕ → Float
bin_power spectrum k = power_of (get_or spectrum (2 * k) nothing) (get_or spectrum (2 * k + 1) nothing)

-- 0.0 and the powers of n bins from lo on, added in that order
unfoldable pub powers_of : List Float → ℕ → ℕ → Float
powers_of spectrum lo zero = nothing
powers_of spectrum lo (suc n) = add binary64 (powers_of spectrum lo n) (bin_power spectrum (lo + n))

-- the mean over the bins lo to hi. The divisor is one short of their number, but at least 1; with no bin the mean is 0.
unfoldable pub mean_of : List Float → ℕ → ℕ → Float
mean_of spectrum lo hi = cond (leb lo hi) (div binary64 (powers_of spectrum lo (hi + 1 - lo)) (of_nat (max (hi - lo) 1))) nothing

-- 1.0 - 0.5 * distance
unfoldable pub weight : ℕ → Float
weight distance = sub binary64 (of_nat 1) (mul binary64 (decimal 5 1) (of_nat distance))

-- x and the weighted power of bin k
unfoldable pub plus_bin : Float → List Float → ℕ → ℕ → Float
plus_bin x spectrum k distance = add binary64 x (mul binary64 (bin_power spectrum k) (weight distance))

-- the bin and its two neighbours, by a triangle of weights, halved
unfoldable pub triangle_of : List Float → ℕ → Float
triangle_of spectrum bin =
    div binary64 (plus_bin (plus_bin (plus_bin nothing spectrum (bin - 1) 1) spectrum bin 0) spectrum (bin + 1) 1) (of_nat 2)

-- the sync band has more than twice the mean power of the picture's band
unfoldable pub has_sync : List Float → Float → Bool
has_sync spectrum shift =
    lt (mul binary64 (of_nat 2) (mean_of spectrum (low_bin shift) (high_bin shift))) (triangle_of spectrum (sync_bin shift))

-- ---- the call

unfoldable pub probe_refusal : List Float → Float → Result Unit Refusal
probe_refusal spectrum shift =
    first_of ((not (shift_allowed shift) ⇒ why.Shift) ∷ (not (eqb (length spectrum) 258) ⇒ why.Length) ∷ (not (all_of is_finite spectrum) ⇒ why.Sample) ∷ [])

-- the answer for a refusal or none, and a decision
abbrev pub probe_by : Result Unit Refusal → Bool → Result Bool Refusal
probe_by (Ok u) sync = Ok sync
probe_by (Err e) sync = Err e

unfoldable pub probe_answer : List Float → Float → Result Bool Refusal
probe_answer spectrum shift = probe_by (probe_refusal spectrum shift) (has_sync spectrum shift)
