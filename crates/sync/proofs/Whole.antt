-- Laws of `find_sync`: the parts put together, and the rows that it takes. Assumes nothing.
use mathlib.Core.Path.{◌≡◌, refl, sym, ap, ◌∙◌}
use mathlib.Core.Bool.{Bool, true, false, cond, not}
use mathlib.Core.List.{List}
use Prim.Native.Nat.{ℕ, zero, suc, ◌+◌, ◌-◌, ◌≤◌, ◌<◌, min}
use native.Mathlib.Omega.{arith}
use lib.ListN.{length, get_or, take, replicate}
use lib.Seq.{take_all}
use lib.Dec.{T, leb, leb→le, nleb→lt, ltb, eqb}
use lib.IntN.{ℤ}
use lib.Ieee.{Float}
use Rattle.modespec.specs.declared.ModeSpec.{ModeSpec}
use Rattle.modespec.specs.ModeSpec.{spec_of}
use Rattle.modespec.specs.Sizes.{radio_lines, image_probes}
use Rattle.modespec.proofs.Rows.{image_lines_lem, radio_lines_lem, line_width_lem}
use Rattle.hough.specs.declared.Passes.{Passes}
use Rattle.hough.specs.Passes.{passes_of}
use Rattle.pulse.specs.Sums.{largest, first_with}
use Rattle.pulse.specs.Edge.{fall_at, slipped, edge_of}
use Rattle.pulse.specs.Quality.{quality_of}
use Rattle.pulse.proofs.Columns.{columns_fit}
use Rattle.sync.specs.Fold.{fold_of}
use Rattle.sync.specs.declared.SyncResult.{SyncResult}
use Rattle.sync.specs.FindSync.{skip_of, aligned_by, aligned_of, sync_result_of, SpecFits}

-- every mode's row is one that the inner form takes
pub mode_fits : (mode : ℕ) → SpecFits (spec_of mode)
mode_fits mode =
    record {
      width = omega (arith, (line_width_lem mode).high);
      lines = omega (arith, (image_lines_lem mode).high);
      radio = omega (arith, (radio_lines_lem mode).high);
      pulse = columns_fit mode 700 (omega arith);
    }

pub zeros_at : (n x : ℕ) → get_or (replicate {A = ℕ} n 0) x 0 ≡ 0
zeros_at zero x = refl
zeros_at (suc n) zero = refl
zeros_at (suc n) (suc x) = zeros_at n x

-- ---- the edge is a column

first_below : (f : ℕ → ℕ) (v k n : ℕ) → first_with f v k n ≤ k + n
unfolding first_with
first_below f v k zero = omega arith
first_below f v k (suc n) = go (eqb (f k) v) (first_below f v (suc k) n)
  where
    go : (t : Bool) → first_with f v (suc k) n ≤ suc k + n → cond t k (first_with f v (suc k) n) ≤ k + suc n
    go true h = omega arith
    go false h = omega arith

slipped_below : (x : ℕ) → slipped x ≤ x
slipped_below x = go (ltb 350 x)
  where
    go : (t : Bool) → cond t (x - 350) x ≤ x
    go true = omega arith
    go false = omega arith

pub edge_below : (counts : List ℕ) → edge_of counts ≤ 700
unfolding edge_of
edge_below counts = go (eqb top 0)
  where
    top : ℕ
    top = largest (fall_at counts) 692

    go : (t : Bool) → cond t 0 (slipped (first_with (fall_at counts) (largest (fall_at counts) 692) 0 692 + 4)) ≤ 700
    go true = omega arith
    go false = omega (arith, slipped_below (first_with (fall_at counts) (largest (fall_at counts) 692) 0 692 + 4), first_below (fall_at counts) (largest (fall_at counts) 692) 0 692)

-- ---- the parts put together

pub aligned_is : (flags : List ℕ) (spec : ModeSpec) (passes : Passes) (counts : List ℕ) (edge radio : ℕ) (skip : ℤ) (quality : Float)
    → counts ≡ fold_of flags passes.rate spec.line_seconds spec.image_lines → edge ≡ edge_of counts → skip ≡ skip_of edge spec passes.rate → radio ≡ radio_lines spec
    → quality ≡ quality_of counts spec radio
    → record { adjusted_rate_hz = passes.rate; skip_samples = skip; slant_deg = passes.slant_deg; sync_quality = quality } ≡ aligned_of flags spec passes
unfolding aligned_of aligned_by
aligned_is flags spec passes counts edge radio skip quality c e s r q =
    parts (s ∙ ap (λ (x : ℕ). skip_of x spec passes.rate) (e ∙ ap edge_of c)) (q ∙ ap (λ (k : List ℕ). quality_of k spec radio) c ∙ ap (quality_of (fold_of flags passes.rate spec.line_seconds spec.image_lines) spec) r)
  where
    parts : {k k' : ℤ} {x x' : Float} → k ≡ k' → x ≡ x'
        → ◌≡◌ {A = SyncResult} (record { adjusted_rate_hz = passes.rate; skip_samples = k; slant_deg = passes.slant_deg; sync_quality = x })
        (record { adjusted_rate_hz = passes.rate; skip_samples = k'; slant_deg = passes.slant_deg; sync_quality = x' })
    parts a b = cc

-- the flags that are read
pub take_least : (p : ℕ) (l : List ℕ) → take (min p (length l)) l ≡ take p l
take_least p l = go (leb p (length l)) (leb→le p (length l)) (nleb→lt p (length l))
  where
    go : (t : Bool) → (T t → p ≤ length l) → (T (not t) → length l < p) → take (min p (length l)) l ≡ take p l
    go true a b = let e : min p (length l) ≡ p = omega (arith, a tt) in ap (λ (n : ℕ). take n l) e
    go false a b = let h : length l ≤ min p (length l) = omega (arith, b tt) in let k : length l ≤ p = omega (arith, b tt) in take_all (min p (length l)) l h ∙ sym (take_all p l k)

pub sync_of : (spec : ModeSpec) (rate : Float) (flags read : List ℕ) → read ≡ take (image_probes spec rate) flags → aligned_of read spec (passes_of spec rate read) ≡ sync_result_of spec rate flags
unfolding sync_result_of
sync_of spec rate flags read e = ap (λ (l : List ℕ). aligned_of l spec (passes_of spec rate l)) e
