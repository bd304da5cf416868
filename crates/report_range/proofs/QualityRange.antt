-- A quality is an `f32` from 0 to 1: that of counts of 32 bits, and so that of every window that an evaluation folds. Assumes nothing.
use mathlib.Core.Path.{◌≡◌, subst}
use mathlib.Core.Bool.{Bool, true, false, cond, ◌||◌}
use mathlib.Core.List.{List, [], ◌∷◌}
use Prim.Native.Nat.{ℕ, zero, suc, ◌*◌, ◌/◌, ◌^◌, ◌≤◌, ◌<◌}
use native.Mathlib.Nat.{le_trans, lt_of_le_of_lt}
use native.Mathlib.Omega.{arith}
use lib.Dec.{T, leb, eqb, lit<, lit≤, eqb→eq}
use borrow.Author.Tests.{eqb-false}
use Rattle.std.proofs.lemmas.Bool.{cond_both, or_parts}
use lib.ListN.{length, get_or, drop}
use lib.IntN.{ℤ, pos}
use lib.Ieee.{Float, nan, inf, fin, binary32, binary64, up, down, round, sub, div, lt, le, eq, fits, of_int}
use lib.Ieee.Fits.{round-fits, down_pos, and_l}
use lib.Ieee.Order.{round_mono}
use lib.Ieee.Scale.{round_same}
use Rattle.ieee.specs.Numbers.{of_nat}
use Rattle.ieee.specs.Casts.{clamp, narrow}
use Rattle.ieee.proofs.Clamping.{clamp_ge, clamp_le}
use Rattle.ieee.proofs.NoNan.{finite_number, div_number, sub_number}
use Rattle.ieee.proofs.Whole.{whole_positive, whole_unsigned}
use Rattle.ieee.proofs.Unsigned.{unsigned_finite, le→cross}
use Rattle.modespec.specs.declared.ModeSpec.{ModeSpec}
use Rattle.modespec.specs.ModeSpec.{spec_of}
use Rattle.modespec.specs.Sizes.{line_samples, window_lines, pulse_columns}
use Rattle.modespec.proofs.Rows.{window_lines_lem}
use Rattle.columns.proofs.Lists.{list_below}
use Rattle.pulse.specs.PulseWindow.{best_window}
use Rattle.pulse.specs.Median.{insert, sorted, median_of}
use Rattle.pulse.specs.Quality.{quality_by, quality_of, PulseFits}
use Rattle.pulse.proofs.Columns.{columns_fit}
use Rattle.pulse.proofs.Largest.{best_below}
use Rattle.window_fold.specs.Fold.{hits_to, fold_to, fold_of}
use Rattle.window_fold.proofs.Folding.{hits_most, fold_length}
use Rattle.sync_start.specs.Evaluate.{window_quality}
use Rattle.report_range.specs.Report.{Part}

-- ---- to the narrower format

zero_narrowed : (n c : ℕ) → 0 < c → n ≡ 0 → fin true 0 (pos 0) ≡ round binary32 true n c
unfolding round
zero_narrowed n c h e = round_same binary32 true 0 1 n c (lit< tt) h (go n c e)
  where
    go : (n c : ℕ) → n ≡ 0 → 0 * c ≡ n * 1
    go n c e = omega arith

below_zero : (m : ℕ) (e : ℤ) → T (le (fin false 0 (pos 0)) (fin true m e)) → m * up e ≡ 0
unfolding le lt eq
below_zero m e p = go (m * up e) (down e) (eqb→eq (0 * 1 * down e) (m * up e * 1) (and_l (eqb (0 * 1 * down e) (m * up e * 1)) _ p))
  where
    go : (a d : ℕ) → 0 * d ≡ a * 1 → a ≡ 0
    go a d e = omega arith

narrow_part : (x : Float) → T (le (fin false 0 (pos 0)) x) → T (le x (fin false 1 (pos 0))) → Part (narrow x)
unfolding narrow le lt eq fits
narrow_part nan p q = absurd p
narrow_part (inf true) p q = absurd p
narrow_part (inf false) p q = absurd q
narrow_part (fin true m e) p q = subst Part (zero_narrowed (m * up e) (down e) (down_pos e) (below_zero m e p)) (record { fits = tt; low = tt; high = tt })
narrow_part (fin false m e) p q = record { fits = round-fits binary32 false (m * up e) (down e); low = above; high = below }
  where
    least : (d a : ℕ) → 0 * d ≤ a * 1
    least d a = omega arith

    above : T (le (fin false 0 (pos 0)) (narrow (fin false m e)))
    above = round_mono binary32 0 1 (m * up e) (down e) (lit< tt) (down_pos e) (least (down e) (m * up e))

    below : T (le (narrow (fin false m e)) (fin false 1 (pos 0)))
    below = round_mono binary32 (m * up e) (down e) 1 1 (down_pos e) (lit< tt) (le→cross (fin false m e) (fin false 1 (pos 0)) tt tt q)

-- ---- the quality

pub quality_part : (sum width median lines : ℕ) → sum ≤ 2 ^ 53 → 0 < width → width ≤ 2 ^ 53 → median ≤ 2 ^ 53 → 0 < lines → lines ≤ 2 ^ 53
    → Part (quality_by sum width median lines)
unfolding quality_by of_int le
quality_part sum width median lines hs pw hw hm pl hl =
    let peak = div binary64 (of_nat sum) (of_nat width) in
    let over = sub binary64 peak (of_nat median) in
    let x = div binary64 over (of_nat lines) in
    let s = finite_number (of_nat sum) (unsigned_finite (of_nat sum) (whole_unsigned sum hs)) in
    let n1 = div_number (of_nat sum) (of_nat width) s (whole_positive width hw pw) in
    let n2 = sub_number peak (of_nat median) n1 (unsigned_finite (of_nat median) (whole_unsigned median hm)) in
    let n3 = div_number over (of_nat lines) n2 (whole_positive lines hl pl) in
    narrow_part (clamp x (fin false 0 (pos 0)) (fin false 1 (pos 0))) (clamp_ge x (fin false 0 (pos 0)) (fin false 1 (pos 0)) n3 tt) (clamp_le x (fin false 0 (pos 0)) (fin false 1 (pos 0)) n3 tt)

-- counts of at most v have a median of at most v
insert_below : (v x : ℕ) (ys : List ℕ) → x ≤ v → ((k : ℕ) → get_or ys k 0 ≤ v) → (k : ℕ) → get_or (insert x ys) k 0 ≤ v
unfolding insert
insert_below v x [] p h zero = p
insert_below v x [] p h (suc k) = h k
insert_below v x (y ∷ ys) p h k = go (insert_below v x ys p (λ i. h (suc i))) (leb x y) k
  where
    go : ((k : ℕ) → get_or (insert x ys) k 0 ≤ v) → (b : Bool) (k : ℕ) → get_or (cond b (x ∷ y ∷ ys) (y ∷ insert x ys)) k 0 ≤ v
    go r true zero = p
    go r true (suc k) = h k
    go r false zero = h 0
    go r false (suc k) = r k

sorted_below : (v : ℕ) (xs : List ℕ) → ((k : ℕ) → get_or xs k 0 ≤ v) → (k : ℕ) → get_or (sorted xs) k 0 ≤ v
unfolding sorted
sorted_below v [] h k = h k
sorted_below v (x ∷ xs) h k = insert_below v x (sorted xs) (h 0) (λ i. sorted_below v xs (λ j. h (suc j)) i) k

median_below : (v : ℕ) (xs : List ℕ) → ((k : ℕ) → get_or xs k 0 ≤ v) → median_of xs ≤ v
unfolding median_of
median_below v xs h = sorted_below v xs h (length xs / 2)

-- of counts of 32 bits; no counts or no lines: 0.0
module _ (counts : List ℕ) (spec : ModeSpec) (lines : ℕ) where
  pub quality_of_part : ((k : ℕ) → get_or counts k 0 < 2 ^ 32) → length counts ≤ 65536 → lines ≤ 65536 → PulseFits spec (length counts) → Part (quality_of counts spec lines)
  unfolding quality_of fits le
  quality_of_part h n l f =
      cond_both (eqb (length counts) 0 || eqb lines 0) (fin false 0 (pos 0)) (quality_by (best_window counts width).sum width (median_of counts) lines) Part
      (λ e. record { fits = tt; low = tt; high = tt })
      (λ e.
      let k = or_parts (eqb (length counts) 0) (eqb lines 0) e in
      let w = f (some (length counts) k.0) in
      let most : width ≤ 65536 = le_trans w.1 n in
      quality_part (best_window counts width).sum width (median_of counts) lines
      (le_trans (best_below counts width h most) (lit≤ tt)) w.0 (le_trans most (lit≤ tt))
      (le_trans (median_below 4294967295 counts (λ k. omega (arith, h k))) (lit≤ tt))
      (some lines k.1) (le_trans l (lit≤ tt)))
    where
      some : (n : ℕ) → eqb n 0 ≡ false → 0 < n
      some n e = let d : n ≡ 0 → ⊥ = eqb-false n 0 e in omega arith

      width : ℕ
      width = pulse_columns spec (length counts)

-- ---- of a window

-- whatever the flags: a fold counts lines
pub window_part : (mode j : ℕ) (flags : List ℕ) → Part (window_quality mode j flags)
unfolding window_quality fold_of fold_to
window_part mode j flags =
    let spec = spec_of mode in
    let n = window_lines spec in
    let window = drop (64 * j) flags in
    let counts = fold_to (line_samples spec) window n in
    let size : length counts ≡ 700 = fold_length (line_samples spec) window n in
    let l : n ≤ 30 = (window_lines_lem mode).high in
    quality_of_part counts spec n
    (λ k. lt_of_le_of_lt (le_trans (list_below (λ x. hits_to (line_samples spec) window x n) 700 n (λ x. hits_most (line_samples spec) window x n) k) l) (lit< tt))
    (rw size (lit≤ tt)) (le_trans l (lit≤ tt)) (rw size (columns_fit mode 700 (lit≤ tt)))
