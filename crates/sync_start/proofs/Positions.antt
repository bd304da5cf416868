-- An upper bound on the position of a start, in every mode. Assumes nothing.
use Rattle.std.proofs.Common.{◌≡◌, ℕ, zero, suc, ◌+◌, ◌-◌, ◌*◌, ◌^◌, ◌<◌, ◌≤◌, min, Bool, true, false, cond, ◌&&◌, T, leb, List, drop, refl, le_trans, arith, lit<, lit≤, Option, Some, None}
use lib.Ieee.{Float, binary64, sub, mul, of_int}
use lib.Ieee.Fits.{and_l, and_r}
use Rattle.ieee.specs.Numbers.{of_nat}
use Rattle.modespec.specs.declared.ModeSpec.{ModeSpec}
use Rattle.modespec.specs.ModeSpec.{spec_of, rows}
use Rattle.modespec.specs.Sizes.{line_samples, pulse_offset, window_lines, working_rate}
use Rattle.modespec.proofs.Rows as Rows
use Rattle.columns.specs.Columns.{column_part}
use Rattle.window_fold.specs.Fold.{lines_at}
use Rattle.first_line.specs.Pulsed.{first_line, first_pair, half_set, pulsed_line, line_probes, pulse_probes, narrow_line, wide_line, or_zero, first_pulsed_line}
use Rattle.sync_start.specs.Evaluate.{line_start, even_start, position_of}
use Rattle.ieee.proofs.Magnitudes.{Under, is_under, under_tested, weaker, add_under, sub_under, mul_under, part_under, whole_under, away_under, held_under, cut_under}

-- ---- the first line is one of the window

first_within : (test : ℕ → Bool) (y n m : ℕ) → first_line test y n ≡ Some m → m < y + n
unfolding first_line
first_within test y zero m e = let z : ◌≡◌ {A = ℕ} 0 1 = cc in omega arith
first_within test y (suc n) m e = at (test y) refl e (λ h. first_within test (suc y) n m h)
  where
    at : (b : Bool) → test y ≡ b → cond b (Some y) (first_line test (suc y) n) ≡ Some m → (first_line test (suc y) n ≡ Some m → m < suc y + n) → m < y + suc n
    at true p q r = let z : y ≡ m = cc in omega arith
    at false p q r = let z : m < suc y + n = r q in omega arith

or_zero_within : (l : Option ℕ) (n m : ℕ) → ((k : ℕ) → l ≡ Some k → k < n) → or_zero l ≡ Some m → m ≤ n
or_zero_within None n m h e = let z : 0 ≡ m = cc in omega arith
or_zero_within (Some y) n m h e = let z : y ≡ m = cc in let l : y < n = h y refl in omega arith

pair_within : (pulsed : ℕ → Bool) (lines y : ℕ) → first_pair pulsed lines ≡ Some y → y ≤ lines
unfolding first_pair
pair_within pulsed lines y e = less y lines (first_within (λ k. pulsed k && pulsed (k + 1)) 0 (lines - 1) y e)
  where
    less : (m n : ℕ) → m < 0 + (n - 1) → m ≤ n
    less m n h = omega arith

wide_within : (test : ℕ → Bool) (lines y : ℕ) → or_zero (first_line test 0 lines) ≡ Some y → y ≤ lines
wide_within test lines y e = or_zero_within (first_line test 0 lines) lines y (λ k q. same k lines (first_within test 0 lines k q)) e
  where
    same : (m n : ℕ) → m < 0 + n → m < n
    same m n h = omega arith

pub line_within : (spec : ModeSpec) (first : ℕ) (flags : List ℕ) (column width y : ℕ) → first_pulsed_line spec first flags column width ≡ Some y → y ≤ window_lines spec
unfolding first_pulsed_line wide_line narrow_line
line_within spec first flags column width y e = at (leb 20 width) e
  where
    at : (b : Bool) → cond b (wide_line spec (drop first flags) column width) (narrow_line spec first flags column) ≡ Some y → y ≤ window_lines spec
    at true p = wide_within (half_set (line_samples spec) (drop first flags) column width) (window_lines spec) y p
    at false p = pair_within (pulsed_line (line_probes spec) (pulse_probes spec) (drop (first - min first 65) flags) (min first 65) column) (window_lines spec) y p

-- ---- a row's seconds

pub record Timed (spec : ModeSpec) : Type 0 where
  pub line : Under 1 spec.line_seconds
  pub sync : Under 1 spec.sync_seconds
  pub offset : Under 1 (pulse_offset spec)
  pub samples : Under 14 (line_samples spec)

timed_test : ModeSpec → Bool
timed_test spec = (is_under 1 spec.line_seconds && is_under 1 spec.sync_seconds) && (is_under 1 (pulse_offset spec) && is_under 14 (line_samples spec))

timed_rows : (mode : ℕ) → T (timed_test (spec_of mode))
unfolding timed_test rows pulse_offset line_samples of_int
timed_rows = Rows.holds timed_test tt

pub timed : (mode : ℕ) → Timed (spec_of mode)
unfolding timed_test
timed mode =
    let s = spec_of mode in
    let a = is_under 1 s.line_seconds && is_under 1 s.sync_seconds in
    let b = is_under 1 (pulse_offset s) && is_under 14 (line_samples s) in
    let l : T a = and_l a b (timed_rows mode) in
    let r : T b = and_r a b (timed_rows mode) in
    record {
      line = under_tested 1 s.line_seconds (and_l (is_under 1 s.line_seconds) (is_under 1 s.sync_seconds) l);
      sync = under_tested 1 s.sync_seconds (and_r (is_under 1 s.line_seconds) (is_under 1 s.sync_seconds) l);
      offset = under_tested 1 (pulse_offset s) (and_l (is_under 1 (pulse_offset s)) (is_under 14 (line_samples s)) r);
      samples = under_tested 14 (line_samples s) (and_r (is_under 1 (pulse_offset s)) (is_under 14 (line_samples s)) r);
    }

-- ---- the position

rate_under : Under 14 working_rate
unfolding of_int
rate_under = lit≤ tt

module _ (spec : ModeSpec) (t : Timed spec) where
  lines_under : (column y : ℕ) → column ≤ 700 → y ≤ 64 → Under 11 (lines_at y column)
  unfolding lines_at column_part of_int
  lines_under column y c h =
      add_under 10 (of_nat y) (column_part 700 column) (lit< tt) (whole_under y 10 (lit< tt) (le_trans h (lit≤ tt)))
      (part_under 10 (of_nat column) (lit< tt) (whole_under column 10 (lit< tt) (le_trans c (lit≤ tt))))

  start_under : (first column y : ℕ) → first ≤ 16777216 → column ≤ 700 → y ≤ 64 → Under 28 (line_start spec first column y)
  unfolding line_start
  start_under first column y f c h =
      let p : Under 12 (mul binary64 (lines_at y column) spec.line_seconds) = mul_under 11 1 (lines_at y column) spec.line_seconds (lit< tt) (lines_under column y c h) t.line in
      let o : Under 12 (pulse_offset spec) = weaker 1 12 (pulse_offset spec) (lit≤ tt) t.offset in
      let d = sub binary64 (mul binary64 (lines_at y column) spec.line_seconds) (pulse_offset spec) in
      let q : Under 27 (mul binary64 d working_rate) = mul_under 13 14 d working_rate (lit< tt) (sub_under 12 _ _ (lit< tt) p o) rate_under in
      let four : 4 * first ≤ 2 ^ 27 = quarter first f in
      add_under 27 (of_nat (4 * first)) (mul binary64 d working_rate) (lit< tt) (whole_under (4 * first) 27 (lit< tt) four) q
    where
      quarter : (n : ℕ) → n ≤ 16777216 → 4 * n ≤ 134217728
      quarter n h = omega arith

  even_under : (odd : Bool) (x : Float) → Under 28 x → Under 29 (even_start odd spec x)
  unfolding even_start
  even_under true x u = sub_under 28 x (line_samples spec) (lit< tt) u (weaker 14 28 (line_samples spec) (lit≤ tt) t.samples)
  even_under false x u = weaker 28 29 x (lit≤ tt) u

  lead_under : Under 16 (mul binary64 (mul binary64 (of_nat 2) spec.sync_seconds) working_rate)
  unfolding of_int
  lead_under =
      mul_under 2 14 (mul binary64 (of_nat 2) spec.sync_seconds) working_rate (lit< tt)
      (mul_under 1 1 (of_nat 2) spec.sync_seconds (lit< tt) (lit≤ tt) t.sync) rate_under

  position_under : (x : Float) → Under 29 x → position_of spec x ≤ 2 ^ 31
  unfolding position_of
  position_under x u =
      let l = mul binary64 (mul binary64 (of_nat 2) spec.sync_seconds) working_rate in
      cut_under 31 _ (away_under 30 _ (lit< tt) (held_under 30 (sub binary64 x l) (sub_under 29 x l (lit< tt) u (weaker 16 29 l (lit≤ tt) lead_under))))

  pub position_most : (odd : Bool) (first column y : ℕ) → first ≤ 16777216 → column ≤ 700 → y ≤ 64
      → position_of spec (even_start odd spec (line_start spec first column y)) ≤ 2 ^ 31
  position_most odd first column y f c h = position_under _ (even_under odd _ (start_under first column y f c h))
