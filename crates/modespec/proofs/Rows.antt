-- What holds of the row of every mode number: each rule is one test that is computed over the sixteen rows.
-- Assumes nothing.
use Rattle.std.proofs.Common.{◌≡◌, ℕ, zero, suc, ◌^◌, ◌<◌, ◌≤◌, Bool, ◌&&◌, T, leb, List, [], ◌∷◌, get_or, sym, lt_of_le_of_lt, lit<, leb→le}
use Rattle.std.specs.List.{list_all}
use lib.ListN.{get_or-map}
use lib.Ieee.{binary64, div, of_int}
use lib.Ieee.Fits.{and_l, and_r}
use lib.Ieee.Positive.{positive}
use Rattle.modespec.specs.declared.ModeSpec.{ModeSpec}
use Rattle.modespec.specs.ModeSpec.{spec_of, rows, wraase180}
use Rattle.modespec.specs.Sizes.{working_rate, radio_lines, window_lines, window_probes, image_probes, line_width, pulse_columns}

at : (test : ModeSpec → Bool) (rs : List ModeSpec) (d : ModeSpec) → T (list_all test rs) → T (test d) → (i : ℕ) → T (test (get_or rs i d))
at test [] d all last i = last
at test (r ∷ rs) d all last zero = and_l (test r) (list_all test rs) all
at test (r ∷ rs) d all last (suc i) = at test rs d (and_r (test r) (list_all test rs) all) last i

-- it passes at the rows, and at the one that a number above 15 gets
abbrev pub passes : (ModeSpec → Bool) → Bool
passes test = test wraase180 && list_all test rows

-- so it passes for every mode number
pub holds : (test : ModeSpec → Bool) → T (passes test) → (mode : ℕ) → T (test (spec_of mode))
unfolding spec_of
holds test t mode = at test rows wraase180 (and_r (test wraase180) (list_all test rows) t) (and_l (test wraase180) (list_all test rows) t) mode

-- lo ≤ x ≤ hi
pub record Within (lo hi x : ℕ) : Type 0 where
  pub low : lo ≤ x
  pub high : x ≤ hi

abbrev between : ℕ → ℕ → (ModeSpec → ℕ) → ModeSpec → Bool
between lo hi f spec = leb lo (f spec) && leb (f spec) hi

within : (lo hi : ℕ) (f : ModeSpec → ℕ) → T (passes (between lo hi f)) → (mode : ℕ) → Within lo hi (f (spec_of mode))
within lo hi f t mode =
    let h = holds (between lo hi f) t mode in
    let x = f (spec_of mode) in
    record { low = leb→le lo x (and_l (leb lo x) (leb x hi) h); high = leb→le x hi (and_r (leb lo x) (leb x hi) h) }

-- ---- the bounds, each the true least and largest

pub image_lines_lem : (mode : ℕ) → Within 120 496 (spec_of mode).image_lines
unfolding rows
image_lines_lem = within 120 496 (λ (spec : ModeSpec). spec.image_lines) tt

pub radio_lines_lem : (mode : ℕ) → Within 120 256 (radio_lines (spec_of mode))
unfolding rows radio_lines
radio_lines_lem = within 120 256 radio_lines tt

pub window_lines_lem : (mode : ℕ) → Within 8 30 (window_lines (spec_of mode))
unfolding rows window_lines
window_lines_lem = within 8 30 window_lines tt

-- w
pub window_probes_lem : (mode : ℕ) → Within 5514 23161 (window_probes (spec_of mode))
unfolding rows window_probes of_int
window_probes_lem = within 5514 23161 window_probes tt

-- P at the working rate
pub image_probes_lem : (mode : ℕ) → Within 22128 741092 (image_probes (spec_of mode) working_rate)
unfolding rows image_probes of_int
image_probes_lem = within 22128 741092 (λ (spec : ModeSpec). image_probes spec working_rate) tt

-- W
pub line_width_lem : (mode : ℕ) → Within 38 515 (line_width (spec_of mode))
unfolding rows line_width
line_width_lem = within 38 515 line_width tt

pub window_probes_fit : (mode : ℕ) → window_probes (spec_of mode) < 2 ^ 64
window_probes_fit mode = lt_of_le_of_lt (window_probes_lem mode).high (lit< tt)

pub pulse_columns_700 : (mode : ℕ) → Within 5 73 (pulse_columns (spec_of mode) 700)
unfolding rows pulse_columns of_int
pulse_columns_700 = within 5 73 (λ (spec : ModeSpec). pulse_columns spec 700) tt

-- the pulse columns among 700 of each mode, in the order of the modes
abbrev pub columns700 : List ℕ
columns700 = 28 ∷ 19 ∷ 14 ∷ 42 ∷ 42 ∷ 21 ∷ 49 ∷ 49 ∷ 73 ∷ 15 ∷ 23 ∷ 6 ∷ 8 ∷ 15 ∷ 8 ∷ 5 ∷ []

pub pulse_columns_700_is : (mode : ℕ) → pulse_columns (spec_of mode) 700 ≡ get_or columns700 mode 5
unfolding spec_of pulse_columns of_int
pulse_columns_700_is mode = sym (get_or-map (λ (spec : ModeSpec). pulse_columns spec 700) rows mode wraase180)

-- ---- L and S are finite and above zero, and so is S / L

pub line_seconds_lem : (mode : ℕ) → T (positive (spec_of mode).line_seconds)
unfolding rows
line_seconds_lem = holds (λ (spec : ModeSpec). positive spec.line_seconds) tt

pub sync_seconds_lem : (mode : ℕ) → T (positive (spec_of mode).sync_seconds)
unfolding rows
sync_seconds_lem = holds (λ (spec : ModeSpec). positive spec.sync_seconds) tt

pub pulse_share : (mode : ℕ) → T (positive (div binary64 (spec_of mode).sync_seconds (spec_of mode).line_seconds))
unfolding rows div
pulse_share = holds (λ (spec : ModeSpec). positive (div binary64 spec.sync_seconds spec.line_seconds)) tt
