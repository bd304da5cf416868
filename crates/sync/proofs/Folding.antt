-- Laws of the final fold: a line is added to the counts, and after n lines each count is its column's sum. Assumes nothing.
use mathlib.Core.Path.{◌≡◌, ap, sym, ◌∙◌}
use mathlib.Core.List.{List}
use Prim.Native.Nat.{ℕ, ◌+◌, ◌*◌, ◌^◌, ◌≤◌, ◌<◌}
use native.Mathlib.Nat.{zero-add}
use native.Mathlib.Omega.{arith}
use lib.ListN.{length, get_or}
use lib.Seq.{ext_get_or}
use lib.Ieee.{Float, nan, binary64, add}
use Rattle.columns.specs.Columns.{list_to, probe_of}
use Rattle.columns.proofs.Lists.{length_list, get_d_list}
use Rattle.pulse.proofs.Sums.{sum_more, sum_below}
use Rattle.sync.specs.Fold.{line_seconds, column_seconds, flag_at, fold_flag, column_count, fold_of}
use Rattle.sync.specs.Steps.{Added}

-- ---- the lines

module _ (flags : List ℕ) (rate line : Float) where
  -- a line more: the flags at y * L and the columns' times
  pub lines_more : (old new : List ℕ) (times : List Float) (start : Float) (y : ℕ) → times ≡ list_to (column_seconds line) 700 → start ≡ line_seconds line y
      → ((x : ℕ) → x < 700 → get_or old x 0 ≡ column_count flags rate line y x) → Added (λ x. flag_at flags rate start (get_or times x nan)) 700 old new
      → (x : ℕ) → x < 700 → get_or new x 0 ≡ column_count flags rate line (y + 1) x
  unfolding fold_flag
  lines_more old new times start y t e h a x l =
      a.sum x l
      ∙ ap (λ (z : ℕ). z + flag_at flags rate start (get_or times x nan)) (h x l)
      ∙ ap (λ (z : ℕ). column_count flags rate line y x + z) (ap (λ (s : Float). flag_at flags rate s (get_or times x nan)) e ∙ ap (flag_at flags rate (line_seconds line y)) (rw t (get_d_list (column_seconds line) 700 x nan l)))
      ∙ sym (sum_more (fold_flag flags rate line x) 0 y ∙ ap (λ (z : ℕ). column_count flags rate line y x + fold_flag flags rate line x z) (zero-add y))

-- ---- the fold

pub fold_is : (flags counts : List ℕ) (rate line : Float) (n : ℕ) → length counts ≡ 700 → ((x : ℕ) → x < 700 → get_or counts x 0 ≡ column_count flags rate line n x) → counts ≡ fold_of flags rate line n
unfolding fold_of
fold_is flags counts rate line n s h =
    ext_get_or 0 counts (list_to (column_count flags rate line n) 700) (s ∙ sym (length_list (column_count flags rate line n) 700))
    (λ x l. let b : x < 700 = omega arith in h x b ∙ sym (get_d_list (column_count flags rate line n) 700 x 0 b))

pub fold_length : (flags : List ℕ) (rate line : Float) (n : ℕ) → length (fold_of flags rate line n) ≡ 700
unfolding fold_of
fold_length flags rate line n = length_list (column_count flags rate line n) 700

-- flags of a byte, at most 65,536 lines
pub count_below : (flags : List ℕ) (rate line : Float) (n x : ℕ) → ((k : ℕ) → get_or flags k 0 < 2 ^ 8) → n ≤ 65536 → column_count flags rate line n x ≤ 16711680
unfolding fold_flag flag_at
count_below flags rate line n x h b =
    let c : column_count flags rate line n x ≤ n * 255 = sum_below (fold_flag flags rate line x) 255 0 n (λ y. flag_below y) in
    omega arith
  where
    flag_below : (y : ℕ) → fold_flag flags rate line x y ≤ 255
    flag_below y = omega (arith, h (probe_of (add binary64 (line_seconds line y) (column_seconds line x)) rate))
