-- Laws of a flag that is looked up, and of the counts of a fold. Assumes nothing.
use mathlib.Core.Path.{◌≡◌, refl, sym, ◌∙◌}
use mathlib.Core.Bool.{Bool, true, false, cond, not}
use mathlib.Core.List.{List}
use Prim.Native.Nat.{ℕ, zero, suc, ◌+◌, ◌≤◌, ◌<◌}
use native.Mathlib.Numerals.{add-one}
use native.Mathlib.Omega.{arith}
use mir.Val.{bool_byte}
use lib.Dec.{eqb}
use lib.Ieee.{Float}
use lib.ListN.{length, get_or, replicate}
use lib.Seq.{ext_get_or}
use Rattle.columns.specs.Columns.{probe_of}
use Rattle.window_fold.specs.Fold.{hit_by, hit_at, hits_to, lines_at, fold_to}
use Rattle.window_fold.specs.Steps.{bit_at, places_of, added_to}
use Rattle.columns.proofs.Lists.{length_list, get_d_list, zero_list}

-- ---- one flag

-- a test that is made a number
test_bit : (b : Bool) → bool_byte (not b) ≡ cond b 0 1
test_bit true = refl
test_bit false = refl

pub bit_test : (window : List ℕ) (i : ℕ) → bool_byte (not (eqb (get_or window i 0) 0)) ≡ bit_at window i
unfolding bit_at
bit_test window i = test_bit (eqb (get_or window i 0) 0)

pub bit_hit : (samples : Float) (window : List ℕ) (lines : Float) (i : ℕ) → i ≡ probe_of lines samples → bit_at window i ≡ hit_by samples window lines
unfolding hit_by bit_at
bit_hit samples window lines i e = rw e

bit : (b : Bool) → cond b 0 1 ≤ 1
bit true = omega arith
bit false = omega arith

pub bit_small : (window : List ℕ) (i : ℕ) → bit_at window i ≤ 1
unfolding bit_at
bit_small window i = bit (eqb (get_or window i 0) 0)

pub hit_small : (samples : Float) (window : List ℕ) (lines : Float) → hit_by samples window lines ≤ 1
unfolding hit_by
hit_small samples window lines = bit (eqb (get_or window (probe_of lines samples) 0) 0)

-- ---- the counts

module _ (samples : Float) (window : List ℕ) where
  pub hits_most : (x n : ℕ) → hits_to samples window x n ≤ n
  unfolding hits_to hit_at
  hits_most x zero = omega arith
  hits_most x (suc n) = omega (arith, hits_most x n, hit_small samples window (lines_at n x))

  pub hits_next : (x n : ℕ) → hits_to samples window x (n + 1) ≡ hits_to samples window x n + hit_at samples window n x
  unfolding hits_to
  hits_next x n = rw add-one

  pub fold_length : (n : ℕ) → length (fold_to samples window n) ≡ 700
  unfolding fold_to
  fold_length n = length_list (λ x. hits_to samples window x n) 700

  pub fold_at : (n x : ℕ) → x < 700 → get_or (fold_to samples window n) x 0 ≡ hits_to samples window x n
  unfolding fold_to
  fold_at n x h = get_d_list (λ k. hits_to samples window k n) 700 x 0 h

  pub fold_none : replicate 700 0 ≡ fold_to samples window 0
  unfolding fold_to hits_to
  fold_none = zero_list (λ x. hits_to samples window x 0) (λ x. refl) 700

-- ---- one line more

module _ (window places counts : List ℕ) where
  pub added_length : length (added_to window places counts) ≡ 700
  unfolding added_to
  added_length = length_list (λ x. get_or counts x 0 + bit_at window (get_or places x 0)) 700

  pub added_at : (x : ℕ) → x < 700 → get_or (added_to window places counts) x 0 ≡ get_or counts x 0 + bit_at window (get_or places x 0)
  unfolding added_to
  added_at x h = get_d_list (λ k. get_or counts k 0 + bit_at window (get_or places k 0)) 700 x 0 h

module _ (samples : Float) (window : List ℕ) (y : ℕ) where
  place_at : (x : ℕ) → x < 700 → get_or (places_of samples y) x 0 ≡ probe_of (lines_at y x) samples
  unfolding places_of
  place_at x h = get_d_list (λ k. probe_of (lines_at y k) samples) 700 x 0 h

  place_hit : (x : ℕ) → x < 700 → bit_at window (get_or (places_of samples y) x 0) ≡ hit_at samples window y x
  unfolding hit_at
  place_hit x h = bit_hit samples window (lines_at y x) (get_or (places_of samples y) x 0) (place_at x h)

  pub fold_added : added_to window (places_of samples y) (fold_to samples window y) ≡ fold_to samples window (y + 1)
  fold_added =
      let old = fold_to samples window y in
      let new = added_to window (places_of samples y) old in
      let n : length new ≡ 700 = added_length window (places_of samples y) old in
      ext_get_or 0 new (fold_to samples window (y + 1)) (n ∙ sym (fold_length samples window (y + 1)))
      (λ i h.
      let l : i < 700 = rw n at h in
      added_at window (places_of samples y) old i l ∙ rw (fold_at samples window y i l, place_hit i l) (sym (hits_next samples window i y)) ∙ sym (fold_at samples window (y + 1) i l))
