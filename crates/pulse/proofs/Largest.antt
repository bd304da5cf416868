-- Laws of the first place with the largest value, and of how many places have it. Assumes nothing.
use mathlib.Core.Path.{◌≡◌, refl, ap, sym, ◌∙◌}
use mathlib.Core.Bool.{Bool, true, false, cond, not}
use mathlib.Core.List.{List}
use Prim.Native.Nat.{ℕ, zero, suc, ◌+◌, ◌≤◌, ◌<◌, ◌^◌, max}
use native.Mathlib.Nat.{add-zero, max-le}
use native.Mathlib.Numerals.{add-one}
use native.Mathlib.Omega.{arith}
use lib.ListN.{length, get_or}
use lib.Dec.{T, ltb, eqb, ltb→lt, nltb→le}
use borrow.Author.Count.{below_more}
use borrow.Author.Tests.{eq-eqb, ne_eqb, eqb-true, eqb-false}
use Rattle.pulse.specs.Sums.{largest, first_with, count_with, FirstLargest}
use Rattle.pulse.specs.PulseWindow.{window_sum, best_window}
use Rattle.pulse.specs.Steps.{better_of, steeper_of}
use Rattle.pulse.specs.declared.BestWindow.{BestWindow}
use Rattle.pulse.specs.declared.FallingPlace.{FallingPlace}
use Rattle.pulse.proofs.Sums.{window_below}

largest_below : (f : ℕ → ℕ) (n v : ℕ) → ((k : ℕ) → k < n → f k ≤ v) → largest f n ≤ v
unfolding largest
largest_below f zero v h = omega arith
largest_below f (suc n) v h = max-le (largest_below f n v (λ k l. h k (omega arith))) (h n (omega arith))

pub largest_above : (f : ℕ → ℕ) (n k : ℕ) → k < n → f k ≤ largest f n
unfolding largest
largest_above f zero k l = absurd (omega arith)
largest_above f (suc n) k l = go (ltb k n) (ltb→lt k n) (nltb→le k n) (largest_above f n k)
  where
    go : (t : Bool) → (T t → k < n) → (T (not t) → n ≤ k) → (k < n → f k ≤ largest f n) → f k ≤ max (largest f n) (f n)
    go true a b h = omega (arith, h (a tt))
    go false a b h = let e : k ≡ n = omega (arith, b tt) in let d : f k ≡ f n = ap f e in omega arith

first_at : (f : ℕ → ℕ) (v k d n : ℕ) → d < n → f (k + d) ≡ v → ((i : ℕ) → i < d → f (k + i) ≡ v → ⊥) → first_with f v k n ≡ k + d
unfolding first_with
first_at f v k d zero l e h = absurd (omega arith)
first_at f v k zero (suc n) l e h = let z : k + 0 ≡ k = omega arith in rw (eq-eqb (f k) v (sym (ap f z) ∙ e)) (sym z)
first_at f v k (suc d) (suc n) l e h =
    let a : k + suc d ≡ suc k + d = omega arith in
    let t : first_with f v (suc k) n ≡ suc k + d =
    first_at f v (suc k) d n (omega arith) (sym (ap f a) ∙ e) (λ i b g. let j : suc k + i ≡ k + suc i = omega arith in h (suc i) (omega arith) (sym (ap f j) ∙ g)) in
    let z : k + 0 ≡ k = omega arith in
    rw (ne_eqb (f k) v (λ g. h 0 (omega arith) (ap f z ∙ g))) (t ∙ sym a)

module _ (f : ℕ → ℕ) (n at v : ℕ) (h : FirstLargest f n at v) where
  pub largest_is : largest f n ≡ v
  largest_is =
      let a : largest f n ≤ v = largest_below f n v h.highest in
      let b : f at ≤ largest f n = largest_above f n at h.within in
      omega (arith, h.reached)

  pub first_is : first_with f v 0 n ≡ at
  first_is =
      let z : (i : ℕ) → 0 + i ≡ i = λ i. omega arith in
      first_at f v 0 at n h.within (ap f (z at) ∙ h.reached) (λ i l e. let d : f i < v = h.first i l in let g : f i ≡ v = sym (ap f (z i)) ∙ e in omega arith)
      ∙ z at

-- ---- one more place

pub first_one : (f : ℕ → ℕ) → FirstLargest f 1 0 (f 0)
first_one f =
    record {
      within = omega arith;
      reached = refl;
      highest = λ k l. let e : k ≡ 0 = omega arith in rw e (omega arith);
      first = λ k l. absurd (omega arith);
    }

pub first_more : (f : ℕ → ℕ) (n s at v : ℕ) → s ≡ f n → FirstLargest f n at v → FirstLargest f (n + 1) (cond (ltb v s) n at) (cond (ltb v s) s v)
first_more f n s at v e h = go (ltb v s) (ltb→lt v s) (nltb→le v s)
  where
    go : (t : Bool) → (T t → v < s) → (T (not t) → s ≤ v) → FirstLargest f (n + 1) (cond t n at) (cond t s v)
    go true g l =
        record {
          within = omega arith;
          reached = sym e;
          highest = below_more _ n (λ k b. omega (arith, h.highest k b, g tt)) (omega arith);
          first = λ k b. omega (arith, h.highest k b, g tt);
        }
    go false g l =
        record {
          within = omega arith;
          reached = h.reached;
          highest = below_more _ n h.highest (omega (arith, l tt));
          first = h.first;
        }

-- so of some places one is the first with the largest value
first_of_lem : (f : ℕ → ℕ) (n : ℕ) → 0 < n → FirstLargest f n (first_with f (largest f n) 0 n) (largest f n)
first_of_lem f n h = let k = found n h in rw (largest_is f n k.0 k.1 k.2, first_is f n k.0 k.1 k.2) k.2
  where
    found : (n : ℕ) → 0 < n → (at : ℕ) × (v : ℕ) × FirstLargest f n at v
    found zero h = absurd (omega arith)
    found (suc zero) h = (0, f 0, first_one f)
    found (suc (suc n)) h =
        let k = found (suc n) (omega arith) in
        let v = k.1 in
        (cond (ltb v (f (suc n))) (suc n) k.0, cond (ltb v (f (suc n))) (f (suc n)) v, rw add-one at (first_more f (suc n) (f (suc n)) k.0 v refl k.2))

pub steeper_more : (f : ℕ → ℕ) (n s : ℕ) (b : FallingPlace) → s ≡ f n → FirstLargest f n b.at b.fall
    → FirstLargest f (n + 1) (steeper_of b n s).at (steeper_of b n s).fall
steeper_more f n s b e h = go (ltb b.fall s) (first_more f n s b.at b.fall e h)
  where
    go : (t : Bool) → FirstLargest f (n + 1) (cond t n b.at) (cond t s b.fall)
        → FirstLargest f (n + 1) (cond t (record { at = n; fall = s }) b).at (cond t (record { at = n; fall = s }) b).fall
    go true k = k
    go false k = k

-- ---- how many

pub count_most : (f : ℕ → ℕ) (v n : ℕ) → count_with f v n ≤ n
unfolding count_with
count_most f v zero = omega arith
count_most f v (suc n) = go (eqb (f n) v) (count_most f v n)
  where
    go : (t : Bool) → count_with f v n ≤ n → count_with f v n + cond t 1 0 ≤ suc n
    go true h = omega arith
    go false h = omega arith

count_more : (f : ℕ → ℕ) (v n : ℕ) → count_with f v (n + 1) ≡ count_with f v n + cond (eqb (f n) v) 1 0
unfolding count_with
count_more f v n = rw add-one

count_none : (f : ℕ → ℕ) (v n : ℕ) → ((k : ℕ) → k < n → f k < v) → count_with f v n ≡ 0
unfolding count_with
count_none f v zero h = refl
count_none f v (suc n) h =
    let e = count_none f v n (λ k l. h k (omega arith)) in
    let d : f n < v = h n (omega arith) in
    rw (e, ne_eqb (f n) v (λ g. omega arith))

-- a place with the value is counted
count_some : (f : ℕ → ℕ) (v n k : ℕ) → k < n → f k ≡ v → 1 ≤ count_with f v n
unfolding count_with
count_some f v zero k l e = absurd (omega arith)
count_some f v (suc n) k l e = go (eqb (f n) v) refl (ltb k n) (ltb→lt k n) (nltb→le k n) (λ a. count_some f v n k a e)
  where
    go : (t : Bool) → eqb (f n) v ≡ t → (u : Bool) → (T u → k < n) → (T (not u) → n ≤ k) → (k < n → 1 ≤ count_with f v n) → 1 ≤ count_with f v n + cond t 1 0
    go true q u a b i = omega arith
    go false q true a b i = omega (arith, i (a tt))
    go false q false a b i = let d : n ≡ k = omega (arith, b tt) in absurd (eqb-false (f n) v q (ap f d ∙ e))

-- the windows seen so far
pub record Best (f : ℕ → ℕ) (n : ℕ) (b : BestWindow) : Type 0 where
  pub first : FirstLargest f n b.start b.sum
  pub count : b.windows ≡ count_with f b.sum n

pub best_one : (f : ℕ → ℕ) (s : ℕ) → s ≡ f 0 → Best f 1 (record { start = 0; sum = s; windows = 1 })
unfolding count_with
best_one f s e = record { first = rw e (first_one f); count = rw (e, eq-eqb (f 0) (f 0) refl) }

pub better_more : (f : ℕ → ℕ) (n s : ℕ) (b : BestWindow) → s ≡ f n → Best f n b → Best f (n + 1) (better_of b n s)
better_more f n s b e h =
    go (ltb b.sum s) (eqb s b.sum) refl (ltb→lt b.sum s) (first_more f n s b.start b.sum e h.first)
  where
    go : (t u : Bool) → eqb s b.sum ≡ u → (T t → b.sum < s) → FirstLargest f (n + 1) (cond t n b.start) (cond t s b.sum)
        → Best f (n + 1) (cond t (record { start = n; sum = s; windows = 1 }) (cond u (record { start = b.start; sum = s; windows = b.windows + 1 }) b))
    go true u q g k =
        record {
          first = k;
          count = sym (count_more f s n ∙ rw (count_none f s n (λ i j. omega (arith, h.first.highest i j, g tt)), eq-eqb (f n) s (sym e)));
        }
    go false true q g k =
        let same : s ≡ b.sum = eqb-true s b.sum q in
        record {
          first = rw same k;
          count = sym (count_more f s n ∙ rw (eq-eqb (f n) s (sym e), same, ← h.count));
        }
    go false false q g k =
        record {
          first = k;
          count = sym (count_more f b.sum n ∙ rw (ne_eqb (f n) b.sum (λ d. eqb-false s b.sum q (e ∙ d)), ← h.count) (add-zero b.windows));
        }

-- ---- the windows

pub best_is : (counts : List ℕ) (width : ℕ) (b : BestWindow) → Best (window_sum counts width) (length counts) b → b ≡ best_window counts width
unfolding best_window
best_is counts width b h =
    let f = window_sum counts width in
    rw (
      largest_is f (length counts) b.start b.sum h.first,
      first_is f (length counts) b.start b.sum h.first,
      ← h.count,
    )

-- a sum that some window has and none exceeds is the best window's
pub best_sum : (counts : List ℕ) (width at v : ℕ) → FirstLargest (window_sum counts width) (length counts) at v → v ≡ (best_window counts width).sum
unfolding best_window
best_sum counts width at v h = sym (largest_is (window_sum counts width) (length counts) at v h)

-- the best window starts within the counts
pub best_within : (counts : List ℕ) (width : ℕ) → 0 < length counts → (best_window counts width).start < length counts
unfolding best_window
best_within counts width h = (first_of_lem (window_sum counts width) (length counts) h).within

-- 1 to n starts reach the largest sum
pub windows_some : (counts : List ℕ) (width : ℕ) → 0 < length counts → 1 ≤ (best_window counts width).windows
unfolding best_window
windows_some counts width h = let k = first_of_lem (window_sum counts width) (length counts) h in count_some (window_sum counts width) _ (length counts) _ k.within k.reached

pub windows_most : (counts : List ℕ) (width : ℕ) → (best_window counts width).windows ≤ length counts
unfolding best_window
windows_most counts width = count_most (window_sum counts width) (largest (window_sum counts width) (length counts)) (length counts)

-- the best sum of 65,536 counts of 32 bits at most
pub best_below : (counts : List ℕ) (width : ℕ) → ((k : ℕ) → get_or counts k 0 < 2 ^ 32) → width ≤ 65536 → (best_window counts width).sum ≤ 281474976645120
unfolding best_window
best_below counts width h w = largest_below (window_sum counts width) (length counts) 281474976645120 (λ k l. window_below counts width k h w)
